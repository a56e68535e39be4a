-- S-records, the records of Motorola (M68000 Family Programmer's Reference Manual, revision 1, 1992, appendix C).
use Rattle.std.specs.Prelude.{ℕ, ◌+◌, ◌-◌, ◌*◌, ◌==◌, ◌||◌, nat_lt, true, false, List, [], length, take, drop, slice_index, Result, Ok, Err, if◌then◌else◌}
use Rattle.a2_text.specs.Signs.{sign}
use Rattle.a2_formats.specs.declared.fault.Flaw.{Flaw}
use Rattle.a2_formats.specs.declared.fault.Flaw.TheVariants.{Length, Checksum, Kind}
use Rattle.a2_formats.specs.Records.{Step, sum_of_bytes}

-- how many bytes the address of a record has, by the digit of its type
abbrev pub address_len : ℕ → ℕ
address_len kind =
    if (kind == sign "2") || (kind == sign "6") || (kind == sign "8") then 3
    else if (kind == sign "3") || (kind == sign "7") then 4 else 2

-- the number that the first two, three or four bytes mean, the highest one first
abbrev pub number_of : ℕ → List ℕ → ℕ
number_of width bytes =
    if width == 2 then slice_index bytes 0 * 256 + slice_index bytes 1
    else if width == 3 then (slice_index bytes 0 * 256 + slice_index bytes 1) * 256 + slice_index bytes 2
    else ((slice_index bytes 0 * 256 + slice_index bytes 1) * 256 + slice_index bytes 2) * 256 + slice_index bytes 3

-- Types 1, 2 and 3 are data, and 7, 8 and 9 end the file. Type 0 is a title, and 5 and 6 count the records: an image holds
-- neither.
abbrev pub s_act : ℕ → ℕ → List ℕ → Result Step Flaw
s_act kind start bytes =
    if (kind == sign "1") || (kind == sign "2") || (kind == sign "3") then Ok (record { start = start; bytes = bytes; base = 0; ends = false })
    else if (kind == sign "7") || (kind == sign "8") || (kind == sign "9") then Ok (record { start = 0; bytes = []; base = 0; ends = true })
    else if (kind == sign "0") || (kind == sign "5") || (kind == sign "6") then Ok (record { start = 0; bytes = []; base = 0; ends = false })
    else Err Kind

-- The bytes of a record after its type: the count of those that follow, the address, the data, and the checksum, with which
-- the sum of all of them is one less than a multiple of 256.
abbrev pub s_step : ℕ → List ℕ → Result Step Flaw
s_step kind bytes =
    if nat_lt (length bytes) (address_len kind + 2) then Err Length
    else if length bytes == slice_index bytes 0 + 1
    then (if sum_of_bytes bytes == 255
    then s_act kind (number_of (address_len kind) (drop 1 bytes)) (take (slice_index bytes 0 - address_len kind - 1) (drop (address_len kind) (drop 1 bytes)))
    else Err Checksum)
    else Err Length
