-- The records of Intel HEX (Intel, Hexadecimal Object File Format Specification, revision A, 1988), and the extended linear
-- address record and start linear address record of 32 bits from there.
use Rattle.std.specs.Prelude.{ℕ, ◌+◌, ◌*◌, ◌==◌, ◌||◌, true, false, List, [], ◌∷◌, length, take, drop, nat_lt, slice_index, Result, Ok, Err, if◌then◌else◌}
use Rattle.a2_formats.specs.declared.fault.Flaw.{Flaw}
use Rattle.a2_formats.specs.declared.fault.Flaw.TheVariants.{Length, Checksum, Kind}
use Rattle.a2_formats.specs.Records.{Step, sum_of_bytes}

-- a record that sets the base to a multiple of its two bytes
abbrev pub base_step : List ℕ → ℕ → Result Step Flaw
base_step (high ∷ low ∷ []) factor = Ok (record { start = 0; bytes = []; base = (high * 256 + low) * factor; ends = false })
base_step _ factor = Err Length

-- Type 0 is data, 1 the end of the file, 2 a segment, which is a base in units of 16 bytes, and 4 a base in units of 64
-- kilobytes. Types 3 and 5 say where a program starts, which an image does not hold.
abbrev pub hex_act : ℕ → ℕ → ℕ → List ℕ → Result Step Flaw
hex_act base kind offset bytes =
    if kind == 0 then Ok (record { start = base + offset; bytes = bytes; base = base; ends = false })
    else if kind == 1 then Ok (record { start = 0; bytes = []; base = base; ends = true })
    else if kind == 2 then base_step bytes 16
    else if kind == 4 then base_step bytes 65536
    else if (kind == 3) || (kind == 5) then Ok (record { start = 0; bytes = []; base = base; ends = false })
    else Err Kind

-- The bytes of a record: the count of its data bytes, the offset in two bytes, the higher one first, the type, the data, and
-- the checksum, with which the sum of all of them is divisible by 256.
abbrev pub hex_step : ℕ → List ℕ → Result Step Flaw
hex_step base bytes =
    if nat_lt (length bytes) 5 then Err Length
    else if length bytes == slice_index bytes 0 + 5
    then (if sum_of_bytes bytes == 0 then hex_act base (slice_index bytes 3) (slice_index bytes 1 * 256 + slice_index bytes 2) (take (slice_index bytes 0) (drop 4 bytes)) else Err Checksum)
    else Err Length
