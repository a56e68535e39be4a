-- Bytes without gaps, and the binary files of DOS 3.3 (Worth and Lechner, Beneath Apple DOS, 1981, chapter 4).
use Rattle.std.specs.Prelude.{ℕ, ◌+◌, ◌*◌, nat_lt, List, length, drop, slice_index, Option, Result, Err, if◌then◌else◌}
use Rattle.a2_hex.specs.Images.{no_bytes}
use Rattle.a2_formats.specs.declared.fault.Flaw.TheVariants.{Short, Long}
use Rattle.a2_formats.specs.declared.fault.FormatFault.{FormatFault}
use Rattle.a2_formats.specs.declared.fault.FormatFault.TheVariants.{At}
use Rattle.a2_formats.specs.Laying.{laid}

-- the image of bytes from an address upwards; this offset is at fault if they do not fit
abbrev pub plain_image : ℕ → ℕ → List ℕ → Result (ℕ → Option ℕ) FormatFault
plain_image place start bytes = laid place no_bytes start bytes

-- the number in two bytes of a file, the lower one first
abbrev pub word_at : List ℕ → ℕ → ℕ
word_at file at = slice_index file at + 256 * slice_index file (at + 1)

-- a binary file of DOS 3.3: the address, the number of bytes, and exactly that many bytes
abbrev pub dos_image : List ℕ → Result (ℕ → Option ℕ) FormatFault
dos_image file =
    if nat_lt (length file) 4 then Err (At (length file) Short)
    else if nat_lt (length file) (word_at file 2 + 4) then Err (At (length file) Short)
    else if nat_lt (word_at file 2 + 4) (length file) then Err (At (word_at file 2 + 4) Long)
    else plain_image 0 (word_at file 0) (drop 4 file)
