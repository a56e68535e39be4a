-- What a text of records means.
use Rattle.std.specs.Prelude.{ℕ, ◌+◌, ◌==◌, nat_lt, Bool, true, false, List, [], ◌∷◌, length, drop, slice_index, Option, Result, Ok, Err, if◌then◌else◌}
use Rattle.hex.specs.Hex.{decode_of}
use Rattle.hex.specs.declared.error.FromHexError.{FromHexError}
use Rattle.a2_text.specs.Lines.{lines}
use Rattle.a2_text.specs.Signs.{sign}
use Rattle.a2_hex.specs.Images.{no_bytes}
use Rattle.a2_formats.specs.declared.fault.Flaw.{Flaw}
use Rattle.a2_formats.specs.declared.fault.Flaw.TheVariants.{Form, Digits, AfterEnd, NoEnd}
use Rattle.a2_formats.specs.declared.fault.FormatFault.{FormatFault}
use Rattle.a2_formats.specs.declared.fault.FormatFault.TheVariants.{At}
use Rattle.a2_formats.specs.declared.reading.Records.{Records}
use Rattle.a2_formats.specs.declared.reading.Records.TheVariants.{Intel, Motorola}
use Rattle.a2_formats.specs.Laying.{laid, ◌>>=◌}
use Rattle.a2_formats.specs.Records.{Step}
use Rattle.a2_formats.specs.IntelHex.{hex_step}
use Rattle.a2_formats.specs.Motorola.{s_step}

-- how many characters a line has before its digits: `:`, or `S` and the type
abbrev pub front_len : Records → ℕ
front_len Intel = 1
front_len Motorola = 2

-- the character with which each line begins
abbrev pub sign_of : Records → ℕ
sign_of Intel = sign ":"
sign_of Motorola = sign "S"

-- what a record does, by the character before its digits and its bytes
abbrev pub step_of : Records → ℕ → ℕ → List ℕ → Result Step Flaw
step_of Intel base kind bytes = hex_step base bytes
step_of Motorola base kind bytes = s_step kind bytes

-- the bytes of pairs of digits of either case
abbrev pub in_pairs : ℕ → Result (List ℕ) FromHexError → Result (List ℕ) FormatFault
in_pairs n (Ok bytes) = Ok bytes
in_pairs n (Err fault) = Err (At n Digits)

-- the bytes of the record in line n
abbrev pub payload : Records → ℕ → List ℕ → Result (List ℕ) FormatFault
payload records n line =
    if nat_lt (length line) (front_len records) then Err (At n Form)
    else if slice_index line 0 == sign_of records then in_pairs n (decode_of (drop (front_len records) line))
    else Err (At n Form)

-- what was read so far: the image, the base, and whether the file has ended
pub record Read : Type 0 where
  pub image : ℕ → Option ℕ
  pub base : ℕ
  pub ended : Bool

-- after a step of line n
abbrev pub after_step : ℕ → (ℕ → Option ℕ) → Result Step Flaw → Result Read FormatFault
after_step n image (Ok step) = laid n image step.start step.bytes >>= (λ after. Ok (record { image = after; base = step.base; ended = step.ends }))
after_step n image (Err flaw) = Err (At n flaw)

-- after a record of line n with these bytes
abbrev pub after_bytes : Records → ℕ → (ℕ → Option ℕ) → ℕ → ℕ → List ℕ → Result Read FormatFault
after_bytes records n image base kind bytes = after_step n image (step_of records base kind bytes)

-- after line n, which may be empty
unfoldable pub after_line : Records → ℕ → Read → List ℕ → Result Read FormatFault
after_line records n before line =
    if length line == 0 then Ok before
    else if before.ended then Err (At n AfterEnd)
    else payload records n line >>= after_bytes records n before.image before.base (slice_index line 1)

-- after the lines, which are numbered from n on, or the first error
abbrev pub after_lines : Records → ℕ → Read → List (List ℕ) → Result Read FormatFault
after_lines records n before [] = Ok before
after_lines records n before (line ∷ lines) = after_line records n before line >>= (λ after. after_lines records (n + 1) after lines)

-- the image of a text whose last line is line n, if a record ended it
abbrev pub whole : ℕ → Read → Result (ℕ → Option ℕ) FormatFault
whole n after = if after.ended then Ok after.image else Err (At n NoEnd)

-- before the first line
abbrev pub start : Read
start = record { image = no_bytes; base = 0; ended = false }

-- the image that a text of records has, or its first error
abbrev pub image_of : Records → List ℕ → Result (ℕ → Option ℕ) FormatFault
image_of records text = after_lines records 1 start (lines text) >>= whole (length (lines text))
