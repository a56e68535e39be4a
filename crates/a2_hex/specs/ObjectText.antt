-- The object lines of an image: this project's profile of the Monitor's lines that change memory (Apple II Reference
-- Manual 1979, chapter 3).
use Rattle.std.specs.Prelude.{◌≡◌, ℕ, zero, suc, ◌+◌, ◌-◌, ◌%◌, ◌==◌, Bool, ◌&&◌, ◌||◌, not, List, [], ◌∷◌, ◌++◌, Option, Some, None, is_some, Result, Ok, Err, if◌then◌else◌}
use Rattle.std.specs.List.{flat_map}
use Rattle.a2_text.specs.Digits.{hex_pair, hex_word}
use Rattle.a2_text.specs.Signs.{sign}
use Rattle.a2_stream.specs.Stream.{Taker, Sends, Breaks}
use Rattle.a2_hex.specs.Images.{ram_end}

-- a blank, and a byte as two digits
abbrev pub after_blank : ℕ → List ℕ
after_blank byte = 32 ∷ hex_pair byte

-- bytes of two digits, separated by one blank
abbrev pub spaced : List ℕ → List ℕ
spaced [] = []
spaced (byte ∷ bytes) = hex_pair byte ++ flat_map after_blank bytes

-- nothing at a gap, otherwise the byte and then the others
abbrev pub to_gap : Option ℕ → List ℕ → List ℕ
to_gap None others = []
to_gap (Some byte) others = byte ∷ others

-- the bytes from an address upwards to the first gap, but at most n
abbrev pub run : (ℕ → Option ℕ) → ℕ → ℕ → List ℕ
run image a zero = []
run image a (suc n) = to_gap (image a) (run image (a + 1) n)

-- whether a line begins here: at a byte whose address is divisible by 8 or follows a gap
abbrev pub begins_line : (ℕ → Option ℕ) → ℕ → Bool
begins_line image a = is_some (image a) && (a % 8 == 0 || not (is_some (image (a - 1))))

-- the line that begins here: the address, `:`, and the bytes up to a gap or the next address divisible by 8
abbrev pub line_at : (ℕ → Option ℕ) → ℕ → List ℕ
line_at image a = hex_word a ++ sign ":" ∷ spaced (run image a (8 - a % 8))

-- the lines that begin below an address, by rising address
unfoldable pub lines_below : (ℕ → Option ℕ) → ℕ → List (List ℕ)
lines_below image zero = []
lines_below image (suc a) = lines_below image a ++ (if begins_line image a then line_at image a ∷ [] else [])

-- the text of some lines, with a line feed after each
abbrev pub text_of_lines : List (List ℕ) → List ℕ
text_of_lines lines = flat_map (λ line. line ++ 10 ∷ []) lines

-- the object lines of an image of RAM
unfoldable pub object_text : (ℕ → Option ℕ) → List ℕ
object_text image = text_of_lines (lines_below image ram_end)

-- A line was put after those gathered, and a front of all this may have been sent; or a write of the gathered lines
-- broke off.
abbrev pub Gathers : {T E : Type 0} → Taker → Taker → Result T E → List ℕ → List ℕ → List ℕ → Type 0
Gathers old new (Ok _) before line after = (sent : List ℕ) × Sends old new sent × (sent ++ after ≡ before ++ line)
Gathers old new (Err _) before line after = Breaks old new before
