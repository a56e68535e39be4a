-- What object lines mean, and the image that they load: this project's profile of the Monitor's lines that change
-- memory (Apple II Reference Manual 1979, chapter 3).
use Rattle.std.specs.Prelude.{ℕ, ◌+◌, ◌==◌, Bool, ◌&&◌, nat_lt, List, [], ◌∷◌, length, map, Option, Some, None, Result, Ok, Err, if◌then◌else◌}
use Rattle.std.specs.Option.{option_map}
use Rattle.std.specs.List.{before_first, after_first, list_any}
use Rattle.a2_text.specs.Bytes.{number_in}
use Rattle.a2_text.specs.Lines.{lines}
use Rattle.a2_text.specs.FirstError.{◌otherwise◌}
use Rattle.a2_text.specs.Signs.{sign}
use Rattle.a2_text.specs.Words.{after_blanks, words}
use Rattle.a2_hex.specs.Images.{no_bytes, overlaid, ram_end}
use Rattle.a2_hex.specs.declared.fault.HexFault.{HexFault}
use Rattle.a2_hex.specs.declared.fault.HexFault.TheVariants.{Digit, NoAddress, Outside}

-- an address: 1 to 4 hexadecimal digits
abbrev pub hex_address : List ℕ → Option ℕ
hex_address digits = number_in 16 4 digits

-- a byte: 1 or 2 hexadecimal digits
unfoldable pub byte_of : List ℕ → Option ℕ
byte_of digits = number_in 16 2 digits

-- all the values, if each of them exists
abbrev pub each : List (Option ℕ) → Option (List ℕ)
each [] = Some []
each (None ∷ values) = None
each (Some value ∷ values) = option_map (λ others. value ∷ others) (each values)

-- the byte that the first of some words means
abbrev pub first_byte_of : List (List ℕ) → Option ℕ
first_byte_of [] = None
first_byte_of (word ∷ others) = byte_of word

-- bytes separated by blanks, with or without blanks at both ends
unfoldable pub hex_bytes : List ℕ → Option (List ℕ)
hex_bytes text = each (map byte_of (words text))

-- an optional address
abbrev pub given : List ℕ → Option (Option ℕ)
given [] = Some None
given (c ∷ digits) = option_map Some (hex_address (c ∷ digits))

-- the optional address before `:`, after any blanks
unfoldable pub address_before_colon : List ℕ → Option (Option ℕ)
address_before_colon front = given (after_blanks front)

-- what a line stores: its bytes, and the address of the first one if the line gives it
pub record Store : Type 0 where
  pub address : Option ℕ
  pub bytes : List ℕ

-- an optional address and bytes, if both are valid
abbrev pub both : Option (Option ℕ) → Option (List ℕ) → Option Store
both None bytes = None
both (Some address) bytes = option_map (λ bytes. record { address = address; bytes = bytes }) bytes

-- an optional address, `:`, and bytes
unfoldable pub store_of : List ℕ → Option Store
store_of text =
    if list_any (λ c. c == sign ":") text
    then both (address_before_colon (before_first (λ c. c == sign ":") text)) (hex_bytes (after_first (λ c. c == sign ":") text))
    else None

-- what was loaded: the image, and the address at which a line without an address continues
pub record Loaded : Type 0 where
  pub image : ℕ → Option ℕ
  pub next : Option ℕ

-- whether one of some bytes would be at or above $C000
abbrev pub lies_outside : ℕ → ℕ → Bool
lies_outside at count = nat_lt 0 count && nat_lt ram_end (at + count)

-- the bytes go to the addresses from this one upwards, and the next address is the one after them
abbrev pub after_bytes : ℕ → (ℕ → Option ℕ) → Option ℕ → List ℕ → Result Loaded HexFault
after_bytes n image None bytes = Err (NoAddress n)
after_bytes n image (Some at) bytes =
    if lies_outside at (length bytes) then Err (Outside n) else Ok (record { image = overlaid image at bytes; next = Some (at + length bytes) })

-- a line of another form is an error; a line without an address continues at the next address
abbrev pub after_store_line : ℕ → Loaded → Option Store → Result Loaded HexFault
after_store_line n before None = Err (Digit n)
after_store_line n before (Some store) = after_bytes n before.image (store.address otherwise before.next) store.bytes

-- after line n: unchanged if the line is blank, otherwise with what the line stores; or the error
unfoldable pub after_line : ℕ → Loaded → List ℕ → Result Loaded HexFault
after_line n before line = if length (words line) == 0 then Ok before else after_store_line n before (store_of line)

-- the second step, if the first one succeeded
infixl 10 ◌>>=◌
abbrev pub ◌>>=◌ : {A B : Type 0} → Result A HexFault → (A → Result B HexFault) → Result B HexFault
Ok x >>= f = f x
Err fault >>= f = Err fault

-- after the lines, which are numbered from n on, or the first error
abbrev pub after_lines : ℕ → Loaded → List (List ℕ) → Result Loaded HexFault
after_lines n before [] = Ok before
after_lines n before (line ∷ lines) = after_line n before line >>= (λ after. after_lines (n + 1) after lines)

-- the image that a text loads, or its first error
abbrev pub image_of : List ℕ → Result (ℕ → Option ℕ) HexFault
image_of text = after_lines 1 (record { image = no_bytes; next = None }) (lines text) >>= (λ after. Ok after.image)
