-- The keys and commands that typed bytes stand for. This project's profile; the codes of keys: Apple II Reference
-- Manual (1979), page 7.
use Rattle.std.specs.Prelude.{ℕ, Bool, true, false, List, [], ◌∷◌, Option, Some, None, ◌<◌, ◌==◌, nat_le, ◌&&◌, ◌||◌, if◌then◌else◌, drop}
use Rattle.std.specs.List.{prefix_len}
use Rattle.a2_text.specs.Bytes.{capital, is_between}
use Rattle.a2_tty.specs.declared.apple_keys.Stroke.{Stroke}
use Rattle.a2_tty.specs.declared.apple_keys.Stroke.TheVariants.{Key, Prefix, Order, Nothing}
use Rattle.a2_tty.specs.declared.apple_keys.Order.TheVariants as order

-- the first key or command, and the bytes after it
pub record First : Type 0 where
  pub stroke : Stroke
  pub rest : List ℕ

-- a key has seven bits
abbrev pub HasSevenBits : Stroke → Type 0
HasSevenBits (Key key) = key < 128
HasSevenBits stroke = Unit {0}

-- the key for a byte: RUB OUT is the left arrow, letters are upper-case, and there are none from $80 up
abbrev pub key_of : ℕ → Stroke
key_of byte = if byte == 0x7F then Key 0x08 else if nat_le byte 0x7E then Key (capital byte) else Nothing

-- the key for an arrow, given its letter
abbrev pub arrow_of : ℕ → Stroke
arrow_of letter = if letter == 0x43 then Key 0x15 else if letter == 0x44 then Key 0x08 else Nothing

-- the meaning of a byte after the prefix, in upper or lower case; the prefix typed twice is its own key
abbrev pub session_command : ℕ → Stroke
session_command letter =
    if letter == 0x51 then Order order.Quit else if letter == 0x50 then Order order.Pause else if letter == 0x53 then Order order.Step
    else if letter == 0x42 then Order order.Back else if (letter == 0x2B) || (letter == 0x3D) then Order order.Faster
    else if letter == 0x2D then Order order.Slower
    else if letter == 0x52 then Order order.Restart else if letter == 0x4B then Order order.Save
    else if letter == 0x44 then Order order.Debug else if letter == 0x4C then Order order.Redraw else if letter == 0x1D then Key 0x1D else Nothing

abbrev pub order_of : ℕ → Stroke
order_of byte = session_command (capital byte)

-- the bytes that a terminal sends for an arrow: ESC, [ or O, and A to D
abbrev pub is_arrow : ℕ → ℕ → ℕ → Bool
is_arrow byte kind letter = (byte == 0x1B) && ((kind == 0x5B) || (kind == 0x4F)) && is_between 0x41 0x44 letter

-- the meaning of bytes without a prefix and without an arrow, given by the first byte
abbrev pub plain : ℕ → List ℕ → First
plain byte rest = record { stroke = if byte == 0x1D then Prefix else key_of byte; rest = rest }

-- the bytes after a final byte of a control sequence (ECMA-48, section 5.4)
abbrev pub after_final : List ℕ → Option (List ℕ)
after_final [] = None
after_final (byte ∷ rest) = if is_between 0x40 0x7E byte then Some rest else None

-- the bytes after its parameter and intermediate bytes
abbrev pub after_parameters : List ℕ → List ℕ
after_parameters bytes = drop (prefix_len (is_between 0x20 0x3F) bytes) bytes

-- the bytes after what a terminal sends for a key, given those after its ESC: [, parameters and a final byte; or O and a final byte
abbrev pub after_sequence : List ℕ → Option (List ℕ)
after_sequence [] = None
after_sequence (kind ∷ rest) =
    if kind == 0x5B then after_final (after_parameters rest) else if kind == 0x4F then after_final rest else None

-- such a key is not one of an Apple II, if it is no arrow to the left or right; without one, ESC is a key
abbrev pub escaped : Option (List ℕ) → List ℕ → First
escaped None rest = record { stroke = Key 0x1B; rest = rest }
escaped (Some following) rest = record { stroke = Nothing; rest = following }

abbrev pub keyed : ℕ → List ℕ → First
keyed byte rest = if byte == 0x1B then escaped (after_sequence rest) rest else plain byte rest

abbrev pub first : Bool → List ℕ → Option First
first is_ordered [] = None
first true (byte ∷ rest) = Some (record { stroke = order_of byte; rest = rest })
first false (byte ∷ []) = Some (keyed byte [])
first false (byte ∷ kind ∷ []) = Some (keyed byte (kind ∷ []))
first false (byte ∷ kind ∷ letter ∷ rest) =
    Some (if is_arrow byte kind letter then record { stroke = arrow_of letter; rest = rest } else keyed byte (kind ∷ letter ∷ rest))
