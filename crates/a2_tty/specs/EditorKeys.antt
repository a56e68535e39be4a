-- The keys of the line editor, and the bytes that a terminal sends for them. This project's profile.
use Rattle.std.specs.Prelude.{ℕ, ◌==◌, ◌||◌, if◌then◌else◌, Option, Some, None}
use Rattle.a2_text.specs.Bytes.{is_between}
use Rattle.a2_tty.specs.declared.line_editor.keys.Key.{Key}
use Rattle.a2_tty.specs.declared.line_editor.keys.Key.TheVariants as key
use Rattle.a2_tty.specs.declared.line_editor.keys.Sequence.{Sequence}
use Rattle.a2_tty.specs.declared.line_editor.keys.Sequence.TheVariants.{Plain, Escape, Opened, Numbered}
use Rattle.a2_tty.specs.declared.line_editor.keys.Heard.{Heard}

-- a key ended, or the bytes are not a key; and a key continues
abbrev pub ended : Option Key → Heard
ended key = record { next = Plain; key = key }

abbrev pub amid : Sequence → Heard
amid next = record { next = next; key = None }

-- characters, and control characters: Ctrl-A, C, D, E, H and Rub Out, J and Return, K, L, U, W
abbrev pub key_of : ℕ → Option Key
key_of byte =
    if is_between 0x20 0x7E byte then Some (key.Letter byte) else if byte == 0x01 then Some key.Start else if byte == 0x03 then Some key.GiveUp
    else if byte == 0x04 then Some key.Leave else if byte == 0x05 then Some key.End else if (byte == 0x08) || (byte == 0x7F) then Some key.RubOut
    else if (byte == 0x0A) || (byte == 0x0D) then Some key.Return else if byte == 0x0B then Some key.DropRest
    else if byte == 0x0C then Some key.Clear else if byte == 0x15 then Some key.DropFront else if byte == 0x17 then Some key.DropWord else None

-- ESC [ and a letter: A to D, H and F
abbrev pub lettered : ℕ → Option Key
lettered letter =
    if letter == 0x41 then Some key.Older else if letter == 0x42 then Some key.Newer else if letter == 0x43 then Some key.Right
    else if letter == 0x44 then Some key.Left else if letter == 0x48 then Some key.Start else if letter == 0x46 then Some key.End else None

-- ESC [, a digit and ~
abbrev pub numbered : ℕ → Option Key
numbered digit =
    if (digit == 0x31) || (digit == 0x37) then Some key.Start else if digit == 0x33 then Some key.Delete
    else if (digit == 0x34) || (digit == 0x38) then Some key.End else None

-- the effect of a byte at this position; several digits do not make a key
abbrev pub heard : Sequence → ℕ → Heard
heard Plain byte = if byte == 0x1B then amid Escape else ended (key_of byte)
heard Escape byte = if byte == 0x1B then amid Escape else if (byte == 0x5B) || (byte == 0x4F) then amid Opened else ended None
heard Opened byte = if is_between 0x30 0x3F byte then amid (Numbered byte) else ended (lettered byte)
heard (Numbered digit) byte =
    if is_between 0x30 0x3F byte then amid (Numbered 0) else if byte == 0x7E then ended (numbered digit) else ended None
