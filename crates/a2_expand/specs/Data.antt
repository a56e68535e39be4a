-- The bytes of data. This project's own: docs/manual/larger-language.md, "Data". The screen codes are those of the Apple II Reference Manual
-- (1979), chapter 2.
use Rattle.std.specs.Prelude.{ℕ, ◌+◌, ◌%◌, Bool, Option, Some, None, if◌then◌else◌}
use Rattle.a2_text.specs.Bytes.{is_between}
use Rattle.a2_text.specs.Signs.{sign as code}

-- the code of a character from the blank to `_` in inverse, or flashing; no other character has one
abbrev pub shown : Bool → ℕ → Option ℕ
shown flashing c =
    if is_between (code " ") (code "_") c then Some (if flashing then 64 + c % 64 else c % 64) else None
