-- Lines after a mark, because they could not be imported. This project's own.
use Rattle.std.specs.Prelude.{ℕ, Bool, ◌&&◌, ◌==◌, List, get_or}
use Rattle.std.specs.List.{list_any}
use Rattle.a2_text.specs.Lines.{lines}
use Rattle.a2_text.specs.Signs.{sign}

-- a line begins with `??`, as no line of the source language does
abbrev pub is_marked_line : List ℕ → Bool
is_marked_line line = (get_or line 0 0 == sign "?") && (get_or line 1 0 == sign "?")

-- whether a text has such a line
unfoldable pub is_marked : List ℕ → Bool
is_marked text = list_any is_marked_line (lines text)
