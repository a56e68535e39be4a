-- The page of a film: the bytes before its data, and those after them. This project's own.
use Rattle.std.specs.Prelude.{ℕ, List}
use Rattle.a2_film.specs.declared.viewer.TheConstants.{HEAD, TAIL}

unfoldable pub head : List ℕ
head = HEAD.now

unfoldable pub tail : List ℕ
tail = TAIL.now
