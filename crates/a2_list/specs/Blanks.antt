-- The blanks between columns. This project's profile.
use Rattle.std.specs.Prelude.{ℕ, List, take, codes}

-- so many blanks, but at most 32
abbrev pub blanks : ℕ → List ℕ
blanks n = take n (codes "                                ")
