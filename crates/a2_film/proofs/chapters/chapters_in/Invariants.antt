use Rattle.std.proofs.Common.{◌≡◌, map, take}
use Rattle.a2_film.specs.Chapters.{AreChapters}
use Rattle.a2_film.proofs.chapters.chapters_in.Given as goal

-- the chapters of the lines so far
abbrev pub invariant-loop-line : goal.invariant-loop-line
invariant-loop-line g l = record {
  number : l.number ≡ l.line-index;
  are : AreChapters (take l.line-index (map (λ x. x.now) l.lines)) l.chapters.items;
}
