use Rattle.std.proofs.Common.{drop}
use Rattle.std.specs.List.{flat_map}
use Rattle.a2_page.proofs.Sending.{IsLeft}
use Rattle.a2_film.specs.Rows.{chapter_line}
use Rattle.a2_film.proofs.head.put_chapters.Given as goal

-- the lines so far were written
abbrev pub invariant-loop-chapter : goal.invariant-loop-chapter
invariant-loop-chapter g l =
    IsLeft (g.W.Output.taker l.fn.writer) (g.W.Output.taker l.writer)
    (flat_map chapter_line l.chapters) (flat_map chapter_line (drop l.chapter-index l.chapters))
