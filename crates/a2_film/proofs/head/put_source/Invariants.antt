use Rattle.std.proofs.Common.{map, drop}
use Rattle.std.specs.List.{flat_map}
use Rattle.a2_page.proofs.Sending.{IsLeft}
use Rattle.a2_film.specs.Rows.{source_line}
use Rattle.a2_film.proofs.head.put_source.Given as goal

-- the lines so far were written
abbrev pub invariant-loop-text : goal.invariant-loop-text
invariant-loop-text g l =
    IsLeft (g.W.Output.taker l.fn.writer) (g.W.Output.taker l.writer)
    (flat_map source_line (map (λ x. x.now) l.texts)) (flat_map source_line (drop l.text-index (map (λ x. x.now) l.texts)))
