use Rattle.std.proofs.Common.{drop}
use Rattle.std.specs.List.{flat_map}
use Rattle.a2_page.proofs.Sending.{IsLeft}
use Rattle.a2_film.proofs.texts.put_plain.Given as goal
use Rattle.a2_film.specs.Rows.{plain_byte}

-- the bytes so far were written
abbrev pub invariant-loop-byte : goal.invariant-loop-byte
invariant-loop-byte g l =
    IsLeft (g.W.Output.taker l.fn.writer) (g.W.Output.taker l.writer) (flat_map plain_byte l.text)
    (flat_map plain_byte (drop l.byte-index l.text))
