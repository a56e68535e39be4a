use Rattle.std.proofs.Common.{drop}
use Rattle.a2_page.proofs.Sending.{IsLeft}
use Rattle.a2_profile.specs.Callgrind.{name_line}
use Rattle.a2_profile.proofs.ItemLaws.{name_rest}
use Rattle.a2_profile.proofs.callgrind.put_name.Given as goal

-- the bytes so far were written
abbrev pub invariant-loop-byte : goal.invariant-loop-byte
invariant-loop-byte g l =
    IsLeft (g.W.Output.taker l.fn.writer) (g.W.Output.taker l.writer) (name_line l.name) (name_rest (drop l.byte-index l.name))
