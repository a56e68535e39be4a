use Rattle.std.proofs.Common.{◌-◌}
use Rattle.a2_page.proofs.Sending.{IsLeft}
use Rattle.a2_profile.specs.Table.{rows_from}
use Rattle.a2_profile.proofs.addresses.put_each.Given as goal

-- the texts of the addresses so far were written
abbrev pub invariant-loop-address : goal.invariant-loop-address
invariant-loop-address g l =
    IsLeft (g.W.Output.taker l.fn.writer) (g.W.Output.taker l.writer) (rows_from (g.T.ByAddress.text l.texts) 0 65536)
    (rows_from (g.T.ByAddress.text l.texts) l.address (65536 - l.address))
