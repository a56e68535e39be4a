use Rattle.std.proofs.Common.{◌≡◌, drop}
use Rattle.std.specs.List.{list_any}
use Rattle.a2_trace.specs.Choices.{is_in}
use Rattle.a2_trace.proofs.choice.is_any_in.Given as goal

-- none of the addresses so far is in the span
abbrev pub invariant-loop-address : goal.invariant-loop-address
invariant-loop-address l = list_any (is_in l.fn.span) (drop l.address-index l.addresses) ≡ list_any (is_in l.fn.span) l.addresses
