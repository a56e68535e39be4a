use Rattle.std.proofs.Common.{◌≡◌, ◌∷◌, ◌==◌, not, take, filter}
use Rattle.a2_syntax.specs.Texts.{fault_line}
use Rattle.a2_asm.proofs.every.first_and_others.Given as goal

abbrev pub invariant-loop-fault : goal.invariant-loop-fault
invariant-loop-fault g l = l.faults.items ≡ l.first ∷ filter (λ fault. not (fault_line fault == fault_line l.first)) (take l.fault-index l.told)
