use Rattle.std.proofs.Common.{◌≡◌, ℕ, ◌+◌, List, map}
use Rattle.a2_syntax.specs.declared.fault.Fault.TheVariants.{Syntax}
use Rattle.a2_check.proofs.Numbering.{AreUnreadTo}
use Rattle.a2_check.proofs.unread.unread.Given as goal

-- the errors are those of the lines so far
abbrev pub invariant-loop-text : goal.invariant-loop-text
invariant-loop-text g l = record {
  counted : l.n ≡ l.text-index + 1;
  found : (numbers : List ℕ) × (l.faults.items ≡ map Syntax numbers) × AreUnreadTo (map (λ x. x.now) l.texts) l.text-index numbers;
}
