use Rattle.std.specs.Prelude.{◌||◌}
use Rattle.std.proofs.Common.{◌∙◌, ◌≡◌, ℕ, Bool, false, ◌+◌, ◌-◌, ◌<◌, sym, ap, arith}
use Rattle.a2_bus.specs.View.{memory_of}
use Rattle.a2_trace.specs.Choices.{is_other_at, differ_from}
use Rattle.a2_trace.proofs.Storing.{differ_next}
use Rattle.a2_trace.proofs.choice.differ.Goals as goal

pub loop-address-preserved : goal.loop-address-preserved
loop-address-preserved g c =
    let old = memory_of c.args.old.now.state.bus in
    let new = memory_of c.args.new.now.state.bus in
    let address = c.loop-address.address in
    let left = c.args.span.last + 1 - address in
    let some : 0 < left = omega (arith, c.loop-address-test.true, c.from-address-end.ensures) in
    let fewer : left - 1 ≡ c.args.span.last + 1 - (address + 1) = omega arith in
    let same : is_other_at old new address ≡ false = sym c.is_other_at.ensures ∙ c.if-is_other_at.false in (
      omega (arith, c.loop-address.invariant.0),
      c.loop-address.invariant.1 ∙ differ_next old new address left some
          ∙ ap (λ (b : Bool). b || differ_from old new (address + 1) (left - 1)) same
          ∙ ap (λ (n : ℕ). differ_from old new (address + 1) n) fewer,
    )
