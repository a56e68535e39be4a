use Rattle.std.specs.Prelude.{◌||◌, slice_get}
use Rattle.std.proofs.Common.{◌≡◌, ℕ, ◌+◌, Bool, false, Option, arith, add-one, refl, sym, ap, ap₂, ◌∙◌}
use Rattle.a2_debugger.specs.Stops.{is_changed, is_changed_from}
use Rattle.a2_debugger.proofs.stops.is_changed_in.Goals as goal

none : (first : ℕ) (before ram : ℕ → Option ℕ) → false ≡ is_changed_from first 0 before ram
unfolding is_changed_from
none first before ram = refl

more : (first n address : ℕ) (before ram : ℕ → Option ℕ) (was result : Bool) → was ≡ is_changed_from first n before ram → address ≡ first + n
    → result ≡ (was || is_changed address before ram) → result ≡ is_changed_from first (n + 1) before ram
unfolding is_changed_from
more first n address before ram was result so_far at is =
    is ∙ ap₂ (λ b a. b || is_changed a before ram) so_far at ∙ sym (ap (λ m. is_changed_from first m before ram) (add-one n))

pub loop-offset-init : goal.loop-offset-init
loop-offset-init c = none c.args.span.now.first (slice_get c.args.before.now) (slice_get c.args.ram.now)

pub loop-offset-preserved : goal.loop-offset-preserved
loop-offset-preserved c =
    more c.args.span.now.first c.loop-offset.offset (c.from-first.result + c.loop-offset.offset) (slice_get c.args.before.now)
    (slice_get c.args.ram.now) c.loop-offset.is_changed c.is_changed_too-is_changed.result c.loop-offset.invariant (omega arith) c.is_changed_too-is_changed.ensures
