use Rattle.std.specs.Prelude.{◌≡◌, ◌⊎◌, ◌<◌, ℕ, ◌+◌}
use Rattle.std.proofs.Common.{sym, subst, arith, inl, inr}
use Rattle.a2_promise_certify.specs.Certifying.{IsStateTried, start_of}
use Rattle.a2_promise_certify.proofs.every_state.are_tried.Goals as goal

below_or_last : (k n : ℕ) → k < n + 1 → (k < n) ⊎ (k ≡ n)
below_or_last k n lt = grind (arith, lt)

pub loop-number-preserved : goal.loop-number-preserved
loop-number-preserved c = (
  c.is_state_tried.ensures.ready c.if-not-is_state_tried.false,
  λ k lt. go k (below_or_last k c.loop-number.number lt),
)
  where
    go : (k : ℕ) → (k < c.loop-number.number) ⊎ (k ≡ c.loop-number.number)
        → (let setup = c.args.setup.now in IsStateTried setup.known.now setup.parts setup.promise.now setup.most (start_of setup k))
    go k (inl low) = c.loop-number.invariant.1 k low
    go k (inr e) =
        subst (λ n. let setup = c.args.setup.now in IsStateTried setup.known.now setup.parts setup.promise.now setup.most (start_of setup n)) (sym e)
        (c.is_state_tried.ensures.tried c.if-not-is_state_tried.false)
