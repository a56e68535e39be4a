use Rattle.std.proofs.Common.{◌≡◌, ℕ, ◌%◌, ◌-◌, ◌∙◌, ap, arith}
use Rattle.a2_debug_script.specs.Stored.{Stored, up_to, world_before_keys}
use Rattle.a2_debug_script.proofs.Steps.{at_steps}
use Rattle.a2_debug_script.proofs.Sessions.{session_back, logged_back}
use Rattle.a2_debug_script.proofs.Places.{places_back, brought_back}
use Rattle.a2_debug_script.proofs.debugger.Debugger.back.Goals as goal

pub rerun-requires-clause-here : goal.rerun-requires-clause-here
rerun-requires-clause-here g c =
    rw (c.deref.ensures.value, c.forget_after.ensures.items)
    (at_steps (world_before_keys _ (up_to (c.self.inside.count - c.args.n) c.self.inside.log.items)) c.load_newest.new.machine.state
    (brought_back c.self.invariant.2 (c.self.inside.count - c.args.n) _ c.load_newest.new.machine.state (omega arith) (omega arith)
    c.truncate.ensures.held c.load_newest.ensures.state (c.load_newest.ensures.guard ∙ c.self.invariant.0.current.guarded)))

pub rerun-requires-clause-ahead : goal.rerun-requires-clause-ahead
rerun-requires-clause-ahead g c =
    let newest = brought_back c.self.invariant.2 (c.self.inside.count - c.args.n) _ c.load_newest.new.machine.state (omega arith) (omega arith)
    c.truncate.ensures.held c.load_newest.ensures.state (c.load_newest.ensures.guard ∙ c.self.invariant.0.current.guarded) in
    omega (arith, newest.steps)

pub rerun-requires-clause-logged : goal.rerun-requires-clause-logged
rerun-requires-clause-logged g c =
    rw (c.deref.ensures.value, c.forget_after.ensures.items) (logged_back _ _ c.self.inside.count _ (omega arith) c.self.invariant.0.logged)

pub invariant_of-self : goal.invariant_of-self
invariant_of-self g c = rw (c.forget_after.ensures.items, c.truncate.ensures.held) (
  record {
    current = rw (c.deref.ensures.value, c.forget_after.ensures.items) at c.rerun.ensures.there;
    logged = logged_back _ _ c.self.inside.count _ (omega arith) c.self.invariant.0.logged;
    few = omega (arith, c.self.invariant.0.few);
  },
  omega (arith, c.forget_after.ensures.capacity, c.self.invariant.1),
  places_back _ _ _ _ _ c.self.invariant.2 (c.self.inside.count - c.args.n) (omega arith) (omega arith),
)

pub returns : goal.returns
returns g c =
    let newest = brought_back c.self.invariant.2 (c.self.inside.count - c.args.n) _ c.load_newest.new.machine.state (omega arith) (omega arith)
    c.truncate.ensures.held c.load_newest.ensures.state (c.load_newest.ensures.guard ∙ c.self.invariant.0.current.guarded) in
    let target : ℕ = c.self.inside.count - c.args.n in
    let again : target - (target - target % 1024) ≡ target % 1024 = omega arith in
    let total = ap (λ (s : Stored). s.made) c.self.view_is in (
      rw (← c.self.view_is) (omega arith),
      rw (← c.self.view_is, c.forget_after.ensures.items) (session_back _ c.args.n (c.self.inside.count - c.args.n) _ _ (omega arith)),
      rw (← c.self.view_is, c.forget_after.ensures.items, again),
      λ small. omega (arith, small, total, newest.steps, c.rerun.ensures.made, c.load_newest.ensures.made, c.truncate.ensures.made),
    )
