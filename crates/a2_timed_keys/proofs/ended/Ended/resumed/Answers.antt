use Rattle.std.proofs.Common.{◌≡◌, List, ap, arith, subst, sym}
use Rattle.a2_machine.specs.ByteRun.{bytes}
use Rattle.a2_machine.specs.State.{Device}
use Rattle.a2_run.specs.Meaning.{start_of_run}
use Rattle.a2_run.specs.Started.{guard_of_run}
use Rattle.a2_timed_keys.specs.declared.strokes.Typed.{Typed}
use Rattle.a2_timed_keys.specs.Finished.{Finished}
use Rattle.a2_timed_keys.specs.Typed.{IsRunning, keys_at, with_keys}
use Rattle.a2_timed_keys.proofs.Running.{same_state}
use Rattle.a2_timed_keys.proofs.EndLaws.{running_of}
use Rattle.a2_timed_keys.proofs.ended.Ended.resumed.Goals as goal

pub returns-in-Some : goal.returns-in-Some
returns-in-Some g c =
    let new = c.copy_from.new.self in
    let steps : new.state.steps ≡ c.in-Some.copy.now.state.steps = ap (λ (d : Device). d.state.steps) c.copy_from.ensures in
    subst (λ (f : Finished). IsRunning (bytes (guard_of_run f.free f.program)) (start_of_run f.program f.keys) f.log c.args.until new.state.steps new)
    c.self.view_is
    (same_state _ _ _ c.args.until new.state.steps c.in-Some.copy.now new (ap (λ (d : Device). d.state) c.copy_from.ensures)
    (omega (arith, steps, c.in-Some.ensures.few)) (sym steps) (c.in-Some.ensures.copy _ _ _ c.self.invariant.1))

pub type_due-requires : goal.type_due-requires
type_due-requires g c = rw c.as_slice.ensures.keys c.as_slice.ensures.codes

pub returns-then-type_due : goal.returns-then-type_due
returns-then-type_due g c =
    let old = c.in_ok-machine-2.machine in
    let new = c.type_due.new.machine in
    let e = c.self.inside in
    subst (λ (f : Finished). IsRunning (bytes (guard_of_run f.free f.program)) (start_of_run f.program f.keys) f.log c.args.until new.state.steps new)
    c.self.view_is
    (running_of e.program.now e.args.run.keys.now e.args.strokes.now c.args.until e.args.run.free old new c.in_ok-machine-2.ensures
    (subst (λ (l : List Typed). new ≡ with_keys (keys_at l 0) old) c.as_slice.ensures.keys (c.type_due.ensures.typed c.if-type_due.true))
    (c.type_due.ensures.room c.if-type_due.true))
