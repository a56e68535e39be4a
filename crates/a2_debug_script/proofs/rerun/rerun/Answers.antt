use Rattle.std.proofs.Common.{◌≡◌, ◌+◌, ◌%◌, ◌<◌, ◌≤◌, ◌∷◌, [], ◌++◌, length, take, get_or, arith, ap}
use Rattle.std.proofs.lemmas.List.{take_more, length-take-le}
use Rattle.std.proofs.lemmas.List.Elements.{All-more}
use Rattle.a2_machine.specs.State.{Device}
use Rattle.a2_debug_script.specs.declared.Typed.{Typed}
use Rattle.a2_debug_script.specs.Stored.{world_with_keys}
use Rattle.a2_debug_script.proofs.Keys.{NoneBelow-first, NoneBelow-next, NoneBelow-rest}
use Rattle.a2_debug_script.proofs.Places.{at_front}
use Rattle.a2_debug_script.proofs.Steps.{at_steps, typed_is, typed_on}
use Rattle.a2_debug_script.proofs.rerun.rerun.Goals as goal

pub loop-i-init : goal.loop-i-init
loop-i-init g c = record {
  here = at_front _ c.args.log.now _ _ _ c.requires.here (rw c.steps.ensures at c.typed_below-i.ensures.under) (rw c.steps.ensures at c.typed_below-i.ensures.later);
  ahead = c.requires.ahead;
  more = omega arith;
  past = omega (arith, c.typed_below-i.ensures.under);
  later = rw c.steps.ensures at c.typed_below-i.ensures.later;
  made = λ small. omega arith;
}

pub run_on-requires-clause-ahead : goal.run_on-requires-clause-ahead
run_on-requires-clause-ahead g c = NoneBelow-first c.args.log.now c.loop-i.i _ _ c.loop-i.invariant.later (omega arith)

pub run_on-requires-clause-later : goal.run_on-requires-clause-later
run_on-requires-clause-later g c = NoneBelow-rest c.args.log.now c.loop-i.i _ c.requires.logged.order (omega arith)

pub loop-i-preserved : goal.loop-i-preserved
loop-i-preserved g c =
    let t : Typed = get_or c.args.log.now c.loop-i.i (record { count = 0; key = 0 }) in
    let within : c.loop-i.i < length c.args.log.now = omega arith in
    let longer : take (c.loop-i.i + 1) c.args.log.now ≡ take c.loop-i.i c.args.log.now ++ t ∷ [] = take_more c.args.log.now c.loop-i.i _ within in
    let first = NoneBelow-first c.args.log.now c.loop-i.i _ (record { count = 0; key = 0 }) c.loop-i.invariant.later within in
    let most = c.requires.logged.past c.loop-i.i (record { count = 0; key = 0 }) within in
    let key : t.key % 128 ≡ t.key = omega (arith, c.requires.logged.codes c.loop-i.i (record { count = 0; key = 0 }) within) in
    let one : c.one.result ≡ t.key ∷ [] = rw key at c.one.ensures in
    let few : length (take c.loop-i.i c.args.log.now) + 1 ≤ 4096 = omega (arith, length-take-le c.loop-i.i c.args.log.now (omega (arith, within)), c.requires.logged.keys, within) in
    let room = rw one at c.type_keys.ensures.room in
    let typed = rw one at c.type_keys.ensures.typed in
    let is = typed_is (take c.loop-i.i c.args.log.now) c.run_on.new.machine c.type_keys.new.self (t.key ∷ []) c.type_keys.result c.run_on.ensures.there few room typed in
    let after = typed_on (take c.loop-i.i c.args.log.now) c.run_on.new.machine c.type_keys.new.self (t.key ∷ []) c.type_keys.result c.run_on.ensures.there few room typed in
    let made : c.type_keys.new.self.made ≡ c.run_on.new.machine.made = ap (λ (d : Device). d.made) is in
    record {
      here = rw longer (at_steps (world_with_keys _ (take c.loop-i.i c.args.log.now ++ t ∷ [])) c.type_keys.new.self.state after);
      ahead = omega (arith, most, after.steps);
      more = omega (arith, first, after.steps);
      past = All-more (λ x. x.count ≤ c.type_keys.new.self.state.steps) c.args.log.now _ (record { count = 0; key = 0 }) within (λ k d x. omega (arith, first, after.steps, c.loop-i.invariant.past k d x)) (omega (arith, after.steps));
      later = rw after.steps (NoneBelow-next c.args.log.now c.loop-i.i (record { count = 0; key = 0 }) c.requires.logged.order within);
      made = λ small. omega (arith, small, most, first, made, after.steps, c.run_on.ensures.made, c.loop-i.invariant.made small);
    }
