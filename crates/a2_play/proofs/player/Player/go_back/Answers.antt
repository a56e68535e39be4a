use Rattle.std.proofs.Common.{◌∙◌, ◌-◌, ℕ, List, ltb, rules, subst, sym, ap}
use Rattle.std.proofs.lemmas.Fn.{filter_same}
use Rattle.a2_timed_keys.specs.declared.strokes.Typed.{Typed}
use Rattle.a2_play.specs.Backs.{WentBack}
use Rattle.a2_play.specs.Played.{Play, IsPlayed}
use Rattle.a2_play.proofs.Remade.{Seeks, Brings, IsBegun, is_back, back_played}
use Rattle.a2_play.proofs.player.Player.go_back.Goals as goal

pub returns-clause-back : goal.returns-clause-back
returns-clause-back g c =
    let program = c.args.program.now in
    let old = c.self.inside.machine in
    let log = c.self.inside.log.items in
    let end = c.steps-end.ensures in
    let given : IsPlayed program c.args.self.now = record {
      holds = c.requires.holds;
      went = c.requires.went;
      guarded = c.requires.guarded;
      past = c.requires.past;
      few = c.requires.few;
      codes = c.requires.codes;
      fits = c.requires.fits;
    } in
    let at : IsPlayed program (record { machine = old; log = log }) = subst (λ (p : Play). IsPlayed program p) (sym c.self.view_is) given in
    let begun : IsBegun program c.begin.new.machine.state
    = record { world = c.begin.ensures.world; steps = c.begin.ensures.steps; guard = c.begin.ensures.guard } in
    let again : IsBegun program c.begin-2.new.machine.state
    = record { world = c.begin-2.ensures.world; steps = c.begin-2.ensures.steps; guard = c.begin-2.ensures.guard } in
    let seeks : Seeks log c.saturating_sub-goal.result old.state.steps 4096 c.seek-before.result c.begin.new.machine.state c.seek-before.new.machine.state
    = subst (λ (l : List Typed). Seeks l c.saturating_sub-goal.result old.state.steps 4096 c.seek-before.result c.begin.new.machine.state
    c.seek-before.new.machine.state) c.as_slice.ensures.value
    (subst (λ (n : ℕ). Seeks c.as_slice.result.now c.saturating_sub-goal.result n 4096 c.seek-before.result c.begin.new.machine.state
    c.seek-before.new.machine.state) end c.seek-before.ensures) in
    let brings : Brings log c.seek-before.result c.begin-2.new.machine.state c.bring.new.machine.state
    = subst (λ (l : List Typed). Brings l c.seek-before.result c.begin-2.new.machine.state c.bring.new.machine.state) c.as_slice-2.ensures.value
    c.bring.ensures in
    let steps : Seeks log c.saturating_sub-goal.result old.state.steps 1 c.seek-position.result c.bring.new.machine.state c.seek-position.new.machine.state
    = subst (λ (l : List Typed). Seeks l c.saturating_sub-goal.result old.state.steps 1 c.seek-position.result c.bring.new.machine.state
    c.seek-position.new.machine.state) c.as_slice-3.ensures.value
    (subst (λ (n : ℕ). Seeks c.as_slice-3.result.now c.saturating_sub-goal.result n 1 c.seek-position.result c.bring.new.machine.state
    c.seek-position.new.machine.state) end c.seek-position.ensures) in
    let goal_is = c.saturating_sub-goal.ensures ∙ ap (λ n. n - c.args.cycles) c.cycles.ensures in
    subst (λ (p : Play). WentBack program c.args.cycles p (record { machine = c.seek-position.new.machine; log = c.retain.new.self.items })) c.self.view_is
    (is_back program old c.begin.new.machine c.seek-before.new.machine c.begin-2.new.machine c.bring.new.machine c.seek-position.new.machine log
    c.args.cycles c.saturating_sub-goal.result c.seek-before.result c.seek-position.result at goal_is begun again seeks brings steps
    c.retain.new.self.items c.steps-position.result c.steps-position.ensures
    (filter_same _ (λ t. ltb t.steps c.steps-position.result) _ (λ x b f' k. search rules) _ _ c.retain.ensures.filtered))

pub returns-clause-played : goal.returns-clause-played
returns-clause-played g c =
    let program = c.args.program.now in
    let old = c.self.inside.machine in
    let log = c.self.inside.log.items in
    let end = c.steps-end.ensures in
    let given : IsPlayed program c.args.self.now = record {
      holds = c.requires.holds;
      went = c.requires.went;
      guarded = c.requires.guarded;
      past = c.requires.past;
      few = c.requires.few;
      codes = c.requires.codes;
      fits = c.requires.fits;
    } in
    let at : IsPlayed program (record { machine = old; log = log }) = subst (λ (p : Play). IsPlayed program p) (sym c.self.view_is) given in
    let begun : IsBegun program c.begin.new.machine.state
    = record { world = c.begin.ensures.world; steps = c.begin.ensures.steps; guard = c.begin.ensures.guard } in
    let again : IsBegun program c.begin-2.new.machine.state
    = record { world = c.begin-2.ensures.world; steps = c.begin-2.ensures.steps; guard = c.begin-2.ensures.guard } in
    let seeks : Seeks log c.saturating_sub-goal.result old.state.steps 4096 c.seek-before.result c.begin.new.machine.state c.seek-before.new.machine.state
    = subst (λ (l : List Typed). Seeks l c.saturating_sub-goal.result old.state.steps 4096 c.seek-before.result c.begin.new.machine.state
    c.seek-before.new.machine.state) c.as_slice.ensures.value
    (subst (λ (n : ℕ). Seeks c.as_slice.result.now c.saturating_sub-goal.result n 4096 c.seek-before.result c.begin.new.machine.state
    c.seek-before.new.machine.state) end c.seek-before.ensures) in
    let brings : Brings log c.seek-before.result c.begin-2.new.machine.state c.bring.new.machine.state
    = subst (λ (l : List Typed). Brings l c.seek-before.result c.begin-2.new.machine.state c.bring.new.machine.state) c.as_slice-2.ensures.value
    c.bring.ensures in
    let steps : Seeks log c.saturating_sub-goal.result old.state.steps 1 c.seek-position.result c.bring.new.machine.state c.seek-position.new.machine.state
    = subst (λ (l : List Typed). Seeks l c.saturating_sub-goal.result old.state.steps 1 c.seek-position.result c.bring.new.machine.state
    c.seek-position.new.machine.state) c.as_slice-3.ensures.value
    (subst (λ (n : ℕ). Seeks c.as_slice-3.result.now c.saturating_sub-goal.result n 1 c.seek-position.result c.bring.new.machine.state
    c.seek-position.new.machine.state) end c.seek-position.ensures) in
    let goal_is = c.saturating_sub-goal.ensures ∙ ap (λ n. n - c.args.cycles) c.cycles.ensures in
    back_played program old c.begin.new.machine c.seek-before.new.machine c.begin-2.new.machine c.bring.new.machine c.seek-position.new.machine log
    c.args.cycles c.saturating_sub-goal.result c.seek-before.result c.seek-position.result at goal_is begun again seeks brings steps
    c.retain.new.self.items c.steps-position.result c.steps-position.ensures
    (filter_same _ (λ t. ltb t.steps c.steps-position.result) _ (λ x b f' k. search rules) _ _ c.retain.ensures.filtered)
