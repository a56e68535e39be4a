use Rattle.std.proofs.Common.{◌≡◌, List, ap, ◌∙◌, subst, arith}
use Rattle.a2_history.specs.declared.actions.Logged.{Logged}
use Rattle.a2_history.specs.Bursts.{IsQuiet}
use Rattle.a2_history.specs.Courses.{Course}
use Rattle.a2_history.specs.Acting.{IsActedBy}
use Rattle.a2_history.proofs.Leaping.{burst-on, burst-quiet, burst-shown}
use Rattle.a2_history.proofs.course.Course.leap.Goals as goal

pub returns-clause-on : goal.returns-clause-on
returns-clause-on g c =
    let same : c.as_slice.result.now ≡ c.args.self.now.log = c.as_slice.ensures.value ∙ ap (λ (k : Course). k.log) c.self.view_is in
    let same_too : c.as_slice-2.result.now ≡ c.args.self.now.log = c.as_slice-2.ensures.value ∙ ap (λ (k : Course). k.log) c.self.view_is in
    burst-on c.args.self.now _ c.next_logged_position-quiet.result c.args.machine.now c.burst.new.machine c.act_logged.new.machine
    (record { world = c.requires.on.world; went = c.requires.on.went }) c.requires.guard c.in_default.ensures.made
    (subst (λ (xs : List Logged). IsQuiet xs c.args.machine.now.state.steps c.next_logged_position-quiet.result) same
    (subst (λ n. IsQuiet c.as_slice.result.now n c.next_logged_position-quiet.result) c.steps-from.ensures c.next_logged_position-quiet.ensures.quiet))
    (omega (arith, c.steps-from.ensures, c.next_logged_position-quiet.ensures.ahead))
    (subst (λ (xs : List Logged). IsActedBy xs c.burst.new.machine.state c.act_logged.new.machine.state) same_too c.act_logged.ensures)

pub returns-clause-quiet : goal.returns-clause-quiet
returns-clause-quiet g c =
    let same : c.as_slice.result.now ≡ c.args.self.now.log = c.as_slice.ensures.value ∙ ap (λ (k : Course). k.log) c.self.view_is in
    let same_too : c.as_slice-2.result.now ≡ c.args.self.now.log = c.as_slice-2.ensures.value ∙ ap (λ (k : Course). k.log) c.self.view_is in
    burst-quiet c.args.self.now _ c.next_logged_position-quiet.result c.args.machine.now c.burst.new.machine c.act_logged.new.machine
    (record { world = c.requires.on.world; went = c.requires.on.went }) c.requires.guard c.in_default.ensures.made
    (subst (λ (xs : List Logged). IsQuiet xs c.args.machine.now.state.steps c.next_logged_position-quiet.result) same
    (subst (λ n. IsQuiet c.as_slice.result.now n c.next_logged_position-quiet.result) c.steps-from.ensures c.next_logged_position-quiet.ensures.quiet))
    (omega (arith, c.steps-from.ensures, c.next_logged_position-quiet.ensures.ahead))
    (subst (λ (xs : List Logged). IsActedBy xs c.burst.new.machine.state c.act_logged.new.machine.state) same_too c.act_logged.ensures)

pub returns-clause-seen : goal.returns-clause-seen
returns-clause-seen g c =
    let same : c.as_slice.result.now ≡ c.args.self.now.log = c.as_slice.ensures.value ∙ ap (λ (k : Course). k.log) c.self.view_is in
    let same_too : c.as_slice-2.result.now ≡ c.args.self.now.log = c.as_slice-2.ensures.value ∙ ap (λ (k : Course). k.log) c.self.view_is in
    burst-shown c.args.self.now _ c.next_logged_position-quiet.result c.args.machine.now c.burst.new.machine c.act_logged.new.machine
    (record { world = c.requires.on.world; went = c.requires.on.went }) c.requires.guard c.in_default.ensures.made
    (subst (λ (xs : List Logged). IsQuiet xs c.args.machine.now.state.steps c.next_logged_position-quiet.result) same
    (subst (λ n. IsQuiet c.as_slice.result.now n c.next_logged_position-quiet.result) c.steps-from.ensures c.next_logged_position-quiet.ensures.quiet))
    (omega (arith, c.steps-from.ensures, c.next_logged_position-quiet.ensures.ahead))
    (subst (λ (xs : List Logged). IsActedBy xs c.burst.new.machine.state c.act_logged.new.machine.state) same_too c.act_logged.ensures)
    g.O.Observer.seen c.args.observer.now c.burst.new.observer c.burst.ensures.seen
