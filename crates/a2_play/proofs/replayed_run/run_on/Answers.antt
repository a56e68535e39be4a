use Rattle.std.proofs.Common.{◌≡◌, arith, subst}
use Rattle.a2_timed_keys.specs.Typed.{keys_at, with_keys}
use Rattle.a2_play.specs.Agains.{HasRoom}
use Rattle.a2_play.proofs.Remade.{again_on, again_room}
use Rattle.a2_play.proofs.replayed_run.run_on.Goals as goal

pub returns : goal.returns
returns g c = λ program last at inside.
    let old = c.args.machine.now in
    let log = c.args.log.now in
    again_on program log last c.args.end c.next_due-until.result c.min.result old c.type_due.new.machine c.run.new.self c.run.result at inside
    (subst (λ n. HasRoom (keys_at log n) old → c.type_due.new.machine ≡ with_keys (keys_at log n) old) c.steps-made.ensures
    (c.type_due.ensures at.codes) (again_room program log last old at))
    (omega (arith, c.next_due-until.ensures.more, c.steps-made.ensures))
    c.next_due-until.ensures.within
    (λ k l h. c.next_due-until.ensures.none k (omega (arith, l, c.steps-made.ensures)) h)
    (omega (arith, c.min.ensures, c.next_due-until.ensures.more))
    (omega (arith, c.min.ensures, c.steps-made.ensures))
    c.run.ensures
