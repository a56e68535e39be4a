use Rattle.std.proofs.Common.{◌-◌, length, rules, arith, false}
use Rattle.a2_expand.specs.Expressions.{pieces}
use Rattle.a2_expand.specs.Pieces.{pieces_of, pieces_up_to}
use Rattle.a2_expand.proofs.Pieces.{read_on, stop, used_up}
use Rattle.a2_expand.proofs.token.tokens_of.Goals.{else-loop-count-test, then-loop-count-test+in_default}
use Rattle.a2_expand.proofs.token.tokens_of.Goals as goal

pub loop-count-preserved : goal.loop-count-preserved
loop-count-preserved g c = read_on (length c.args.text.now) c.loop-count.count c.loop-count.after_term c.ends_term-after_term.result
    c.loop-count.rest.now c.in-Some.following.now c.loop-count.found.items c.push.new.self.items (pieces_up_to (length c.args.text.now) false c.args.text.now)
    c.in-Some.placed (omega arith) (search rules) (search rules) (search rules) c.loop-count.invariant

pub returns : goal.returns
unfolding pieces_of
returns g c = elim c.loop-count-test.branch [
  | else-loop-count-test w ↦ used_up (length c.args.text.now) c.loop-count.count c.loop-count.after_term c.loop-count.rest.now (pieces c.loop-count.found.items)
      (pieces_up_to (length c.args.text.now) false c.args.text.now) (omega arith) c.loop-count.invariant
  | then-loop-count-test+in_default w ↦ stop (length c.args.text.now - c.loop-count.count) c.loop-count.after_term c.loop-count.rest.now (pieces c.loop-count.found.items)
      (pieces_up_to (length c.args.text.now) false c.args.text.now) (search rules) c.loop-count.invariant
]
