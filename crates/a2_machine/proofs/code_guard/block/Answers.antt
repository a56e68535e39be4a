use Rattle.std.proofs.Common.{◌∙◌}
use Rattle.std.proofs.lemmas.List.{length-set}
use Rattle.a2_machine.specs.CodeGuards.{is_blocked}
use Rattle.a2_machine.proofs.Numbering.{number_is, one_asked}
use Rattle.a2_machine.proofs.code_guard.block.Goals as goal

pub loop-service-preserved : goal.loop-service-preserved
loop-service-preserved c = record {
  size = length-set c.loop-service.blocked _ _ ∙ c.loop-service.invariant.size;
  done = one_asked c.loop-service.blocked (is_blocked c.args.blocked.now) c.loop-service.service-index c.args.address _ c.reach.result
      c.loop-service.invariant.size c.loop-service-test.true (number_is c.loop-service.service-index c.loop-service-test.true) c.reach.ensures
      c.loop-service.invariant.done;
}
