use Rattle.a2_effect.specs.View.{registers_of}
use Rattle.a2_promise_certify.proofs.Certifying.{board_bytes}
use Rattle.a2_promise_certify.proofs.clauses.sight_of.Goals as goal

pub returns-clause-moment : goal.returns-clause-moment
returns-clause-moment c = λ i. record {
  registers = registers_of c.args.regs.now;
  bytes = board_bytes c.args.space.now c.peek-first.ensures.size i;
  cycles = c.args.cycles;
  steps = c.args.steps;
}
