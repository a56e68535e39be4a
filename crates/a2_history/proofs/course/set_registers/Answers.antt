use Rattle.a2_history.proofs.Logs.{registers-set}
use Rattle.a2_history.proofs.course.set_registers.Goals as goal

pub returns : goal.returns
returns g c = registers-set c.args.machine.now c.set_regs.new.self c.args.regs c.set_regs.ensures.registers c.set_regs.ensures.left
