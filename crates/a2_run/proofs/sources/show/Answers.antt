use Rattle.std.proofs.Common.{arith}
use Rattle.a2_effect.specs.View.{registers_of}
use Rattle.a2_run.proofs.Lengths.{output-few, never-broke}
use Rattle.a2_run.proofs.sources.show.Goals as goal

pub returns-in_err-write_output : goal.returns-in_err-write_output
returns-in_err-write_output g c =
    let s = c.args.machine.now.state in
    absurd (never-broke _ c.write_output.new.writer.bytes.items c.write_output.new.writer.failed _ c.new-output.ensures c.in_err-write_output.ensures c.write_output.new.writer.full
    (output-few c.args.options.attr s.bus (registers_of s.regs) s.steps s.cycles c.args.cause (omega (arith, c.steps.ensures, c.steps.type_inv)) (omega (arith, c.cycles.ensures, c.cycles.type_inv))))
