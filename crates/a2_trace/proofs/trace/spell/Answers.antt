use Rattle.std.proofs.Common.{refl}
use Rattle.a2_machine.specs.Output.{line_of_digits}
use Rattle.a2_trace.specs.Traced.{fields}
use Rattle.a2_trace.proofs.trace.spell.Goals as goal

pub returns : goal.returns
unfolding line_of_digits fields
returns g c =
    rw (
      c.put_text-3.ensures,
      c.put_text-2.ensures,
      c.fields.ensures,
      c.regs.ensures.value,
      c.put_number-2.ensures.bytes,
      c.steps.ensures,
      c.put_text.ensures,
      c.put_number.ensures.bytes,
      c.cycles.ensures,
      c.put.ensures,
      c.requires,
    ) refl
