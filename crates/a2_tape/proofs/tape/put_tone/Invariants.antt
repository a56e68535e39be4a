use Rattle.std.proofs.Common.{◌≡◌}
use Rattle.a2_tape.specs.Tape.{with_tone}
use Rattle.a2_tape.proofs.tape.put_tone.Given as goal

abbrev pub invariant-loop-i : goal.invariant-loop-i
invariant-loop-i l = l.wave.items ≡ with_tone l.fn.wave.items l.i
