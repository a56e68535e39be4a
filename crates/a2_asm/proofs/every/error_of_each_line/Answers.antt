use Rattle.a2_asm.proofs.every.error_of_each_line.Goals as goal

pub returns-in-Ok : goal.returns-in-Ok
returns-in-Ok g c = simp c.in-Ok.ensures.placed (simp c.in-Ok.ensures.names at c.by_values.ensures)

pub returns-in_ok-refused-in-Err : goal.returns-in_ok-refused-in-Err
returns-in_ok-refused-in-Err g c = simp (c.in-Err.ensures.refused c.in_ok-refused-in-Err.ensures.source) c.by_names.ensures
