use Rattle.a2_scripts.proofs.Scripting.{told_line}
use Rattle.a2_scripts.proofs.scripts.SessionLineAnswerer.answer.Goals as goal

pub returns-in_default-fault : goal.returns-in_default-fault
returns-in_default-fault g c =
    told_line c.args.line.now _ _ _ _ _ c.put_all.result c.in-Err.fault c.in_default-fault.not-Write c.in-Err.ensures.answers
    (rw (c.as_bytes.ensures.value, c.text.ensures) at c.put_all.ensures)
