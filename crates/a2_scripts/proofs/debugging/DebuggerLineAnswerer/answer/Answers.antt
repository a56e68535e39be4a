use Rattle.a2_scripts.proofs.DebugScripting.{line_broke, line_told}
use Rattle.a2_scripts.proofs.debugging.DebuggerLineAnswerer.answer.Goals as goal

pub returns-in-Write : goal.returns-in-Write
returns-in-Write g c = line_broke c.args.line.now _ _ _ _ (rw c.in-Write.is at c.in-Err.ensures)

pub returns-in_default-fault : goal.returns-in_default-fault
returns-in_default-fault g c =
    line_told c.args.line.now _ _ _ _ _ c.in-Err.fault c.put_all.result c.in_default-fault.not-Write c.in-Err.ensures (rw (c.as_bytes.ensures.value, c.text.ensures) at c.put_all.ensures)
