use Rattle.std.proofs.Common.{arith}
use Rattle.a2_promise_certify.proofs.Cursors.{goes_down, stays_down}
use Rattle.a2_promise_certify.proofs.cursor.down.Goals as goal

pub returns-then-cursor-clause-cursor : goal.returns-then-cursor-clause-cursor
returns-then-cursor-clause-cursor c = λ memory h. goes_down c.args.cursor memory c.if-cursor.true h

pub returns-else-cursor-clause-cursor : goal.returns-else-cursor-clause-cursor
returns-else-cursor-clause-cursor c = λ memory h. stays_down c.args.cursor memory (omega arith) h
