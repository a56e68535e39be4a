use Rattle.std.proofs.Common.{arith}
use Rattle.a2_promise_certify.proofs.Cursors.{steps_back, goes_up, stays_up}
use Rattle.a2_promise_certify.proofs.cursor.back.Goals as goal

pub returns-then-cursor-gt0-clause-cursor : goal.returns-then-cursor-gt0-clause-cursor
returns-then-cursor-gt0-clause-cursor c = λ memory h. steps_back c.args.cursor memory c.if-cursor-gt0.true h

pub returns-then-cursor-clause-cursor : goal.returns-then-cursor-clause-cursor
returns-then-cursor-clause-cursor c = λ memory h. goes_up c.args.cursor memory (omega arith) h c.if-cursor.true

pub returns-else-cursor-clause-cursor : goal.returns-else-cursor-clause-cursor
returns-else-cursor-clause-cursor c = λ memory h. stays_up c.args.cursor memory (omega arith) h (omega arith)
