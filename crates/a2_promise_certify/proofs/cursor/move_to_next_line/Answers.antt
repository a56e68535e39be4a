use Rattle.a2_promise_certify.specs.Screen.{IsCursor}
use Rattle.a2_promise_certify.proofs.Cursors.{goes_left}
use Rattle.a2_promise_certify.proofs.cursor.move_to_next_line.Goals as goal

pub returns-clause-cursor : goal.returns-clause-cursor
returns-clause-cursor c = λ memory column h. goes_left c.args.cursor memory column (IsCursor c.down.result) h c.down.ensures.cursor
