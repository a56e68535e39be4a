use Rattle.a2_promise_certify.specs.Screen.{window_by}
use Rattle.a2_promise_certify.specs.Walking.{known_now}
use Rattle.a2_promise_certify.proofs.Ranges.{knows_window}
use Rattle.a2_promise_certify.proofs.service_reads.is_window_known.Goals as goal

pub returns : goal.returns
returns c = λ _.
    knows_window (known_now c.args.known.now c.args.stored.now) (window_by c.args.cursor.now) c.loop-row.row
    c.requires.window.height c.loop-row-test.false c.loop-row.invariant
