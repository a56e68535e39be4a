use Rattle.std.specs.Prelude.{◌+◌}
use Rattle.std.proofs.Common.{sym, ◌∙◌}
use Rattle.a2_promise_certify.specs.Screen.{IsCursor}
use Rattle.a2_promise_certify.proofs.Cursors.{goes_on, wraps}
use Rattle.a2_promise_certify.proofs.cursor.on.Goals as goal

pub returns-then-is_at_edge-clause-cursor : goal.returns-then-is_at_edge-clause-cursor
returns-then-is_at_edge-clause-cursor c = λ memory h.
    wraps c.args.byte c.args.cursor memory h (IsCursor c.move_to_next_line.result) (sym c.is_at_edge.ensures ∙ c.if-is_at_edge.true)
    (λ n put. c.move_to_next_line.ensures.cursor n (c.args.cursor.column + 1) put)

pub returns-else-is_at_edge-clause-cursor : goal.returns-else-is_at_edge-clause-cursor
returns-else-is_at_edge-clause-cursor c = λ memory h.
    goes_on c.args.byte c.args.cursor memory h (sym c.is_at_edge.ensures ∙ c.if-is_at_edge.false)
