use Rattle.std.proofs.Common.{◌+◌, ◌*◌, IsTrue, nat_le, min, length}
use Rattle.a2_promise.specs.Tokens.{tokens}
use Rattle.a2_promise.specs.Written.{Written}
use Rattle.a2_promise.specs.Grammar.{rank, tightest}
use Rattle.a2_promise.specs.Reading.{Reads, IsPiece, state_of}
use Rattle.a2_promise.proofs.parsing.+expression.Given as goal

-- (a function without a depth of its own has a greater measure than the functions it calls)
abbrev pub decreases-expression : goal.decreases-expression
decreases-expression l = 6 * l.depth

abbrev pub decreases-number_in : goal.decreases-number_in
decreases-number_in l = 6 * l.depth + 1

abbrev pub decreases-fact_in : goal.decreases-fact_in
decreases-fact_in l = 6 * l.depth + 1

abbrev pub decreases-next_number : goal.decreases-next_number
decreases-next_number l = 6 * l.depth + 2

abbrev pub decreases-joined : goal.decreases-joined
decreases-joined l = 6 * l.depth + 2

abbrev pub decreases-beginning : goal.decreases-beginning
decreases-beginning l = 6 * l.depth + 1

abbrev pub decreases-operand : goal.decreases-operand
decreases-operand l = 6 * l.depth

abbrev pub decreases-opened : goal.decreases-opened
decreases-opened l = 6 * l.depth

abbrev pub decreases-make : goal.decreases-make
decreases-make l = 6 * l.depth + 5

abbrev pub decreases-of_next : goal.decreases-of_next
decreases-of_next l = 6 * l.depth + 3

abbrev pub decreases-of_two : goal.decreases-of_two
decreases-of_two l = 6 * l.depth + 2

abbrev pub decreases-bracketed : goal.decreases-bracketed
decreases-bracketed l = 6 * l.depth + 2

abbrev pub decreases-of_bracketed : goal.decreases-of_bracketed
decreases-of_bracketed l = 6 * l.depth + 3

abbrev pub decreases-word_at : goal.decreases-word_at
decreases-word_at l = 6 * l.depth + 4

abbrev pub decreases-place_next : goal.decreases-place_next
decreases-place_next l = 6 * l.depth + 3

abbrev pub decreases-text_at : goal.decreases-text_at
decreases-text_at l = 6 * l.depth + 4

abbrev pub decreases-conditional : goal.decreases-conditional
decreases-conditional l = 6 * l.depth + 2

abbrev pub decreases-counted : goal.decreases-counted
decreases-counted l = 6 * l.depth

abbrev pub decreases-for_all : goal.decreases-for_all
decreases-for_all l = 6 * l.depth + 2

abbrev pub decreases-sum_of : goal.decreases-sum_of
decreases-sum_of l = 6 * l.depth + 2

abbrev pub invariant-expression-loop-join : goal.invariant-expression-loop-join
invariant-expression-loop-join l =
    (e : Written) × Reads e (state_of l.fn.reader) (state_of l.reader) × IsPiece l.left e (state_of l.reader) × IsTrue (nat_le (min l.rank tightest) (rank e))

abbrev pub decreases-expression-loop-join : goal.decreases-expression-loop-join
decreases-expression-loop-join l = length (tokens l.reader.rest.now)
