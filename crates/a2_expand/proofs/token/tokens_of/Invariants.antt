use Rattle.std.proofs.Common.{◌≡◌, ◌-◌, ◌++◌, length, false}
use Rattle.a2_expand.specs.Expressions.{pieces}
use Rattle.a2_expand.specs.Pieces.{pieces_up_to}
use Rattle.a2_expand.proofs.token.tokens_of.Given as goal

-- the pieces so far and those of the rest are all
abbrev pub invariant-loop-count : goal.invariant-loop-count
invariant-loop-count g l =
    pieces l.found.items ++ pieces_up_to (length l.text - l.count) l.after_term l.rest ≡ pieces_up_to (length l.text) false l.text
