-- Operators with different ranks have different signs and words.
use Rattle.std.specs.Prelude.{◌≡◌, ◌<◌, ℕ, ◌||◌, codes, refl, if◌then◌else◌}
use Rattle.std.specs.Str.{bytes_eq}
use Rattle.std.proofs.Common.{arith, ap, sym, ◌∙◌}
use Rattle.a2_promise.specs.declared.expr.Operation.TheVariants as operation
use Rattle.a2_promise.specs.declared.words.Infix.{Infix}
use Rattle.a2_promise.specs.declared.words.Infix.TheVariants.{Compare, Apply}
use Rattle.a2_promise.specs.declared.words.Relation.TheVariants as relation
use Rattle.a2_promise.specs.Tokens.{Token, word, sign}
use Rattle.a2_promise.specs.Written.{infix_token}
use Rattle.a2_promise.specs.Grammar.{infix_rank, tightest}

abbrev mark : Token → ℕ
mark (word w) = if bytes_eq w (codes "iff") then 1 else if bytes_eq w (codes "or") then 2 else 3
mark (sign s) =
    if bytes_eq s (codes "|") || bytes_eq s (codes "^") then 6 else if bytes_eq s (codes "&") then 7
    else if bytes_eq s (codes "+") || bytes_eq s (codes "-") then 8
    else if bytes_eq s (codes "*") || (bytes_eq s (codes "/") || bytes_eq s (codes "%")) then 9 else 5
mark _ = 0

marked : (join : Infix) → infix_rank join < tightest → mark (infix_token join) ≡ infix_rank join
marked (Apply operation.Min) l = absurd (omega (arith, l))
marked (Apply operation.Max) l = absurd (omega (arith, l))
marked (Apply operation.Bit) l = absurd (omega (arith, l))
marked (Apply operation.Equal) l = absurd (omega (arith, l))
marked (Apply operation.Less) l = absurd (omega (arith, l))
marked (Apply operation.AtMost) l = absurd (omega (arith, l))
marked (Compare relation.Equal) l = refl
marked _ l = refl

pub same_rank : (one other : Infix) → infix_token one ≡ infix_token other → infix_rank one < tightest → infix_rank other < tightest
    → infix_rank one ≡ infix_rank other
same_rank one other e l m = sym (marked one l) ∙ ap mark e ∙ marked other m
