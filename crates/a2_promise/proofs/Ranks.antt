-- How tightly an expression binds, from 1 to the tightest. (If a line has several cases, each one is checked by
-- itself.)
use Rattle.std.specs.Prelude.{◌≤◌, suc}
use Rattle.std.proofs.Common.{arith}
use Rattle.a2_promise.specs.declared.expr.Operation.TheVariants as operation
use Rattle.a2_promise.specs.declared.words.Infix.{Infix}
use Rattle.a2_promise.specs.declared.words.Infix.TheVariants.{Apply}
use Rattle.a2_promise.specs.Written.{Written, joined, minus, magnitude, signed, before, there, bit, negated, sum_of}
use Rattle.a2_promise.specs.Grammar.{infix_rank, rank, tightest, takes_from}

pub infix_within : (join : Infix) → (1 ≤ infix_rank join) × (infix_rank join ≤ tightest)
infix_within (Apply operation.BitOr) = (omega arith, omega arith)
infix_within _ = (omega arith, omega arith)

rank_within : (e : Written) → (1 ≤ rank e) × (rank e ≤ tightest)
rank_within (joined join e f) = infix_within join
rank_within _ = (omega arith, omega arith)

takes_within : (e : Written) → (1 ≤ takes_from e) × (takes_from e ≤ tightest)
takes_within (joined join e f) = let l = takes_within f in (omega (arith, l.0), omega (arith, l.1))
takes_within (negated e) = let l = takes_within e in (omega (arith, l.0), omega (arith, l.1))
takes_within (sum_of name k e f) = let l = takes_within f in (omega (arith, l.0), omega (arith, l.1))
takes_within (minus e) = takes_within e
takes_within (magnitude e) = takes_within e
takes_within (signed e) = takes_within e
takes_within (before e) = takes_within e
takes_within (there label a e) = takes_within e
takes_within (bit e f) = takes_within f
takes_within _ = (omega arith, omega arith)

pub rank_le : (e : Written) → rank e ≤ tightest
rank_le e = (rank_within e).1

pub one_le_rank : (e : Written) → 1 ≤ rank e
one_le_rank e = (rank_within e).0

pub takes_le : (e : Written) → takes_from e ≤ tightest
takes_le e = (takes_within e).1

pub one_le_takes : (e : Written) → 1 ≤ takes_from e
one_le_takes e = (takes_within e).0

pub takes_rank : (e : Written) → takes_from e ≤ suc (rank e)
takes_rank (joined join e f) = omega arith
takes_rank e = let l = takes_le e in omega (arith, l)
