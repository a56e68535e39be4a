-- The table of verbs.
use Rattle.std.specs.Prelude.{ℕ, List, length, map, Option, Some, None, IfSome, IfNone}
use Rattle.std.specs.List.{Contains}
use Rattle.std.proofs.Common.{refl, ap, inl, inr, arith}
use Rattle.std.proofs.lemmas.List.Elements.{All-contains, All-from_recursion}
use Rattle.a2_debugger.specs.declared.verbs.Verb.{Verb}
use Rattle.a2_debugger.specs.declared.verbs.Verb.TheVariants.{Step, Next, Out, Back, Rnext, Go, Until, Rback, Watch, Who, Break, Clear, Unwatch, Keys, Set, Goto, Where, Regs, Print, Mem, Screen, List as Lines, Info, Stack, Help}
use Rattle.a2_debugger.specs.declared.verbs.TheConstants.{WORDS}
use Rattle.a2_debugger.specs.Words.{IsVerb}

abbrev words : List (List ℕ × Verb)
words = map (λ row. (row.0.now, row.1)) WORDS

-- each row belongs to a verb
pub verb_found : (text : List ℕ) (v : Verb) → Contains words (text, v) → IsVerb text v
verb_found text v among =
    let P : List ℕ × Verb → Type 0 = λ row. IsVerb row.0 row.1 in
    All-contains P words (text, v) (All-from_recursion P words
    (inl refl, (inl refl, (inl refl, (inl refl, (inl refl, (inl refl, (inl refl, (inl refl, (inl refl, (inl refl, (inl refl, (inl refl, (inl refl, (inl refl, (inl refl, (inl refl, (inl refl, (inl refl, (inl refl, (inl refl, (inl refl, (inl refl, (inl refl, (inl refl, (inl refl, (inr (refl, omega arith), (inr (refl, omega arith), (inr (refl, omega arith), (inr (refl, omega arith), (inr (refl, omega arith), (inr (refl, omega arith), (inr (refl, omega arith), (inr (refl, omega arith), (inr (refl, omega arith), (inr (refl, omega arith), (inr (refl, omega arith), (inr (refl, omega arith), (inr (refl, omega arith), tt))))))))))))))))))))))))))))))))))))))) among

-- and each verb has its rows
pub verb_listed : (text : List ℕ) (v : Verb) → IsVerb text v → Contains words (text, v)
verb_listed text Step (inl is) = rw is (0, omega arith, refl)
verb_listed text Next (inl is) = rw is (1, omega arith, refl)
verb_listed text Out (inl is) = rw is (2, omega arith, refl)
verb_listed text Back (inl is) = rw is (3, omega arith, refl)
verb_listed text Rnext (inl is) = rw is (4, omega arith, refl)
verb_listed text Go (inl is) = rw is (5, omega arith, refl)
verb_listed text Until (inl is) = rw is (6, omega arith, refl)
verb_listed text Rback (inl is) = rw is (7, omega arith, refl)
verb_listed text Watch (inl is) = rw is (8, omega arith, refl)
verb_listed text Who (inl is) = rw is (9, omega arith, refl)
verb_listed text Break (inl is) = rw is (10, omega arith, refl)
verb_listed text Clear (inl is) = rw is (11, omega arith, refl)
verb_listed text Unwatch (inl is) = rw is (12, omega arith, refl)
verb_listed text Keys (inl is) = rw is (13, omega arith, refl)
verb_listed text Set (inl is) = rw is (14, omega arith, refl)
verb_listed text Goto (inl is) = rw is (15, omega arith, refl)
verb_listed text Where (inl is) = rw is (16, omega arith, refl)
verb_listed text Regs (inl is) = rw is (17, omega arith, refl)
verb_listed text Print (inl is) = rw is (18, omega arith, refl)
verb_listed text Mem (inl is) = rw is (19, omega arith, refl)
verb_listed text Screen (inl is) = rw is (20, omega arith, refl)
verb_listed text Lines (inl is) = rw is (21, omega arith, refl)
verb_listed text Info (inl is) = rw is (22, omega arith, refl)
verb_listed text Stack (inl is) = rw is (23, omega arith, refl)
verb_listed text Help (inl is) = rw is (24, omega arith, refl)
verb_listed text Step (inr is) = rw is.0 (25, omega arith, refl)
verb_listed text Next (inr is) = rw is.0 (26, omega arith, refl)
verb_listed text Out (inr is) = rw is.0 (27, omega arith, refl)
verb_listed text Back (inr is) = rw is.0 (28, omega arith, refl)
verb_listed text Go (inr is) = rw is.0 (29, omega arith, refl)
verb_listed text Until (inr is) = rw is.0 (30, omega arith, refl)
verb_listed text Rback (inr is) = rw is.0 (31, omega arith, refl)
verb_listed text Where (inr is) = rw is.0 (32, omega arith, refl)
verb_listed text Print (inr is) = rw is.0 (33, omega arith, refl)
verb_listed text Mem (inr is) = rw is.0 (34, omega arith, refl)
verb_listed text Lines (inr is) = rw is.0 (35, omega arith, refl)
verb_listed text Info (inr is) = rw is.0 (36, omega arith, refl)
verb_listed text Help (inr is) = rw is.0 (37, omega arith, refl)
verb_listed text _ (inr is) = absurd (omega (arith, ap length is.0, is.1))

pub if_some : (found : Option Verb) (P Q : Verb → Type 0) → ((v : Verb) → P v → Q v) → IfSome found P → IfSome found Q
if_some None P Q f h = tt
if_some (Some v) P Q f h = f v h

pub if_none : (found : Option Verb) (P Q : Type 0) → (P → Q) → IfNone found P → IfNone found Q
if_none None P Q f h = f h
if_none (Some v) P Q f h = tt
