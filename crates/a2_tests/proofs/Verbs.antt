-- A word belongs to only one verb.
use Rattle.std.specs.Prelude.{◌≡◌, ◌≢◌, ℕ, ◌<◌, ◌≤◌, List, nat_eq, slice_index_or, Some, refl}
use Rattle.std.proofs.Common.{sym, ap, ◌∙◌, arith}
use Rattle.std.specs.List.{position_or_len}
use Rattle.std.specs.Cmp.Lexicographic.{pointwise}
use Rattle.a2_tests.specs.declared.line.Verb.{Verb}
use Rattle.a2_tests.specs.declared.line.Verb.TheVariants.{Case, Keys, KeysAt, Replay, Free, Limit, Call, Screen, Mem, Reg, Stop, Stops, Cycles, Bytes, Must, Attr}
use Rattle.a2_tests.specs.declared.line.TheConstants.{VERBS}
use Rattle.a2_tests.specs.Lines.{verb_letters}

-- the index of a verb in the table
abbrev verb_number : Verb → ℕ
verb_number Case = 0
verb_number Keys = 1
verb_number KeysAt = 2
verb_number Replay = 3
verb_number Free = 4
verb_number Limit = 5
verb_number Call = 6
verb_number Screen = 7
verb_number Mem = 8
verb_number Reg = 9
verb_number Stop = 10
verb_number Stops = 11
verb_number Cycles = 12
verb_number Bytes = 13
verb_number Must = 14
verb_number Attr = 15

verb-few : (v : Verb) → verb_number v < 16
verb-few Case = omega arith
verb-few _ = omega arith

verb-at : (v : Verb) → slice_index_or VERBS (verb_number v) Case ≡ v
verb-at Case = refl
verb-at _ = refl

-- the index of the first verb that a word spells
place_of : List ℕ → ℕ
place_of word = position_or_len (λ v. pointwise nat_eq (verb_letters v) word) VERBS

place-back : (v : Verb) → place_of (verb_letters v) ≡ verb_number v
unfolding place_of
place-back Case = refl
place-back _ = refl

same_verb : (v w : Verb) → verb_letters v ≡ verb_letters w → v ≡ w
same_verb v w e =
    sym (verb-at v)
    ∙ ap (λ k. slice_index_or VERBS k Case) (sym (place-back v) ∙ ap place_of e ∙ place-back w)
    ∙ verb-at w

pub verb-only : (word : List ℕ) (v w : Verb) → verb_letters v ≡ word → verb_letters w ≡ word → Some v ≡ Some w
verb-only word v w e f = ap (λ k. Some k) (same_verb v w (e ∙ sym f))

-- a word that differs from all verbs in the table is not a verb
pub verb-none : (word : List ℕ) (n : ℕ) → 16 ≤ n
    → ((k : ℕ) → k < n → verb_letters (slice_index_or VERBS k Case) ≢ word)
    → (v : Verb) → verb_letters v ≢ word
verb-none word n all others v e =
    let lt : verb_number v < n = omega (arith, verb-few v, all) in
    others (verb_number v) lt (ap verb_letters (verb-at v) ∙ e)
