-- The first piece of a text, and the pieces after it.
use Rattle.std.proofs.Common.{◌≡◌, ℕ, ◌+◌, ◌<◌, ◌≤◌, false, not, eqb, List, [], ◌∷◌, length, take, drop, arith}
use Rattle.std.specs.List.{slice_split, position_or_len}
use Rattle.std.proofs.lemmas.List.Splits.{slice_split_first, slice_split_none}
use Rattle.std.proofs.lemmas.List.Sums.{prefix_len_passes}
use Rattle.std.proofs.lemmas.List.Elements.{All-from_get_or}
use Rattle.std.proofs.lemmas.Bool.{not-true}

pub pieces_more : (mark end : ℕ) (text : List ℕ) → end ≡ position_or_len (λ c. eqb c mark) text → end < length text
    → slice_split (λ c. eqb c mark) text ≡ take end text ∷ slice_split (λ c. eqb c mark) (drop (end + 1) text)
pieces_more mark end text e lt = rw e (slice_split_first (λ c. eqb c mark) text 0 (omega (arith, e)))

pub pieces_last : (mark end : ℕ) (text : List ℕ) → end ≡ position_or_len (λ c. eqb c mark) text → length text ≤ end
    → slice_split (λ c. eqb c mark) text ≡ text ∷ []
pieces_last mark end text e ge =
    slice_split_none (λ c. eqb c mark) text (All-from_get_or (λ x. eqb x mark ≡ false) text 0 (λ i lt. not-true _ (prefix_len_passes (λ x. not (eqb x mark)) text i 0 (omega (arith, e)))))
