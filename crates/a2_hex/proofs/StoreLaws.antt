-- What the parts of a line mean.
use Rattle.std.proofs.Common.{◌≡◌, ℕ, ◌+◌, eqb, false, List, take, drop, length, inl, inr, refl, arith}
use Rattle.std.specs.Option.{option_and_then}
use Rattle.std.specs.List.{position, position_or_len}
use Rattle.std.proofs.lemmas.Bool.{cases_lt, lt-ltb, le-ltb}
use Rattle.std.proofs.lemmas.List.Elements.{All-from_get_or}
use Rattle.std.proofs.lemmas.List.Folds.{list_any_none, list_any_at}
use Rattle.std.proofs.lemmas.List.Sums.{fails_before_first, passes_at_first}
use Rattle.a2_hex.specs.ObjectLines.{hex_bytes, address_before_colon, both, store_of}

-- the line, given the position of its `:`
pub store_of_position : (line : List ℕ) → store_of line ≡ option_and_then (λ end. both (address_before_colon (take end line)) (hex_bytes (drop (end + 1) line))) (position (λ c. eqb c 58) line)
unfolding store_of
store_of_position line = elim (cases_lt (position_or_len (λ c. eqb c 58) line) (length line)) [
  | inl lt ↦ rw (lt-ltb _ _ lt, list_any_at (λ c. eqb c 58) line _ 0 lt (passes_at_first (λ c. eqb c 58) line 0 lt)) refl
  | inr ge ↦ rw (le-ltb _ _ ge, list_any_none (λ c. eqb c 58) line (All-from_get_or (λ c. eqb c 58 ≡ false) line 0 (λ i lt. fails_before_first (λ c. eqb c 58) line i 0 (omega arith)))) refl
]
