-- The cells of a new image.
use Rattle.std.proofs.Common.{◌≡◌, ℕ, Option, Some, None, inl, inr, refl, length, replicate, arith}
use Rattle.std.proofs.lemmas.Bool.{cases_lt}
use Rattle.std.proofs.lemmas.List.{get_or_past, get_or-replicate, length-replicate}
use Rattle.a2_hex.specs.Images.{Cells, held, ram_end}

-- every value that P allows is None, so cells made of such values have no bytes
pub empty-cells : (P : Option ℕ → Type 0) (cells : Cells) (n : ℕ) → (((o : Option ℕ) → P o → o ≡ None) → cells ≡ replicate n None) → ((byte : ℕ) → P (Some byte) → ⊥) → n ≡ ram_end
    → (length cells ≡ ram_end) × ((a : ℕ) → held cells a ≡ None)
empty-cells P cells n made never size = rw (made only, size) (length-replicate {A = Option ℕ} ram_end None, at)
  where
    only : (o : Option ℕ) → P o → o ≡ None
    only None p = refl
    only (Some byte) p = absurd (never byte p)

    at : (a : ℕ) → held (replicate ram_end None) a ≡ None
    at a = elim (cases_lt a ram_end) [
      | inl lt ↦ get_or-replicate ram_end a None None lt
      | inr ge ↦ get_or_past (replicate ram_end None) a None (omega (arith, length-replicate {A = Option ℕ} ram_end None, ge))
    ]
