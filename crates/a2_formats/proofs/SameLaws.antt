-- Equal maps of bytes.
use mathlib.Core.Path.{fun_ext}
use Rattle.std.proofs.Common.{◌≡◌, ◌∙◌, ◌<◌, ◌≤◌, ℕ, Option, None, Some, inl, inr, refl, sym, ap, arith}
use Rattle.std.specs.Prelude.{IfSome}
use Rattle.std.proofs.lemmas.Bool.{cases_lt}
use Rattle.a2_hex.specs.Images.{IsImage, ram_end}

-- at or above the end of RAM there is no byte
pub none-above : (o : Option ℕ) (a : ℕ) → IfSome o (λ byte. (a < ram_end) × (byte < 256)) → ram_end ≤ a → o ≡ None
none-above None a h ge = refl
none-above (Some byte) a h ge = absurd (omega (arith, h.0, ge))

-- two maps of RAM are equal if they agree below its end
pub equal-maps : (m n : ℕ → Option ℕ) → IsImage m → IsImage n → ((a : ℕ) → a < ram_end → m a ≡ n a) → m ≡ n
equal-maps m n left right below = fun_ext (λ a. elim (cases_lt a ram_end) [
  | inl lt ↦ below a lt
  | inr ge ↦ none-above (m a) a (left a) ge ∙ sym (none-above (n a) a (right a) ge)
])

-- two maps that differ at an address are not equal
pub differ_at : (m n : ℕ → Option ℕ) (a : ℕ) → m ≡ n → m a ≡ n a
differ_at m n a is = ap (λ f. f a) is
