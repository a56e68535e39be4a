-- The image of a memory's RAM, one byte at a time.
use Rattle.std.specs.Prelude.{◌==◌, nat_lt}
use Rattle.std.proofs.Common.{◌≡◌, ◌≢◌, ◌⊎◌, ℕ, ◌+◌, ◌<◌, ◌≤◌, true, false, Option, Some, None, inl, inr, sym, ap, ◌∙◌, arith}
use Rattle.std.specs.Option.{unwrap_or}
use Rattle.std.proofs.lemmas.Bool.{cond-true, cond-false, cases_lt, le-ltb, lt-ltb}
use Rattle.std.proofs.lemmas.Bool.Decides.{nat_tests}
use Rattle.a2_bus.specs.Memory.{Memory, peek, ram_byte, ram_end}
use Rattle.a2_hex.specs.Images.{put}

same-number : (a b : ℕ) → a ≡ b → (a == b) ≡ true
same-number a b e = grind (arith, nat_tests, e)

other-number : (a b : ℕ) → a ≢ b → (a == b) ≡ false
other-number a b ne = grind (arith, nat_tests, ne)

-- one more byte of RAM
pub image-below : (image new : ℕ → Option ℕ) (memory : Memory) (n byte : ℕ) → n < ram_end → ((a : ℕ) → new a ≡ put image n byte a)
    → byte ≡ unwrap_or (peek memory n) 0 → ((a : ℕ) → a < n → image a ≡ peek memory a) → (a : ℕ) → a < n + 1 → new a ≡ peek memory a
image-below image new memory n byte low is byte_is before a lt = go (split a n lt)
  where
    split : (a n : ℕ) → a < n + 1 → (a ≡ n) ⊎ (a < n)
    split a n lt = grind (arith, lt)

    seen : peek memory n ≡ Some (ram_byte memory n)
    seen = cond-true (nat_lt n ram_end) (Some (ram_byte memory n)) None (lt-ltb n ram_end low)

    other : (a n : ℕ) → a < n → a ≢ n
    other a n l = omega (arith, l)

    go : (a ≡ n) ⊎ (a < n) → new a ≡ peek memory a
    go (inl e) =
        is a ∙ cond-true (a == n) (Some byte) (image a) (same-number a n e)
        ∙ ap (λ (b : ℕ). Some b) byte_is ∙ ap (λ (o : Option ℕ). Some (unwrap_or o 0)) seen ∙ sym seen ∙ ap (peek memory) (sym e)
    go (inr l) = is a ∙ cond-false (a == n) (Some byte) (image a) (other-number a n (other a n l)) ∙ before a l

pub image-above : (image new : ℕ → Option ℕ) (n byte : ℕ) → ((a : ℕ) → new a ≡ put image n byte a)
    → ((a : ℕ) → n ≤ a → image a ≡ None) → (a : ℕ) → n + 1 ≤ a → new a ≡ None
image-above image new n byte is none a high =
    let ne : a ≢ n = omega (arith, high) in
    is a ∙ cond-false (a == n) (Some byte) (image a) (other-number a n ne) ∙ none a (omega (arith, high))

-- all of RAM
pub image-all : (image : ℕ → Option ℕ) (memory : Memory) (n : ℕ) → n ≡ ram_end → ((a : ℕ) → a < n → image a ≡ peek memory a)
    → ((a : ℕ) → n ≤ a → image a ≡ None) → (a : ℕ) → image a ≡ peek memory a
image-all image memory n all below above a = go (cases_lt a ram_end)
  where
    go : (a < ram_end) ⊎ (ram_end ≤ a) → image a ≡ peek memory a
    go (inl low) = below a (omega (arith, low, all))
    go (inr high) = above a (omega (arith, high, all)) ∙ sym (cond-false (nat_lt a ram_end) (Some (ram_byte memory a)) None (le-ltb a ram_end high))
