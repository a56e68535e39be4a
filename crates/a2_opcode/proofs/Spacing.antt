-- Bytes written with one blank between them.
use Rattle.std.proofs.Common.{◌≡◌, ℕ, ◌+◌, ◌*◌, ◌-◌, ◌<◌, ◌≤◌, List, [], ◌∷◌, ◌++◌, length, map, take, get_or, refl, sym, ap, ◌∙◌, arith, append_assoc, length-append}
use Rattle.std.proofs.lemmas.List.{take_more, length-take-le}
use Rattle.std.specs.List.{join_with_byte}
use Rattle.a2_text.specs.Digits.{hex_pair}

abbrev pub spaced : List ℕ → List ℕ
spaced xs = join_with_byte 32 (map hex_pair xs)

-- one more byte at the end
spaced-push : (x : ℕ) (xs : List ℕ) (y : ℕ) → spaced (x ∷ (xs ++ y ∷ [])) ≡ spaced (x ∷ xs) ++ (32 ∷ hex_pair y)
spaced-push x [] y = refl
spaced-push x (z ∷ xs) y = ap (λ l. hex_pair x ++ (32 ∷ l)) (spaced-push z xs y) ∙ sym (append_assoc (hex_pair x) (32 ∷ spaced (z ∷ xs)) (32 ∷ hex_pair y))

push-some : (xs : List ℕ) (y : ℕ) → 0 < length xs → spaced (xs ++ y ∷ []) ≡ spaced xs ++ (32 ∷ hex_pair y)
push-some [] y h = absurd (omega (arith, h))
push-some (x ∷ xs) y h = spaced-push x xs y

pub spaced-more : (start text new bytes : List ℕ) (i : ℕ) → 0 < i → i < length bytes → text ≡ start ++ spaced (take i bytes)
    → new ≡ (text ++ 32 ∷ []) ++ hex_pair (get_or bytes i 0) → new ≡ start ++ spaced (take (i + 1) bytes)
spaced-more start text new bytes i some h so_far is =
    rw (is, so_far, take_more bytes i 0 h, push-some (take i bytes) (get_or bytes i 0) (omega (arith, length-take-le i bytes)))
    (append_assoc (start ++ spaced (take i bytes)) (32 ∷ []) (hex_pair (get_or bytes i 0)) ∙ append_assoc start (spaced (take i bytes)) (32 ∷ hex_pair (get_or bytes i 0)))

-- the length of spaced bytes
pub length_of_spaced : (xs : List ℕ) → length (spaced xs) ≡ 3 * length xs - 1
length_of_spaced [] = refl
length_of_spaced (x ∷ []) = refl
length_of_spaced (x ∷ y ∷ xs) = omega (arith, length_of_spaced (y ∷ xs))

-- the length of a text after the first i of some bytes were appended to it
pub length-so-far : (text start xs : List ℕ) (i : ℕ) → i ≤ length xs → text ≡ start ++ spaced (take i xs)
    → length text ≡ length start + (3 * i - 1)
length-so-far text start xs i h e =
    omega (arith, ap length e, length-append start (spaced (take i xs)), length_of_spaced (take i xs), length-take-le i xs h)
