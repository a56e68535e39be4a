-- The keys that were typed at a count.
use Rattle.std.specs.Prelude.{All}
use Rattle.std.specs.List.{filter}
use Rattle.std.proofs.Common.{◌≡◌, ◌≢◌, ℕ, zero, suc, ◌+◌, ◌<◌, ◌≤◌, List, [], ◌∷◌, ◌++◌, length, take, drop, get_or, refl, arith, nat_lt, nat_le}
use Rattle.std.proofs.lemmas.Bool.{leb-true}
use Rattle.std.proofs.lemmas.Bool.Decides.{nat_tests}
use Rattle.std.proofs.lemmas.Grind.{common_steps}
use Rattle.std.proofs.lemmas.List.{take-append-drop, append-nil, drop_more}
use Rattle.std.proofs.lemmas.List.Elements.{All-append, All-cons, All-filter, All-map, filter_passes}
use Rattle.a2_debug_script.specs.declared.Typed.{Typed}
use Rattle.a2_debug_script.specs.Stored.{keys_at, typed_at, up_to, NoneAbove, NoneBelow, InOrder}

pub keys_at-append : (xs ys : List Typed) (n : ℕ) → keys_at (xs ++ ys) n ≡ keys_at xs n ++ keys_at ys n
keys_at-append xs ys n = grind (arith, common_steps)

pub keys_at-none : (log : List Typed) (n : ℕ) → All (λ t. t.count ≢ n) log → keys_at log n ≡ []
keys_at-none [] n h = refl
keys_at-none (t ∷ ts) n h =
    let first : t.count ≢ n = h 0 t (omega arith) in
    let rest = keys_at-none ts n (λ k d m. h (suc k) d (omega (arith, m))) in
    grind (arith, nat_tests)

pub keys_at-typed_at : (n : ℕ) (keys : List ℕ) → keys_at (typed_at n keys) n ≡ keys
keys_at-typed_at n [] = refl
keys_at-typed_at n (k ∷ ks) = let rest = keys_at-typed_at n ks in grind (arith, nat_tests)

pub typed_then : (n : ℕ) (keys : List ℕ) → All (λ t. t.count ≡ n) (typed_at n keys)
typed_then n keys = All-map (λ t. t.count ≡ n) (λ key. record { count = n; key = key }) keys (λ k d l. refl)

-- keys typed at a count, after those typed before
pub keys_at-not_yet : (log : List Typed) (n : ℕ) (keys : List ℕ) (i : ℕ) → i < n → keys_at (log ++ typed_at n keys) i ≡ keys_at log i
keys_at-not_yet log n keys i l =
    let then = typed_then n keys in
    let none : keys_at (typed_at n keys) i ≡ [] = keys_at-none (typed_at n keys) i (omega arith) in
    grind (arith, keys_at-append, append-nil)

-- the front of a log
pub keys_at-front : (log : List Typed) (k i : ℕ) → All (λ t. t.count ≢ i) (drop k log) → keys_at (take k log) i ≡ keys_at log i
keys_at-front log k i h =
    let none = keys_at-none (drop k log) i h in
    let parts = keys_at-append (take k log) (drop k log) i in
    grind (arith, take-append-drop, append-nil)

-- the log without later keys
pub keys_at-up_to : (log : List Typed) (n i : ℕ) → i ≤ n → keys_at (up_to n log) i ≡ keys_at log i
keys_at-up_to [] n i l = refl
keys_at-up_to (t ∷ ts) n i l = let rest = keys_at-up_to ts n i l in grind (arith, nat_tests)

pub NoneAbove-up_to : (log : List Typed) (n : ℕ) → NoneAbove n (up_to n log)
NoneAbove-up_to log n k d l = leb-true _ _ (filter_passes (λ t. nat_le t.count n) log k d l)

pub InOrder-up_to : (log : List Typed) (n : ℕ) → InOrder log → InOrder (up_to n log)
InOrder-up_to [] n h = tt
InOrder-up_to (t ∷ ts) n h =
    let below = All-filter (λ x. nat_le x.count n) (λ x. t.count ≤ x.count) ts h.0 in
    let rest = InOrder-up_to ts n h.1 in
    grind (arith, nat_tests)

pub InOrder-typed : (log : List Typed) (n : ℕ) (keys : List ℕ) → InOrder log → NoneAbove n log → InOrder (log ++ typed_at n keys)
InOrder-typed [] n [] h a = tt
InOrder-typed [] n (k ∷ ks) h a = let then = typed_then n ks in (omega arith, InOrder-typed [] n ks h a)
InOrder-typed (t ∷ ts) n keys h a =
    let first : t.count ≤ n = a 0 t (omega arith) in
    let then = typed_then n keys in
    (All-append (λ x. t.count ≤ x.count) ts (typed_at n keys) h.0 (omega arith), InOrder-typed ts n keys h.1 (λ k d l. a (suc k) d (omega (arith, l))))

pub InOrder-drop : (log : List Typed) (k : ℕ) → InOrder log → InOrder (drop k log)
InOrder-drop log zero h = h
InOrder-drop [] (suc k) h = tt
InOrder-drop (t ∷ ts) (suc k) h = InOrder-drop ts k h.1

-- no key that is left was typed before the first of them
pub NoneBelow-rest : (log : List Typed) (k : ℕ) (d : Typed) → InOrder log → k < length log → NoneBelow (get_or log k d).count (drop k log)
NoneBelow-rest [] k d h l = absurd (omega arith)
NoneBelow-rest (t ∷ ts) zero d h l = All-cons (λ x. t.count ≤ x.count) t ts (omega arith) h.0
NoneBelow-rest (t ∷ ts) (suc k) d h l = NoneBelow-rest ts k d h.1 (omega (arith, l))

pub NoneBelow-first : (log : List Typed) (k n : ℕ) (d : Typed) → NoneBelow n (drop k log) → k < length log → n ≤ (get_or log k d).count
NoneBelow-first log k n d h l = let left = rw (drop_more log k d l) at h in left 0 d (omega arith)

pub NoneBelow-next : (log : List Typed) (k : ℕ) (d : Typed) → InOrder log → k < length log → NoneBelow (get_or log k d).count (drop (k + 1) log)
NoneBelow-next log k d h l = let left = rw (drop_more log k d l) at (NoneBelow-rest log k d h l) in λ i e m. left (suc i) e (omega (arith, m))

pub early-more : (log : List Typed) (n : ℕ) → length (filter (λ t. nat_lt t.count (suc n)) log) ≡ length (filter (λ t. nat_lt t.count n) log) + length (keys_at log n)
early-more [] n = refl
early-more (t ∷ ts) n = let rest = early-more ts n in grind (arith, nat_tests)
