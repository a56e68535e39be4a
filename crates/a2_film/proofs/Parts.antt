-- What is left of a text that is written piece by piece.
use Rattle.std.proofs.Common.{◌≡◌, ℕ, zero, suc, ◌+◌, ◌<◌, ◌≤◌, List, [], ◌∷◌, ◌++◌, length, map, drop, get_or, Option}
use Rattle.std.proofs.Common.{Some, None, unwrap_or, is_some, true≢false, Bool, true, false, nat_lt, ◌==◌, if◌then◌else◌, refl}
use Rattle.std.proofs.Common.{sym, ap, ◌∙◌, arith, slice_get, slice_index, option_map, replicate, ◌⊎◌, inl, inr}
use Rattle.std.proofs.lemmas.Bool.Decides.{nat_tests}
use Rattle.std.proofs.lemmas.List.{length-map, get_or-map, drop_more, get_or-replicate, get_or_past, length-replicate}
use Rattle.std.proofs.lemmas.Option.{get_or_from_slice_get, slice_get-map, slice_get_within}
use Rattle.std.specs.List.{flat_map}
use Rattle.std.specs.Borrow.{Bor}
use Rattle.a2_bus.specs.Memory.{Memory, ram_byte, ram_end, peek}
use Rattle.a2_film.specs.Changes.{differing}

none-some : {X : Type 0} (x : X) → None ≡ Some x → ⊥
none-some x e = true≢false (sym (ap is_some e))

-- the pieces of elements, from an index on
pub pieces-next : {X : Type 0} (f : X → List ℕ) (xs : List X) (i : ℕ) (d : X) → i < length xs
    → flat_map f (drop i xs) ≡ f (get_or xs i d) ++ flat_map f (drop (i + 1) xs)
pieces-next f xs i d low = ap (flat_map f) (drop_more xs i d low)

-- the pieces of borrowed texts, from an index on
pub texts-next : (f : List ℕ → List ℕ) (items : List (Bor (List ℕ))) (i : ℕ) (d : Bor (List ℕ)) → i < length items
    → flat_map f (drop i (map (λ x. x.now) items)) ≡ f (get_or items i d).now
    ++ flat_map f (drop (i + 1) (map (λ x. x.now) items))
texts-next f items i d low =
    let now = λ (x : Bor (List ℕ)). x.now in
    let count = length-map items now in
    ap (flat_map f) (drop_more (map now items) i [] (omega (arith, count, low)))
    ∙ ap (λ (line : List ℕ). f line ++ flat_map f (drop (i + 1) (map now items))) (get_or-map now items i d [] low)

-- the pieces of entries, from an index on
pub entries-next : (f : List ℕ × ℕ → List ℕ) (names : List (List ℕ × ℕ)) (i : ℕ) (entry : List ℕ × ℕ)
    → slice_get names i ≡ Some entry
    → flat_map f (drop i names) ≡ f entry ++ flat_map f (drop (i + 1) names)
entries-next f names i entry is =
    pieces-next f names i entry (slice_get_within names i entry is)
    ∙ ap (λ (e : List ℕ × ℕ). f e ++ flat_map f (drop (i + 1) names)) (get_or_from_slice_get names i entry entry is)

-- the entry at an index of a map, found through another form of its elements
pub entry-at : {X Y Z : Type 0} (see : X → Y) (f : Y → Z) (found : Option X) (x : X) (ys : List Y) (i : ℕ)
    → option_map see found ≡ slice_get ys i → found ≡ Some x
    → slice_get (map f ys) i ≡ Some (f (see x))
entry-at see f found x ys i lookup is = slice_get-map f ys i ∙ ap (option_map f) (sym lookup ∙ ap (option_map see) is)

-- the bytes that differ are the same for functions that agree at n addresses from one on
pub differing-alike : (old was new is : ℕ → ℕ) (a n : ℕ) → ((k : ℕ) → a ≤ k → k < a + n → old k ≡ was k)
    → ((k : ℕ) → a ≤ k → k < a + n → new k ≡ is k)
    → differing old new a n ≡ differing was is a n
unfolding differing
differing-alike old was new is a zero e f = refl
differing-alike old was new is a (suc n) e f =
    let rest : differing old new (a + 1) n ≡ differing was is (a + 1) n =
    differing-alike old was new is (a + 1) n (λ k h l. e k (omega (arith, h)) (omega (arith, l)))
    (λ k h l. f k (omega (arith, h)) (omega (arith, l))) in
    let here : old a ≡ was a = e a (omega arith) (omega arith) in
    let there : new a ≡ is a = f a (omega arith) (omega arith) in
    (λ i. if here i == there i then rest i else (a, there i) ∷ rest i)

-- what a peek says of a byte of RAM
pub peek-some : (memory : Memory) (a byte : ℕ) (found : Option ℕ) → found ≡ peek memory a → found ≡ Some byte → (a < ram_end)
    × (byte ≡ ram_byte memory a)
peek-some memory a byte found is some = go (nat_lt a ram_end) refl (sym is ∙ some)
  where
    go : (v : Bool) → nat_lt a ram_end ≡ v → (if v then Some (ram_byte memory a) else None) ≡ Some byte → (a < ram_end)
        × (byte ≡ ram_byte memory a)
    go true h e = (grind (arith, nat_tests, h), cc)
    go false h e = absurd (none-some byte e)

pub peek-none : (memory : Memory) (a : ℕ) (found : Option ℕ) → found ≡ peek memory a → found ≡ None → ram_end ≤ a
peek-none memory a found is none = go (nat_lt a ram_end) refl (sym is ∙ none)
  where
    go : (v : Bool) → nat_lt a ram_end ≡ v → (if v then Some (ram_byte memory a) else None) ≡ None → ram_end ≤ a
    go true h e = absurd (none-some (ram_byte memory a) (sym e))
    go false h e = grind (arith, nat_tests, h)

-- the answer of a peek in RAM, or else 0, is the byte of RAM
pub peek-byte : (memory : Memory) (a : ℕ) → a < ram_end → unwrap_or (peek memory a) 0 ≡ ram_byte memory a
peek-byte memory a low = let lt : nat_lt a ram_end ≡ true = grind (arith, nat_tests, low) in
    ap (λ v. unwrap_or (if v then Some (ram_byte memory a) else None) 0) lt

-- zeros are 0 at every index, and past their end
pub zeros_anywhere : (n a : ℕ) → slice_index (replicate n 0) a ≡ 0
zeros_anywhere n a = go (split n a)
  where
    split : (n a : ℕ) → (a < n) ⊎ (n ≤ a)
    split n a = grind arith

    go : (a < n) ⊎ (n ≤ a) → slice_index (replicate n 0) a ≡ 0
    go (inl low) = get_or-replicate n a 0 0 low
    go (inr past) = get_or_past (replicate n 0) a 0 (omega (arith, past, length-replicate {A = ℕ} n 0))
