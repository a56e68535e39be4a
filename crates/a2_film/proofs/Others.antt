-- The bytes that differ after a step, listed by their addresses.
use Rattle.std.specs.Prelude.{◌≡◌, ℕ, zero, suc, ◌+◌, ◌-◌, ◌*◌, ◌<◌, ◌≤◌, nat_lt, ◌==◌, Bool, true, false, List, [], ◌∷◌, ◌++◌}
use Rattle.std.specs.Prelude.{length, if◌then◌else◌, slice_range, refl}
use Rattle.std.proofs.Common.{ap, ◌∙◌, arith}
use Rattle.std.proofs.lemmas.Bool.Decides.{nat_tests}
use Rattle.std.proofs.lemmas.List.{append-nil}
use Rattle.a2_page.proofs.Parts.{range-at, range_long}
use Rattle.a2_bus.specs.BusState.{BusState}
use Rattle.a2_bus.specs.Memory.{ram_byte, ram_end}
use Rattle.a2_bus.specs.View.{memory_of}
use Rattle.a2_bus.proofs.Viewing.{byte_seen}
use Rattle.a2_film.specs.Changes.{Store, bytes_at, differing}
use Rattle.a2_film.specs.Filmed.{from_address}

-- the bytes at two lists of addresses, one after the other
pub bytes_at-joined : (m : ℕ → ℕ) (front back : List ℕ) → bytes_at m (front ++ back) ≡ bytes_at m front ++ bytes_at m back
bytes_at-joined m [] back = refl
bytes_at-joined m (a ∷ front) back = go (nat_lt a ram_end) (bytes_at-joined m front back)
  where
    go : (v : Bool) → bytes_at m (front ++ back) ≡ bytes_at m front ++ bytes_at m back
        → (if v then (a, m a) ∷ bytes_at m (front ++ back) else bytes_at m (front ++ back))
        ≡ (if v then (a, m a) ∷ bytes_at m front else bytes_at m front) ++ bytes_at m back
    go true rest = ap (λ (l : List Store). (a, m a) ∷ l) rest
    go false rest = rest

-- the bytes that differ at m + n addresses
pub differing-cut : (old new : ℕ → ℕ) (a m n : ℕ) → differing old new a (m + n) ≡ differing old new a m
    ++ differing old new (a + m) n
unfolding differing
differing-cut old new a zero n =
    let all : zero + n ≡ n = omega arith in
    let here : a ≡ a + zero = omega arith in
    ap (differing old new a) all ∙ ap (λ (k : ℕ). differing old new k n) here
differing-cut old new a (suc m) n =
    let all : suc m + n ≡ suc (m + n) = omega arith in
    let there : a + 1 + m ≡ a + suc m = omega arith in
    ap (differing old new a) all
    ∙ go (old a == new a) (differing-cut old new (a + 1) m n
    ∙ ap (λ (k : ℕ). differing old new (a + 1) m ++ differing old new k n) there)
  where
    go : (v : Bool) → differing old new (a + 1) (m + n) ≡ differing old new (a + 1) m ++ differing old new (a + suc m) n
        → (if v then differing old new (a + 1) (m + n) else (a, new a) ∷ differing old new (a + 1) (m + n))
        ≡ (if v then differing old new (a + 1) m else (a, new a) ∷ differing old new (a + 1) m) ++ differing old new (a + suc m) n
    go true rest = rest
    go false rest = ap (λ (l : List Store). (a, new a) ∷ l) rest

-- if no byte differs, there are none
pub differing-none : (old new : ℕ → ℕ) (a n : ℕ) → ((k : ℕ) → a ≤ k → k < a + n → old k ≡ new k) → differing old new a n ≡ []
unfolding differing
differing-none old new a zero same = refl
differing-none old new a (suc n) same =
    let here : old a ≡ new a = same a (omega arith) (omega arith) in
    let eq : (old a == new a) ≡ true = grind (arith, nat_tests, here) in
    ap (λ (v : Bool). if v then differing old new (a + 1) n else (a, new a) ∷ differing old new (a + 1) n) eq
    ∙ differing-none old new (a + 1) n (λ k high low. same k (omega (arith, high)) (omega (arith, low)))

-- the bytes differ only from $24 to an end, and on page 1
pub differing-reached : (old new : ℕ → ℕ) (end : ℕ) → 0x24 ≤ end → end ≤ 0x400 → ((a : ℕ) → a < 0x24 → old a ≡ new a)
    → ((a : ℕ) → end ≤ a → a < 0x400 → old a ≡ new a) → ((a : ℕ) → 0x800 ≤ a → old a ≡ new a)
    → differing old new 0 ram_end ≡ differing old new 0x24 (end - 0x24) ++ differing old new 0x400 0x400
differing-reached old new end least most below between above =
    ap (differing old new 0) all
    ∙ differing-cut old new 0 0x24 (low + (gap + (0x400 + 0xB800)))
    ∙ ap (λ (l : List Store). l ++ differing old new (0 + 0x24) (low + (gap + (0x400 + 0xB800)))) none_below
    ∙ differing-cut old new 0x24 low (gap + (0x400 + 0xB800))
    ∙ ap (λ (l : List Store). differing old new 0x24 low ++ l) rest
  where
    low : ℕ
    low = end - 0x24

    gap : ℕ
    gap = 0x400 - end

    all : ram_end ≡ 0x24 + (low + (gap + (0x400 + 0xB800)))
    all = omega (arith, least, most)

    at_end : 0x24 + low ≡ end
    at_end = omega (arith, least)

    at_page : end + gap ≡ 0x400
    at_page = omega (arith, most)

    none_below : differing old new 0 0x24 ≡ []
    none_below = differing-none old new 0 0x24 (λ k high under. below k (omega (arith, under)))

    none_between : differing old new end gap ≡ []
    none_between = differing-none old new end gap (λ k high under. between k high (omega (arith, under, most)))

    none_above : differing old new (0x400 + 0x400) 0xB800 ≡ []
    none_above = differing-none old new (0x400 + 0x400) 0xB800 (λ k high under. above k (omega (arith, high)))

    page : differing old new 0x400 (0x400 + 0xB800) ≡ differing old new 0x400 0x400
    page =
        differing-cut old new 0x400 0x400 0xB800
        ∙ ap (λ (l : List Store). differing old new 0x400 0x400 ++ l) none_above
        ∙ append-nil (differing old new 0x400 0x400)

    rest : differing old new (0x24 + low) (gap + (0x400 + 0xB800)) ≡ differing old new 0x400 0x400
    rest =
        ap (λ (k : ℕ). differing old new k (gap + (0x400 + 0xB800))) at_end
        ∙ differing-cut old new end gap (0x400 + 0xB800)
        ∙ ap (λ (l : List Store). l ++ differing old new (end + gap) (0x400 + 0xB800)) none_between
        ∙ ap (λ (k : ℕ). differing old new k (0x400 + 0xB800)) at_page
        ∙ page

-- Pieces of page 1, of 64 bytes

-- a byte of a piece is the byte of the page
pub piece-of : (page : List ℕ) (piece a : ℕ) → piece < 16 → length page ≡ 1024 → 0x400 + piece * 64 ≤ a
    → a < 0x400 + piece * 64 + 64
    → from_address (0x400 + piece * 64) (slice_range page (piece * 64) (piece * 64 + 64)) a ≡ from_address 0x400 page a
piece-of page piece a low size high under =
    range-at page (piece * 64) (piece * 64 + 64) (a - (0x400 + piece * 64)) (a - 0x400) 0 (omega (arith, low, size))
    (omega (arith, high)) (omega (arith, high, under))

-- and the byte of the page is the byte of RAM
pub page-seen : (bus : BusState) (page : List ℕ) (a : ℕ) → length bus.bytes ≡ ram_end → page ≡ slice_range bus.bytes 0x400 0x800
    → 0x400 ≤ a → a < 0x800
    → from_address 0x400 page a ≡ ram_byte (memory_of bus) a
page-seen bus page a size is high low =
    ap (λ (l : List ℕ). from_address 0x400 l a) is
    ∙ range-at bus.bytes 0x400 0x800 (a - 0x400) a 0 (omega (arith, size)) (omega (arith, high)) low
    ∙ byte_seen bus a size (omega (arith, low))

pub page-byte : (bus : BusState) (page : List ℕ) (piece a : ℕ) → piece < 16 → length bus.bytes ≡ ram_end
    → page ≡ slice_range bus.bytes 0x400 0x800
    → 0x400 + piece * 64 ≤ a → a < 0x400 + (piece * 64 + 64)
    → from_address (0x400 + piece * 64) (slice_range page (piece * 64) (piece * 64 + 64)) a ≡ ram_byte (memory_of bus) a
page-byte bus page piece a low size is high under =
    piece-of page piece a low (ap length is ∙ range_long bus.bytes 0x400 0x400 (omega (arith, size))) high (omega (arith, under))
    ∙ page-seen bus page a size is (omega (arith, high)) (omega (arith, low, under))
