-- A row that grows by the text of stores.
use Rattle.std.specs.Prelude.{◌≡◌, ℕ, ◌+◌, ◌-◌, ◌<◌, ◌≤◌, nat_lt, ◌==◌, Bool, true, false, List, [], ◌∷◌, ◌++◌}
use Rattle.std.specs.Prelude.{length, get_or, take, Some, None, if◌then◌else◌, slice_range, slice_index, refl}
use Rattle.std.proofs.Common.{sym, ap, ap₂, ◌∙◌, subst, arith, append_assoc}
use Rattle.std.proofs.lemmas.Bool.Decides.{nat_tests}
use Rattle.std.proofs.lemmas.List.{append-nil, take_more, take_all}
use Rattle.a2_page.proofs.Parts.{range-at}
use Rattle.a2_bus.specs.Memory.{Memory, ram_byte, ram_end, peek}
use Rattle.a2_film.specs.Changes.{Store, bytes_at, differing}
use Rattle.a2_film.specs.Rows.{fields_of_parts, store_text, stores_text, no_address}
use Rattle.a2_film.specs.Filmed.{from_address, next_following, Appends}
use Rattle.a2_film.proofs.Parts.{differing-alike, peek-some, peek-none}
use Rattle.a2_film.proofs.Others.{bytes_at-joined, differing-cut, differing-none}

-- Fields, one after another

following : (start before after xs ys : List ℕ) → after ≡ before ++ ys → before ≡ start ++ xs → after ≡ start ++ (xs ++ ys)
following start before after xs ys last first = last ∙ ap (λ (l : List ℕ). l ++ ys) first ∙ append_assoc start xs ys

nine-parts : (pc cycles a x y s p switches keys : List ℕ)
    → ((((((((pc ++ cycles) ++ a) ++ x) ++ y) ++ s) ++ p) ++ switches) ++ keys)
    ≡ fields_of_parts pc cycles a x y s p switches keys
unfolding fields_of_parts
nine-parts pc cycles a x y s p switches keys = simp (append_assoc, append-nil)

-- appending nine texts one after another gives the fields
pub nine-following : (r0 r1 r2 r3 r4 r5 r6 r7 r8 r9 pc cycles a x y s p switches keys : List ℕ)
    → r1 ≡ r0 ++ pc → r2 ≡ r1 ++ cycles → r3 ≡ r2 ++ a → r4 ≡ r3 ++ x → r5 ≡ r4 ++ y → r6 ≡ r5 ++ s → r7 ≡ r6 ++ p
    → r8 ≡ r7 ++ switches → r9 ≡ r8 ++ keys → r9 ≡ r0 ++ fields_of_parts pc cycles a x y s p switches keys
nine-following r0 r1 r2 r3 r4 r5 r6 r7 r8 r9 pc cycles a x y s p switches keys e1 e2 e3 e4 e5 e6 e7 e8 e9 =
    let f2 = following r0 r1 r2 pc cycles e2 e1 in
    let f3 = following r0 r2 r3 (pc ++ cycles) a e3 f2 in
    let f4 = following r0 r3 r4 ((pc ++ cycles) ++ a) x e4 f3 in
    let f5 = following r0 r4 r5 (((pc ++ cycles) ++ a) ++ x) y e5 f4 in
    let f6 = following r0 r5 r6 ((((pc ++ cycles) ++ a) ++ x) ++ y) s e6 f5 in
    let f7 = following r0 r6 r7 (((((pc ++ cycles) ++ a) ++ x) ++ y) ++ s) p e7 f6 in
    let f8 = following r0 r7 r8 ((((((pc ++ cycles) ++ a) ++ x) ++ y) ++ s) ++ p) switches e8 f7 in
    following r0 r8 r9 (((((((pc ++ cycles) ++ a) ++ x) ++ y) ++ s) ++ p) ++ switches) keys e9 f8
    ∙ ap (λ (l : List ℕ). r0 ++ l) (nine-parts pc cycles a x y s p switches keys)

-- Stores after other stores

pub stores_text-joined : (next : ℕ) (xs ys : List Store) → stores_text next (xs ++ ys) ≡ stores_text next xs
    ++ stores_text (next_following next xs) ys
stores_text-joined next [] ys = refl
stores_text-joined next (store ∷ xs) ys =
    ap (λ (l : List ℕ). store_text next store ++ l) (stores_text-joined (store.0 + 1) xs ys)
    ∙ sym (append_assoc (store_text next store) (stores_text (store.0 + 1) xs) (stores_text (next_following (store.0 + 1) xs) ys))

next_following-joined : (next : ℕ) (xs ys : List Store) → next_following next (xs ++ ys) ≡ next_following (next_following next xs) ys
next_following-joined next [] ys = refl
next_following-joined next (store ∷ xs) ys = next_following-joined (store.0 + 1) xs ys

pub appends-none : (row : List ℕ) (next : ℕ) → Appends row next [] row next
appends-none row next = (sym (append-nil row), refl)

pub appends-more : (row mid new : List ℕ) (next between last : ℕ) (xs ys : List Store) → Appends row next xs mid between
    → Appends mid between ys new last → Appends row next (xs ++ ys) new last
appends-more row mid new next between last xs ys (first, at) (second, after) = (
  second ∙ ap₂ (λ (l : List ℕ) (n : ℕ). l ++ stores_text n ys) first at
      ∙ append_assoc row (stores_text next xs) (stores_text (next_following next xs) ys)
      ∙ ap (λ (l : List ℕ). row ++ l) (sym (stores_text-joined next xs ys)),
  after ∙ ap (λ (n : ℕ). next_following n ys) at ∙ sym (next_following-joined next xs ys),
)

-- Listed addresses

-- the next listed byte is appended to the row
pub listed-store : (row mid new all : List ℕ) (memory : Memory) (i between byte last : ℕ) → i < length all
    → Some byte ≡ peek memory (get_or all i 0)
    → Appends row no_address (bytes_at (ram_byte memory) (take i all)) mid between
    → Appends mid between ((get_or all i 0, byte) ∷ []) new last
    → Appends row no_address (bytes_at (ram_byte memory) (take (i + 1) all)) new last
listed-store row mid new all memory i between byte last low told before more =
    let at = get_or all i 0 in
    let found = peek-some memory at byte (Some byte) told refl in
    let in_ram : nat_lt at ram_end ≡ true = (let h = found.0 in grind (arith, nat_tests, h)) in
    let one : bytes_at (ram_byte memory) (at ∷ []) ≡ (at, byte) ∷ [] =
    ap (λ (v : Bool). if v then (at, ram_byte memory at) ∷ [] else []) in_ram ∙ ap (λ (b : ℕ). (at, b) ∷ []) (sym found.1) in
    let all' : bytes_at (ram_byte memory) (take (i + 1) all) ≡ bytes_at (ram_byte memory) (take i all) ++ (at, byte) ∷ [] =
    ap (bytes_at (ram_byte memory)) (take_more all i 0 low) ∙ bytes_at-joined (ram_byte memory) (take i all) (at ∷ [])
    ∙ ap (λ (l : List Store). bytes_at (ram_byte memory) (take i all) ++ l) one in
    subst (λ (l : List Store). Appends row no_address l new last) (sym all')
    (appends-more row mid new no_address between last (bytes_at (ram_byte memory) (take i all)) ((at, byte) ∷ []) before more)

-- an address outside RAM is left out
pub listed-skip : (row mid all : List ℕ) (memory : Memory) (i between : ℕ) → i < length all → None ≡ peek memory (get_or all i 0)
    → Appends row no_address (bytes_at (ram_byte memory) (take i all)) mid between
    → Appends row no_address (bytes_at (ram_byte memory) (take (i + 1) all)) mid between
listed-skip row mid all memory i between low told before =
    let at = get_or all i 0 in
    let out : ram_end ≤ at = peek-none memory at None told refl in
    let no_ram : nat_lt at ram_end ≡ false = grind (arith, nat_tests, out) in
    let none : bytes_at (ram_byte memory) (at ∷ []) ≡ [] = ap (λ (v : Bool). if v then (at, ram_byte memory at) ∷ [] else [])
    no_ram in
    let all' : bytes_at (ram_byte memory) (take (i + 1) all) ≡ bytes_at (ram_byte memory) (take i all) =
    ap (bytes_at (ram_byte memory)) (take_more all i 0 low) ∙ bytes_at-joined (ram_byte memory) (take i all) (at ∷ [])
    ∙ ap (λ (l : List Store). bytes_at (ram_byte memory) (take i all) ++ l) none
    ∙ append-nil (bytes_at (ram_byte memory) (take i all)) in
    subst (λ (l : List Store). Appends row no_address l mid between) (sym all') before

pub listed-all : (row new all : List ℕ) (memory : Memory) (i last : ℕ) → length all ≤ i
    → Appends row no_address (bytes_at (ram_byte memory) (take i all)) new last
    → new ≡ row ++ stores_text no_address (bytes_at (ram_byte memory) all)
listed-all row new all memory i last past are =
    are.0 ∙ ap (λ (l : List ℕ). row ++ stores_text no_address (bytes_at (ram_byte memory) l)) (take_all i all past)

-- Bytes that differ

-- the stores of n more addresses, whose old bytes another function gives
pub others-joined : (old was new : ℕ → ℕ) (row mid out : List ℕ) (next between last a m n total : ℕ) → total ≡ m + n
    → ((k : ℕ) → a + m ≤ k → k < a + m + n → was k ≡ old k) → Appends row next (differing old new a m) mid between
    → Appends mid between (differing was new (a + m) n) out last → Appends row next (differing old new a total) out last
others-joined old was new row mid out next between last a m n total is same before more =
    let following : differing was new (a + m) n ≡ differing old new (a + m) n =
    differing-alike was old new new (a + m) n same (λ k high low. refl) in
    let whole : differing old new a total ≡ differing old new a m ++ differing was new (a + m) n =
    ap (differing old new a) is ∙ differing-cut old new a m n ∙ ap (λ (l : List Store). differing old new a m ++ l)
    (sym following) in
    subst (λ (l : List Store). Appends row next l out last) (sym whole)
    (appends-more row mid out next between last (differing old new a m) (differing was new (a + m) n) before more)

differing-one : (old new : ℕ → ℕ) (a : ℕ) → differing old new a 1 ≡ (if old a == new a then [] else (a, new a) ∷ [])
unfolding differing
differing-one old new a = refl

-- one more address is compared
pub other-looked : (old new : ℕ → ℕ) (row mid out : List ℕ) (next between last first a was byte : ℕ) → first ≤ a → was ≡ old a
    → byte ≡ new a
    → Appends row next (differing old new first (a - first)) mid between
    → Appends mid between (if was == byte then [] else (a, byte) ∷ []) out last
    → Appends row next (differing old new first (a + 1 - first)) out last
other-looked old new row mid out next between last first a was byte order was_is byte_is before more =
    let here : first + (a - first) ≡ a = omega (arith, order) in
    let one : differing old new (first + (a - first)) 1 ≡ (if was == byte then [] else (a, byte) ∷ []) =
    ap (λ (k : ℕ). differing old new k 1) here ∙ differing-one old new a
    ∙ ap₂ (λ (o b : ℕ). if o == b then [] else (a, b) ∷ []) (sym was_is) (sym byte_is) in
    others-joined old old new row mid out next between last first (a - first) 1 (a + 1 - first) (omega (arith, order))
    (λ k high low. refl) before
    (subst (λ (l : List Store). Appends mid between l out last) (sym one) more)

-- if the bytes are the same, nothing is appended to the row
pub others-none : (memory : Memory) (row old now : List ℕ) (next first end : ℕ) → old ≡ now
    → ((a : ℕ) → first ≤ a → a < end → from_address first now a ≡ ram_byte memory a)
    → Appends row next (differing (from_address first old) (ram_byte memory) first (end - first)) row next
others-none memory row old now next first end same held =
    let none : differing (from_address first old) (ram_byte memory) first (end - first) ≡ [] =
    differing-none (from_address first old) (ram_byte memory) first (end - first)
    (λ k high low. ap (λ (l : List ℕ). from_address first l k) same ∙ held k high (omega (arith, high, low))) in
    subst (λ (l : List Store). Appends row next l row next) (sym none) (appends-none row next)

-- no address is compared yet, or none is left
pub appends-empty : (old new : ℕ → ℕ) (row : List ℕ) (next a n : ℕ) → n ≡ 0 → Appends row next (differing old new a n) row next
unfolding differing
appends-empty old new row next a n is = subst (λ (k : ℕ). Appends row next (differing old new a k) row next) (sym is)
    (appends-none row next)

pub none-left : (old new : ℕ → ℕ) (next a n : ℕ) → n ≡ 0 → stores_text next (differing old new a n) ≡ []
unfolding differing
none-left old new next a n is = ap (λ (k : ℕ). stores_text next (differing old new a k)) is

-- the stores of a piece are a row of their own, and those after them are left
pub piece-parted : (old : List ℕ) (new : ℕ → ℕ) (row out : List ℕ) (next last start past end size : ℕ) → row ≡ [] → start ≤ past
    → past ≤ size
    → past ≡ end → length old ≡ size
    → Appends row next (differing (from_address start (slice_range old start past)) new start (past - start)) out last
    → stores_text next (differing (slice_index old) new start (size - start)) ≡ out
    ++ stores_text last (differing (slice_index old) new end (size - end))
piece-parted old new row out next last start past end size empty order within here long are =
    let whole : size - start ≡ (past - start) + (size - past) = omega (arith, order, within) in
    let at : start + (past - start) ≡ past = omega (arith, order) in
    let text : out ≡ stores_text next (differing (from_address start (slice_range old start past)) new start (past - start)) =
    are.0 ∙ ap (λ (l : List ℕ). l ++ stores_text next
    (differing (from_address start (slice_range old start past)) new start (past - start))) empty in
    let same : differing (from_address start (slice_range old start past)) new start (past - start) ≡ differing (slice_index old)
    new start (past - start) =
    differing-alike (from_address start (slice_range old start past)) (slice_index old) new new start (past - start)
    (λ k high low. range-at old start past (k - start) k 0 (omega (arith, within, long)) (omega (arith, high))
    (omega (arith, high, low)))
    (λ k high low. refl) in
    ap (λ (n : ℕ). stores_text next (differing (slice_index old) new start n)) whole
    ∙ ap (stores_text next) (differing-cut (slice_index old) new start (past - start) (size - past))
    ∙ stores_text-joined next (differing (slice_index old) new start (past - start))
    (differing (slice_index old) new (start + (past - start)) (size - past))
    ∙ ap₂ (λ (l : List Store) (k : ℕ). stores_text next l ++ stores_text (next_following next l)
    (differing (slice_index old) new k (size - past))) (sym same) at
    ∙ ap₂ (λ (l : List ℕ) (n : ℕ). l ++ stores_text n (differing (slice_index old) new past (size - past))) (sym text) (sym are.1)
    ∙ ap (λ (k : ℕ). out ++ stores_text last (differing (slice_index old) new k (size - k))) here
