-- Rows are read back, a field at a time.
use Rattle.std.specs.Prelude.{◌≡◌, ℕ, zero, suc, ◌+◌, ◌/◌, ◌%◌, ◌^◌, ◌<◌, ◌≤◌, ◌==◌, nat_lt, nat_le, ◌||◌, Bool, true, false}
use Rattle.std.specs.Prelude.{if◌then◌else◌, List, [], ◌∷◌, ◌++◌, length, take, drop, Option, Some, None, IfSome, All, codes}
use Rattle.std.specs.Prelude.{refl}
use Rattle.std.specs.List.{concat, flat_map, list_all}
use Rattle.std.proofs.Common.{sym, ap, ap₂, ◌∙◌, subst, arith, append_assoc, length-append, take_at, drop_at, true≢false}
use Rattle.std.proofs.lemmas.Bool.{and_parts}
use Rattle.std.proofs.lemmas.List.Elements.{All-head, All-tail}
use Rattle.std.proofs.lemmas.Bool.Decides.{nat_tests}
use Rattle.std.proofs.lemmas.Fmt.{decimal_is_IsNumeral_wide}
use Rattle.std.proofs.NetLemmas.Numbers.{NoDigit, digit_count-append, digit_count_none}
use Rattle.std.specs.Fmt.{decimal}
use Rattle.std.specs.Char.{digit_value}
use Rattle.std.specs.Str.Parse.{digits_value}
use Rattle.a2_text.specs.Digits.{hex_digit, hex_pair, hex_word}
use Rattle.a2_text.specs.Bytes.{is_among}
use Rattle.a2_film.specs.Rows.{fields_of_parts, byte_text, switches_text, keys_text, typed_text, store_text, stores_text, no_address}
use Rattle.a2_film.specs.Rows.{row_text}
use Rattle.a2_film.specs.Changes.{Store, Change}
use Rattle.a2_film.specs.Reader.{first, hex_number, digit_count, decimal_number, field, keys_field, typed_field, stores_field, read_row}
use Rattle.a2_film.specs.Reader.{read_rows}
use Rattle.a2_film.specs.Laws.{Fits, RowsReadBack}

-- Digits

digit-back : (n : ℕ) → n < 16 → digit_value (hex_digit n) ≡ n
digit-back n low = go (nat_lt n 10) refl
  where
    go : (v : Bool) → nat_lt n 10 ≡ v → digit_value (if v then 48 + n else 55 + n) ≡ n
    go true h = grind (arith, nat_tests, h, low)
    go false h = grind (arith, nat_tests, h, low)

pair-back : (n : ℕ) (rest : List ℕ) → n < 0x100 → hex_number 2 (hex_pair n ++ rest) ≡ n
pair-back n rest low =
    let high : digit_value (hex_digit (n / 16)) ≡ n / 16 = digit-back (n / 16) (omega (arith, low)) in
    let last : digit_value (hex_digit (n % 16)) ≡ n % 16 = digit-back (n % 16) (omega arith) in
    rw (high, last) (omega arith)

one-back : (n : ℕ) (rest : List ℕ) → n < 16 → hex_number 1 (hex_digit n ∷ rest) ≡ n
one-back n rest low =
    let digit : digit_value (hex_digit n) ≡ n = digit-back n low in
    rw digit (omega arith)

word-back : (n : ℕ) (rest : List ℕ) → n < 0x10000 → hex_number 4 (hex_word n ++ rest) ≡ n
word-back n rest low =
    let a : digit_value (hex_digit (n / 256 / 16)) ≡ n / 256 / 16 = digit-back (n / 256 / 16) (omega (arith, low)) in
    let b : digit_value (hex_digit (n / 256 % 16)) ≡ n / 256 % 16 = digit-back (n / 256 % 16) (omega arith) in
    let c : digit_value (hex_digit (n % 256 / 16)) ≡ n % 256 / 16 = digit-back (n % 256 / 16) (omega arith) in
    let d : digit_value (hex_digit (n % 256 % 16)) ≡ n % 256 % 16 = digit-back (n % 256 % 16) (omega arith) in
    rw (a, b, c, d) (omega arith)

record IsDecimal (n : ℕ) (rest : List ℕ) : Type 0 where
  count : digit_count (decimal n ++ rest) ≡ length (decimal n)
  number : decimal_number (decimal n ++ rest) ≡ n
  following : drop (digit_count (decimal n ++ rest)) (decimal n ++ rest) ≡ rest

decimal-back : (n : ℕ) (rest : List ℕ) → n < 10 ^ 64 → NoDigit 10 rest → IsDecimal n rest
decimal-back n rest low stop =
    let is = decimal_is_IsNumeral_wide n low in
    let count : digit_count (decimal n ++ rest) ≡ length (decimal n) =
    omega (arith, digit_count-append 10 (decimal n) rest is.0.1, digit_count_none 10 rest stop) in
    record {
      count = count;
      number = ap (λ (k : ℕ). digits_value 10 (take k (decimal n ++ rest))) count
          ∙ ap (digits_value 10) (take_at (decimal n) rest (length (decimal n)) refl) ∙ is.1;
      following = ap (λ (k : ℕ). drop k (decimal n ++ rest)) count ∙ drop_at (decimal n) rest (length (decimal n)) refl;
    }

-- The first byte of a text

-- the first byte is one of these
abbrev Among : List ℕ → List ℕ → Type 0
Among letters text = is_among letters (first text) ≡ true

or-right : (u v : Bool) → v ≡ true → (u || v) ≡ true
or-right true v e = refl
or-right false v e = e

among-more : (letter : ℕ) (letters text : List ℕ) → Among letters text → Among (letter ∷ letters) text
among-more letter letters text is = or-right (letter == first text) (is_among letters (first text)) is

among-first : (letter : ℕ) (letters text : List ℕ) → Among (letter ∷ letters) (letter ∷ text)
among-first letter letters text = grind (arith, nat_tests)

other : (letter : ℕ) (letters text : List ℕ) → Among letters text → is_among letters letter ≡ false
    → (first text == letter) ≡ false
other letter letters text is none = go (first text == letter) refl
  where
    go : (v : Bool) → (first text == letter) ≡ v → v ≡ false
    go false e = refl
    go true e =
        let same : first text ≡ letter = grind (arith, nat_tests, e) in
        absurd (true≢false (sym is ∙ ap (is_among letters) same ∙ none))

-- Fields

byte-field : (letter : ℕ) (value : Option ℕ) (rest : List ℕ) → (letter == letter) ≡ true → (first rest == letter) ≡ false
    → IfSome value (λ n. n < 0x100)
    → field letter 2 (byte_text letter value ++ rest) ≡ (value, rest)
byte-field letter None rest same different fits = rw different
byte-field letter (Some n) rest same different fits = rw same (ap (λ (m : ℕ). (Some m, rest)) (pair-back n rest fits))

byte-among : (letter : ℕ) (value : Option ℕ) (letters rest : List ℕ) → Among letters rest
    → Among (letter ∷ letters) (byte_text letter value ++ rest)
byte-among letter None letters rest is = among-more letter letters rest is
byte-among letter (Some n) letters rest is = among-first letter letters (hex_pair n ++ rest)

switches-field : (value : Option ℕ) (rest : List ℕ) → (first rest == 0x77) ≡ false → IfSome value (λ n. n < 16)
    → field 0x77 1 (switches_text value ++ rest) ≡ (value, rest)
switches-field None rest different fits = rw different
switches-field (Some n) rest different fits = ap (λ (m : ℕ). (Some m, rest)) (one-back n rest fits)

switches-among : (value : Option ℕ) (letters rest : List ℕ) → Among letters rest
    → Among (0x77 ∷ letters) (switches_text value ++ rest)
switches-among None letters rest is = among-more 0x77 letters rest is
switches-among (Some n) letters rest is = among-first 0x77 letters (hex_digit n ∷ rest)

keys-back : (n : ℕ) (rest : List ℕ) → n < 10 ^ 64 → (first rest == 0x6B) ≡ false → NoDigit 10 rest
    → keys_field (keys_text n ++ rest) ≡ (n, rest)
keys-back n rest low different stop = go (n == 0) refl
  where
    go : (v : Bool) → (n == 0) ≡ v → keys_field ((if v then [] else 0x6B ∷ decimal n) ++ rest) ≡ (n, rest)
    go true e =
        let none : n ≡ 0 = grind (arith, nat_tests, e) in
        rw different (ap (λ (k : ℕ). (k, rest)) (sym none))
    go false e =
        let is = decimal-back n rest low stop in
        ap₂ (λ (k : ℕ) (text : List ℕ). (k, text)) is.number is.following

keys-among : (n : ℕ) (letters rest : List ℕ) → Among letters rest → Among (0x6B ∷ letters) (keys_text n ++ rest)
keys-among n letters rest is = go (n == 0)
  where
    go : (v : Bool) → Among (0x6B ∷ letters) ((if v then [] else 0x6B ∷ decimal n) ++ rest)
    go true = among-more 0x6B letters rest is
    go false = among-first 0x6B letters (decimal n ++ rest)

-- Keys

typed-back : (keys : List ℕ) (most : ℕ) (rest : List ℕ) → length keys < most → All (λ (key : ℕ). key < 0x100) keys
    → (first rest == 0x74) ≡ false → typed_field most (typed_text keys ++ rest) ≡ (keys, rest)
unfolding typed_field
typed-back keys zero rest low fits different = absurd (omega (arith, low))
typed-back [] (suc most) rest low fits different = rw different refl
typed-back (key ∷ keys) (suc most) rest low fits different =
    let tail = typed_text keys ++ rest in
    let again = typed-back keys most rest (omega (arith, low)) (All-tail (λ (k : ℕ). k < 0x100) key keys fits) different in
    ap (typed_field (suc most)) (append_assoc (0x74 ∷ hex_pair key) (typed_text keys) rest)
    ∙ ap₂ (λ (k : ℕ) (found : List ℕ × List ℕ). (k ∷ found.0, found.1))
    (pair-back key tail (All-head (λ (k : ℕ). k < 0x100) key keys fits)) again

typed-among : (keys letters rest : List ℕ) → Among letters rest → Among (0x74 ∷ letters) (typed_text keys ++ rest)
typed-among [] letters rest is = among-more 0x74 letters rest is
typed-among (key ∷ keys) letters rest is = among-first 0x74 letters ((hex_pair key ++ typed_text keys) ++ rest)

typed-long : (keys : List ℕ) → length keys ≤ length (typed_text keys)
typed-long [] = omega arith
typed-long (key ∷ keys) = omega (arith, typed-long keys)

-- Stores

hex-other : (n c : ℕ) → c < 48 → (hex_digit n == c) ≡ false
hex-other n c low = go (nat_lt n 10)
  where
    go : (v : Bool) → ((if v then 48 + n else 55 + n) == c) ≡ false
    go true = grind (arith, nat_tests, low)
    go false = grind (arith, nat_tests, low)

hex-small : (n : ℕ) → n < 16 → (hex_digit n == 0x6D) ≡ false
hex-small n low = go (nat_lt n 10)
  where
    go : (v : Bool) → ((if v then 48 + n else 55 + n) == 0x6D) ≡ false
    go true = grind (arith, nat_tests, low)
    go false = grind (arith, nat_tests, low)

abbrev FitsStore : Store → Type 0
FitsStore store = (store.0 < 0x10000) × (store.1 < 0x100)

stores-back : (stores : List Store) (most next : ℕ) (rest : List ℕ) → length stores < most → All FitsStore stores
    → stores_field most next (stores_text next stores ++ (0x0A ∷ rest)) ≡ (stores, rest)
unfolding stores_field
stores-back stores zero next rest low fits = absurd (omega (arith, low))
stores-back [] (suc most) next rest low fits = refl
stores-back (store ∷ others) (suc most) next rest low fits =
    let tail = stores_text (store.0 + 1) others ++ (0x0A ∷ rest) in
    let again = stores-back others most (store.0 + 1) rest (omega (arith, low)) (All-tail FitsStore store others fits) in
    ap (stores_field (suc most) next) (append_assoc (store_text next store) (stores_text (store.0 + 1) others) (0x0A ∷ rest))
    ∙ go tail again (store.0 == next) refl
  where
    here : FitsStore store
    here = All-head FitsStore store others fits

    go : (tail : List ℕ) → stores_field most (store.0 + 1) tail ≡ (others, rest) → (v : Bool) → (store.0 == next) ≡ v
        → stores_field (suc most) next (((if v then [] else 0x6D ∷ hex_word store.0) ++ hex_pair store.1)
        ++ tail) ≡ (store ∷ others, rest)
    go tail again true e =
        let same : next ≡ store.0 = grind (arith, nat_tests, e) in
        rw (
          hex-other (store.1 / 16) 0x0A (omega arith),
          hex-small (store.1 / 16) (omega (arith, here.1)),
          same,
          pair-back store.1
              tail here.1,
          again,
        )
    go tail again false e = rw (word-back store.0 (hex_pair store.1 ++ tail) here.0, pair-back store.1 tail here.1, again)

stores-among : (stores : List Store) (rest : List ℕ) → All FitsStore stores
    → Among (0x6D ∷ 0x0A ∷ []) (stores_text no_address stores ++ (0x0A ∷ rest))
stores-among [] rest fits = among-more 0x6D (0x0A ∷ []) (0x0A ∷ rest) (among-first 0x0A [] rest)
stores-among (store ∷ others) rest fits = go (store.0 == no_address) refl
  where
    go : (v : Bool) → (store.0 == no_address) ≡ v
        → Among (0x6D ∷ 0x0A ∷ []) ((((if v then [] else 0x6D ∷ hex_word store.0) ++ hex_pair store.1)
        ++ stores_text (store.0 + 1) others) ++ (0x0A ∷ rest))
    go true e = absurd (grind (arith, nat_tests, e, (All-head FitsStore store others fits).0))
    go false e = among-first 0x6D (0x0A ∷ []) (((hex_word store.0 ++ hex_pair store.1) ++ stores_text (store.0 + 1) others)
        ++ (0x0A ∷ rest))

stores-long : (stores : List Store) (next : ℕ) → length stores ≤ length (stores_text next stores)
stores-long [] next = omega arith
stores-long (store ∷ others) next = go (store.0 == next) (stores-long others (store.0 + 1))
  where
    go : (v : Bool) → length others ≤ length (stores_text (store.0 + 1) others)
        → length (store ∷ others) ≤ length (((if v then [] else 0x6D ∷ hex_word store.0) ++ hex_pair store.1)
        ++ stores_text (store.0 + 1) others)
    go true more = omega (arith, more)
    go false more = omega (arith, more)

-- The first byte is not a digit

nodigit-in : (letters : List ℕ) (c : ℕ) → is_among letters c ≡ true → list_all (λ l. nat_le 10 (digit_value l)) letters ≡ true
    → 10 ≤ digit_value c
nodigit-in [] c is all = absurd (true≢false (sym is))
nodigit-in (l ∷ ls) c is all = go (λ h. nodigit-in ls c h
    (and_parts (nat_le 10 (digit_value l)) (list_all (λ k. nat_le 10 (digit_value k)) ls) all).1) (l == c) refl is
  where
    parts : (nat_le 10 (digit_value l) ≡ true) × (list_all (λ k. nat_le 10 (digit_value k)) ls ≡ true)
    parts = and_parts (nat_le 10 (digit_value l)) (list_all (λ k. nat_le 10 (digit_value k)) ls) all

    go : (is_among ls c ≡ true → 10 ≤ digit_value c) → (v : Bool) → (l == c) ≡ v → (v || is_among ls c) ≡ true
        → 10 ≤ digit_value c
    go again true e h =
        let same : l ≡ c = grind (arith, nat_tests, e) in
        subst (λ (k : ℕ). 10 ≤ digit_value k) same (grind (arith, nat_tests, parts.0))
    go again false e h = again h

nodigit : (letters text : List ℕ) → Among letters text → list_all (λ l. nat_le 10 (digit_value l)) letters ≡ true
    → NoDigit 10 text
nodigit letters [] is all = omega arith
nodigit letters (c ∷ text) is all = nodigit-in letters c is all

-- A row

-- texts one after another, before a last one
abbrev onto : List (List ℕ) → List ℕ → List ℕ
onto [] text = text
onto (part ∷ parts) text = part ++ onto parts text

concat-onto : (parts : List (List ℕ)) (text : List ℕ) → concat parts ++ text ≡ onto parts text
concat-onto [] text = refl
concat-onto (part ∷ parts) text = append_assoc part (concat parts) text ∙ ap (λ (l : List ℕ). part ++ l) (concat-onto parts text)

onto-long : (parts : List (List ℕ)) (text : List ℕ) → length text ≤ length (onto parts text)
onto-long [] text = omega arith
onto-long (part ∷ parts) text = omega (arith, length-append part (onto parts text), onto-long parts text)

abbrev parts_of : Change → List (List ℕ)
parts_of change =
    hex_word change.pc ∷ decimal change.cycles ∷ byte_text 0x61 change.a ∷ byte_text 0x78 change.x ∷ byte_text 0x79 change.y
    ∷ byte_text 0x73 change.s ∷ byte_text 0x70 change.p ∷ switches_text change.switches ∷ keys_text change.keys ∷ []

abbrev stores_on : Change → List ℕ → List ℕ
stores_on change rest = stores_text no_address change.stores ++ (0x0A ∷ rest)

-- the keys and the stores
abbrev typed_on : Change → List ℕ → List ℕ
typed_on change rest = typed_text change.typed ++ stores_on change rest

row-form : (change : Change) (rest : List ℕ) → row_text change ++ rest ≡ onto (parts_of change) (typed_on change rest)
unfolding fields_of_parts
row-form change rest =
    let stored = stores_text no_address change.stores in
    append_assoc (concat (parts_of change)) (typed_text change.typed ++ (stored ++ codes "\n")) rest
    ∙ ap (λ (l : List ℕ). concat (parts_of change) ++ l)
    (append_assoc (typed_text change.typed) (stored ++ codes "\n") rest
    ∙ ap (λ (l : List ℕ). typed_text change.typed ++ l) (append_assoc stored (codes "\n") rest))
    ∙ concat-onto (parts_of change) (typed_on change rest)

row-back : (change : Change) (rest : List ℕ) → Fits change
    → read_row (onto (parts_of change) (typed_on change rest)) ≡ (change, rest)
unfolding read_row
row-back change rest fits =
    let t9 = stores_on change rest in
    let t8 = typed_text change.typed ++ t9 in
    let t7 = keys_text change.keys ++ t8 in
    let t6 = switches_text change.switches ++ t7 in
    let t5 = byte_text 0x70 change.p ++ t6 in
    let t4 = byte_text 0x73 change.s ++ t5 in
    let t3 = byte_text 0x79 change.y ++ t4 in
    let t2 = byte_text 0x78 change.x ++ t3 in
    let t1 = byte_text 0x61 change.a ++ t2 in
    let m9 = stores-among change.stores rest fits.stores in
    let m8 = typed-among change.typed (0x6D ∷ 0x0A ∷ []) t9 m9 in
    let m7 = keys-among change.keys (0x74 ∷ 0x6D ∷ 0x0A ∷ []) t8 m8 in
    let m6 = switches-among change.switches (0x6B ∷ 0x74 ∷ 0x6D ∷ 0x0A ∷ []) t7 m7 in
    let m5 = byte-among 0x70 change.p (0x77 ∷ 0x6B ∷ 0x74 ∷ 0x6D ∷ 0x0A ∷ []) t6 m6 in
    let m4 = byte-among 0x73 change.s (0x70 ∷ 0x77 ∷ 0x6B ∷ 0x74 ∷ 0x6D ∷ 0x0A ∷ []) t5 m5 in
    let m3 = byte-among 0x79 change.y (0x73 ∷ 0x70 ∷ 0x77 ∷ 0x6B ∷ 0x74 ∷ 0x6D ∷ 0x0A ∷ []) t4 m4 in
    let m2 = byte-among 0x78 change.x (0x79 ∷ 0x73 ∷ 0x70 ∷ 0x77 ∷ 0x6B ∷ 0x74 ∷ 0x6D ∷ 0x0A ∷ []) t3 m3 in
    let m1 = byte-among 0x61 change.a (0x78 ∷ 0x79 ∷ 0x73 ∷ 0x70 ∷ 0x77 ∷ 0x6B ∷ 0x74 ∷ 0x6D ∷ 0x0A ∷ []) t2 m2 in
    let cycles = decimal-back change.cycles t1 fits.cycles
    (nodigit (0x61 ∷ 0x78 ∷ 0x79 ∷ 0x73 ∷ 0x70 ∷ 0x77 ∷ 0x6B ∷ 0x74 ∷ 0x6D ∷ 0x0A ∷ []) t1 m1 refl) in
    let long : length change.typed + length change.stores < length (onto (parts_of change) t8) =
    omega (
      arith,
      stores-long change.stores no_address,
      length-append (stores_text no_address change.stores) (0x0A ∷ rest),
      typed-long change.typed,
      length-append (typed_text change.typed) t9,
      onto-long (parts_of change) t8,
    ) in
    rw (
      word-back change.pc (decimal change.cycles ++ t1) fits.pc,
      cycles.number,
      cycles.following,
      byte-field 0x61 change.a t2 refl (other 0x61 (0x78 ∷ 0x79 ∷ 0x73 ∷ 0x70 ∷ 0x77 ∷ 0x6B ∷ 0x74 ∷ 0x6D ∷ 0x0A ∷ []) t2 m2 refl)
          fits.a,
      byte-field 0x78 change.x t3 refl (other 0x78 (0x79 ∷ 0x73 ∷ 0x70 ∷ 0x77 ∷ 0x6B ∷ 0x74 ∷ 0x6D ∷ 0x0A ∷ []) t3 m3 refl) fits.x,
      byte-field 0x79 change.y t4 refl (other 0x79 (0x73 ∷ 0x70 ∷ 0x77 ∷ 0x6B ∷ 0x74 ∷ 0x6D ∷ 0x0A ∷ []) t4 m4 refl) fits.y,
      byte-field 0x73 change.s t5 refl (other 0x73 (0x70 ∷ 0x77 ∷ 0x6B ∷ 0x74 ∷ 0x6D ∷ 0x0A ∷ []) t5 m5 refl) fits.s,
      byte-field 0x70 change.p t6 refl (other 0x70 (0x77 ∷ 0x6B ∷ 0x74 ∷ 0x6D ∷ 0x0A ∷ []) t6 m6 refl) fits.p,
      switches-field change.switches t7 (other 0x77 (0x6B ∷ 0x74 ∷ 0x6D ∷ 0x0A ∷ []) t7 m7 refl) fits.switches,
      keys-back change.keys t8 fits.keys (other 0x6B (0x74 ∷ 0x6D ∷ 0x0A ∷ []) t8 m8 refl)
          (nodigit (0x74 ∷ 0x6D ∷ 0x0A ∷ []) t8 m8 refl),
      typed-back change.typed (length (onto (parts_of change) t8)) t9 (omega (arith, long)) fits.typed
          (other 0x74 (0x6D ∷ 0x0A ∷ []) t9 m9 refl),
      stores-back change.stores (length (onto (parts_of change) t8)) no_address rest (omega (arith, long)) fits.stores,
    )

-- All rows

rows-read : (changes : List Change) (most : ℕ) → length changes ≤ most → All (λ change. Fits change) changes
    → read_rows most (flat_map row_text changes) ≡ changes
unfolding read_rows
rows-read [] zero few fits = refl
rows-read [] (suc most) few fits = refl
rows-read (change ∷ others) zero few fits = absurd (omega (arith, few))
rows-read (change ∷ others) (suc most) few fits =
    let rest = flat_map row_text others in
    ap (read_rows (suc most)) (row-form change rest)
    ∙ ap (λ (found : Change × List ℕ). found.0 ∷ read_rows most found.1)
    (row-back change rest (All-head (λ c. Fits c) change others fits))
    ∙ ap (λ (found : List Change). change ∷ found)
    (rows-read others most (omega (arith, few)) (All-tail (λ c. Fits c) change others fits))

row-one : (change : Change) → 1 ≤ length (row_text change)
unfolding fields_of_parts
row-one change = omega arith

rows-long : (changes : List Change) → length changes ≤ length (flat_map row_text changes)
rows-long [] = omega arith
rows-long (change ∷ others) =
    omega (arith, length-append (row_text change) (flat_map row_text others), row-one change, rows-long others)

pub rows-back : RowsReadBack
rows-back changes fits = rows-read changes (length (flat_map row_text changes)) (rows-long changes) fits
