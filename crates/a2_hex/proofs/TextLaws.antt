-- A text of lines is cut into these lines again, and a line gives its address and its bytes.
use Rattle.std.proofs.Common.{◌≡◌, ℕ, ◌-◌, ◌/◌, ◌%◌, ◌<◌, Bool, true, false, not, ◌&&◌, eqb, List, [], ◌∷◌, ◌++◌, length, map, take, drop, Option, Some, refl, sym, ap, ◌∙◌, arith}
use Rattle.std.specs.Option.{option_map}
use Rattle.std.specs.List.{flat_map, list_all, position, position_or_len, slice_split, All}
use Rattle.std.specs.Str.Lines.{strip_carriage_return}
use Rattle.std.proofs.lemmas.Bool.{lt-ltb, agree_below_at, eqb-true}
use Rattle.std.proofs.lemmas.Bool.Decides.{nat_tests}
use Rattle.std.proofs.lemmas.List.{append_assoc}
use Rattle.std.proofs.lemmas.List.Elements.{All-from_get_or}
use Rattle.std.proofs.lemmas.List.Splits.{slice_split_at}
use Rattle.std.proofs.lemmas.List.Sums.{AllPass-from_list_all}
use Rattle.a2_text.specs.Bytes.{is_blank, is_digit_in, digit}
use Rattle.a2_text.specs.Digits.{hex_digit, hex_pair, hex_word}
use Rattle.a2_text.specs.Lines.{lines, lines_of_pieces}
use Rattle.a2_text.specs.Words.{after_blanks, words}
use Rattle.a2_text.proofs.Cutting.{slice_split-some, lines_of_pieces-cons}
use Rattle.a2_text.proofs.WordLaws.{words-first}
use Rattle.a2_hex.specs.ObjectText.{after_blank, spaced, run, line_at, text_of_lines}
use Rattle.a2_hex.specs.ObjectLines.{hex_address, byte_of, each, hex_bytes, address_before_colon, store_of}
use Rattle.a2_hex.proofs.StoreLaws.{store_of_position}

-- neither a line feed nor a carriage return
abbrev is_plain : ℕ → Bool
is_plain c = not (eqb c 10) && not (eqb c 13)

abbrev is_feed : ℕ → Bool
is_feed c = eqb c 10

abbrev is_colon : ℕ → Bool
is_colon c = eqb c 58

plain-feed : (c : ℕ) → is_plain c ≡ true → is_feed c ≡ false
plain-feed c h = grind (arith, nat_tests)

plain-return : (c : ℕ) → is_plain c ≡ true → eqb c 13 ≡ false
plain-return c h = grind (arith, nat_tests)

strip-plain : (line : List ℕ) → list_all is_plain line ≡ true → strip_carriage_return line ≡ line
strip-plain [] h = refl
strip-plain (c ∷ line) h = rw (plain-return _ (AllPass-from_list_all is_plain (c ∷ line) h (length (c ∷ line) - 1) 0 (omega arith)))

cut-plain : (line text : List ℕ) → list_all is_plain line ≡ true → lines ((line ++ 10 ∷ []) ++ text) ≡ line ∷ lines text
cut-plain line text h =
    let none : All (λ c. is_feed c ≡ false) line = All-from_get_or (λ c. is_feed c ≡ false) line 0 (λ i lt. plain-feed _ (AllPass-from_list_all is_plain line h i 0 lt)) in
    let (q, qs, more) = slice_split-some text in
    let cut : slice_split is_feed (line ++ 10 ∷ text) ≡ line ∷ slice_split is_feed text = slice_split_at is_feed line 10 text none refl in
    ap lines (append_assoc line (10 ∷ []) text) ∙ ap lines_of_pieces cut ∙ lines_of_pieces-cons line (slice_split is_feed text) qs q more
    ∙ ap (λ (l : List ℕ). l ∷ lines text) (strip-plain line h)

-- each line is plain
abbrev pub ArePlain : List (List ℕ) → Type 0
ArePlain [] = Unit {0}
ArePlain (line ∷ lines) = (list_all is_plain line ≡ true) × ArePlain lines

pub ArePlain-append : (xs ys : List (List ℕ)) → ArePlain xs → ArePlain ys → ArePlain (xs ++ ys)
ArePlain-append [] ys h k = k
ArePlain-append (x ∷ xs) ys h k = (h.0, ArePlain-append xs ys h.1 k)

pub lines-text : (ls : List (List ℕ)) → ArePlain ls → lines (text_of_lines ls) ≡ ls
lines-text [] h = refl
lines-text (line ∷ ls) h = cut-plain line (text_of_lines ls) h.0 ∙ ap (λ (l : List (List ℕ)). line ∷ l) (lines-text ls h.1)

-- the digits are plain, and are neither blanks nor `:`
digit-plain : (n : ℕ) → is_plain (hex_digit n) ≡ true
digit-plain n = grind (arith, nat_tests)

digit-not_blank : (n : ℕ) → is_blank (hex_digit n) ≡ false
digit-not_blank n = grind (arith, nat_tests)

digit-not_colon : (n : ℕ) → is_colon (hex_digit n) ≡ false
digit-not_colon n = grind (arith, nat_tests)

digit-is : (n : ℕ) → n < 16 → is_digit_in 16 (hex_digit n) ≡ true
digit-is n h = agree_below_at (λ n. is_digit_in 16 (hex_digit n)) (λ _. true) 16 n refl h

digit-value : (n : ℕ) → n < 16 → digit (hex_digit n) ≡ n
digit-value n h = eqb-true (digit (hex_digit n)) n (agree_below_at (λ n. eqb (digit (hex_digit n)) n) (λ _. true) 16 n refl h)

pairs-plain : (bytes : List ℕ) → list_all is_plain (flat_map after_blank bytes) ≡ true
pairs-plain [] = refl
pairs-plain (byte ∷ bytes) = rw (digit-plain (byte / 16), digit-plain (byte % 16)) (pairs-plain bytes)

pub line-plain : (image : ℕ → Option ℕ) (a : ℕ) → list_all is_plain (line_at image a) ≡ true
line-plain image a = rw (digit-plain (a / 256 / 16), digit-plain (a / 256 % 16), digit-plain (a % 256 / 16), digit-plain (a % 256 % 16)) (spaced-plain (run image a (8 - a % 8)))
  where
    spaced-plain : (bytes : List ℕ) → list_all is_plain (spaced bytes) ≡ true
    spaced-plain [] = refl
    spaced-plain (byte ∷ bytes) = pairs-plain (byte ∷ bytes)

-- the words of spaced bytes
words-pairs : (byte : ℕ) (bytes : List ℕ) → words (hex_pair byte ++ flat_map after_blank bytes) ≡ map hex_pair (byte ∷ bytes)
words-pairs byte [] = rw (digit-not_blank (byte / 16), digit-not_blank (byte % 16))
words-pairs byte (next ∷ bytes) = rw (digit-not_blank (byte / 16), digit-not_blank (byte % 16)) (ap (λ (ws : List (List ℕ)). hex_pair byte ∷ ws) (words-pairs next bytes))

-- bytes below 256
abbrev pub AreBytes : List ℕ → Type 0
AreBytes [] = Unit {0}
AreBytes (byte ∷ bytes) = (byte < 256) × AreBytes bytes

byte-pair : (byte : ℕ) → byte < 256 → byte_of (hex_pair byte) ≡ Some byte
unfolding byte_of
byte-pair byte h = grind (arith, nat_tests)

each-pairs : (bytes : List ℕ) → AreBytes bytes → each (map byte_of (map hex_pair bytes)) ≡ Some bytes
each-pairs [] h = refl
each-pairs (byte ∷ bytes) h =
    ap (λ (o : Option ℕ). each (o ∷ map byte_of (map hex_pair bytes))) (byte-pair byte h.0) ∙ ap (option_map (λ others. byte ∷ others)) (each-pairs bytes h.1)

bytes_of-spaced : (bytes : List ℕ) → AreBytes bytes → hex_bytes (spaced bytes) ≡ Some bytes
unfolding hex_bytes
bytes_of-spaced [] h = refl
bytes_of-spaced (byte ∷ bytes) h = ap (λ (ws : List (List ℕ)). each (map byte_of ws)) (words-pairs byte bytes) ∙ each-pairs (byte ∷ bytes) h

-- the four digits of an address give the address
address-word : (a : ℕ) → a < 65536 → hex_address (hex_word a) ≡ Some a
address-word a h = grind (arith, nat_tests)

following-word : (a : ℕ) (rest : List ℕ) → after_blanks (hex_word a ++ rest) ≡ hex_word a ++ rest
following-word a rest = rw (digit-not_blank (a / 256 / 16))

given-word : (a : ℕ) → a < 65536 → address_before_colon (hex_word a) ≡ Some (Some a)
unfolding address_before_colon
given-word a h = rw (following-word a [], address-word a h)

colon-at : (a : ℕ) (rest : List ℕ) → position is_colon (hex_word a ++ 58 ∷ rest) ≡ Some 4
colon-at a rest = rw (digit-not_colon (a / 256 / 16), digit-not_colon (a / 256 % 16), digit-not_colon (a % 256 / 16), digit-not_colon (a % 256 % 16), lt-ltb 4 (length (hex_word a ++ 58 ∷ rest)) (omega arith))

-- what a written line stores
pub store-line : (a : ℕ) (bytes : List ℕ) → a < 65536 → AreBytes bytes → store_of (hex_word a ++ 58 ∷ spaced bytes) ≡ Some (record { address = Some a; bytes = bytes })
store-line a bytes h k = rw (store_of_position (hex_word a ++ 58 ∷ spaced bytes), colon-at a (spaced bytes), given-word a h, bytes_of-spaced bytes k)

pub words-line : (a : ℕ) (rest : List ℕ) → (word : List ℕ) × (others : List (List ℕ)) × (words (hex_word a ++ rest) ≡ word ∷ others)
words-line a rest =
    let line : List ℕ = hex_word a ++ rest in
    let n = position_or_len is_blank line in
    (take n line, words (drop n line), words-first line line n (sym (following-word a rest)) (omega arith) refl)
