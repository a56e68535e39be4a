-- Loading bytes and lines.
use mathlib.Core.Path.{fun_ext}
use Rattle.std.proofs.Common.{◌≡◌, ℕ, ◌+◌, ◌-◌, ◌*◌, ◌<◌, ◌≤◌, eqb, get_or, take, drop, nat_lt, nat_le, Bool, true, false, not, ◌&&◌, ◌||◌, List, [], ◌∷◌, ◌++◌, length, map, Option, Some, None, Result, Ok, Err, inl, inr, refl, sym, ap, ◌∙◌, arith}
use Rattle.std.specs.Prelude.{IfSome, IfErr, IsErrAnd, fold, if◌then◌else◌}
use Rattle.std.specs.Option.{option_map, option_or, option_and_then}
use Rattle.std.specs.List.{list_all, slice_split, filter, position, position_or_len}
use Rattle.std.specs.Borrow.{Bor}
use Rattle.std.proofs.lemmas.Bool.Decides.{nat_tests}
use Rattle.std.proofs.lemmas.List.Elements.{All-from_get_or}
use Rattle.std.proofs.lemmas.List.Folds.{list_any_none, list_any_at}
use Rattle.std.proofs.lemmas.List.Sums.{fails_before_first, passes_at_first}
use Rattle.std.proofs.lemmas.Bool.{cases_lt, ltb-false, and_parts, both_ways, not-true, eqb-true, le-ltb, lt-ltb, agree_below_at}
use Rattle.std.proofs.lemmas.List.{append_assoc, append-nil, take_all, drop_more, drop_all, length-map, get_or-map}
use Rattle.a2_text.specs.Bytes.{is_blank, is_digit_in, digit}
use Rattle.a2_text.specs.Lines.{lines}
use Rattle.a2_text.specs.Words.{words}
use Rattle.a2_hex.specs.declared.fault.HexFault.{HexFault}
use Rattle.a2_hex.specs.declared.fault.HexFault.TheVariants.{Digit, Memory}
use Rattle.a2_hex.specs.Images.{no_bytes, overlaid, put, ram_end}
use Rattle.a2_hex.specs.ObjectLines.{Loaded, Store, address_before_colon, both, store_of, byte_of, each, hex_bytes, lies_outside, after_bytes, after_store_line, after_line, after_lines, image_of, ◌>>=◌}
use Rattle.a2_formats.specs.Digits.{digit_value, ends_word}

second_holds : (x y : Bool) → x ≡ false → (x || y) ≡ true → y ≡ true
second_holds true y h t = absurd (both_ways true h refl)
second_holds false y h t = t

-- that a digit is none, or is one as `a2_text` says, with this value
abbrev is_usual : ℕ → Bool
is_usual c = nat_lt 15 (digit_value c) || (is_digit_in 16 c && (eqb (digit c) (digit_value c) && not (is_blank c)))

usual : (c : ℕ) → c < 256 → digit_value c ≤ 15 → (is_digit_in 16 c ≡ true) × (digit c ≡ digit_value c) × (is_blank c ≡ false)
usual c lt small =
    let all : is_usual c ≡ true = agree_below_at is_usual (λ _. true) 256 c refl lt in
    let test : (is_digit_in 16 c && (eqb (digit c) (digit_value c) && not (is_blank c))) ≡ true = second_holds _ _ (le-ltb 15 (digit_value c) small) all in
    let outer = and_parts _ _ test in
    let inner = and_parts _ _ outer.1 in
    (outer.0, eqb-true _ _ inner.0, not-true _ inner.1)

-- two digits, for any test of digits and any values
two_digits : (p : ℕ → Bool) (d : ℕ → ℕ) (h l v w : ℕ) → p h ≡ true → p l ≡ true → d h ≡ v → d l ≡ w → v ≤ 15 → w ≤ 15
    → (if nat_lt 0 2 && nat_le 2 2 && list_all p (h ∷ l ∷ []) && nat_lt (fold (λ n c. n * 16 + d c) 0 (h ∷ l ∷ [])) 65536
    then Some (fold (λ n c. n * 16 + d c) 0 (h ∷ l ∷ [])) else None) ≡ Some (v * 16 + w)
two_digits p d h l v w ph pl dh dl vs ws =
    let small : (0 * 16 + v) * 16 + w < 65536 = omega (arith, vs, ws) in
    let same : (0 * 16 + v) * 16 + w ≡ v * 16 + w = omega arith in
    rw (ph, pl, dh, dl, lt-ltb _ _ small) (ap Some same)

byte_pair : (high low : ℕ) → high < 256 → low < 256 → digit_value high ≤ 15 → digit_value low ≤ 15 → byte_of (high ∷ low ∷ []) ≡ Some (digit_value high * 16 + digit_value low)
unfolding byte_of
byte_pair high low hl ll hs ls =
    let h = usual high hl hs in
    let l = usual low ll ls in
    two_digits (is_digit_in 16) digit high low _ _ h.0 l.0 h.1 l.1 hs ls

-- two bytes that are not blank, and then nothing or a blank, for any test of blanks
split_pair : (p : ℕ → Bool) (h l : ℕ) (rest : List ℕ) → p h ≡ false → p l ≡ false → p 32 ≡ true → ends_word rest ≡ true
    → filter (λ piece. nat_lt 0 (length piece)) (slice_split p (h ∷ l ∷ rest)) ≡ (h ∷ l ∷ []) ∷ filter (λ piece. nat_lt 0 (length piece)) (slice_split p rest)
split_pair p h l [] ph pl blank ends = rw (ph, pl) refl
split_pair p h l (c ∷ rest) ph pl blank ends = rw (eqb-true c 32 ends, blank, ph, pl) refl

pub hex_bytes-pair : (high low : ℕ) (rest : List ℕ) → high < 256 → low < 256 → digit_value high ≤ 15 → digit_value low ≤ 15 → ends_word rest ≡ true
    → hex_bytes (high ∷ low ∷ rest) ≡ option_map (λ others. (digit_value high * 16 + digit_value low) ∷ others) (hex_bytes rest)
unfolding hex_bytes
hex_bytes-pair high low rest hl ll hs ls ends =
    let h = usual high hl hs in
    let l = usual low ll ls in
    ap (λ pieces. each (map byte_of pieces)) (split_pair is_blank high low rest h.2 l.2 refl ends)
    ∙ ap (λ o. each (o ∷ map byte_of (words rest))) (byte_pair high low hl ll hs ls)

pub hex_bytes-space : (rest : List ℕ) → hex_bytes rest ≡ hex_bytes (32 ∷ rest)
unfolding hex_bytes
hex_bytes-space rest = refl

-- one more byte
pub more_bytes : (front : List ℕ) (byte : ℕ) (o : Option (List ℕ)) → option_map (λ others. front ++ others) (option_map (λ others. byte ∷ others) o) ≡ option_map (λ others. (front ++ byte ∷ []) ++ others) o
more_bytes front byte None = refl
more_bytes front byte (Some others) = ap Some (sym (append_assoc front (byte ∷ []) others))

-- no more bytes, and nothing else
pub no_words : (rest : List ℕ) → words rest ≡ [] → hex_bytes rest ≡ Some []
unfolding hex_bytes
no_words rest none = rw none refl

first_none : (o : Option ℕ) (os : List (Option ℕ)) (r : Option (List ℕ)) → r ≡ each (o ∷ os) → IfSome r (λ bytes. bytes ≡ []) → r ≡ None
first_none None os r is none = is
first_none (Some byte) os r is none = more_none byte (each os) r is none
  where
    more_none : (byte : ℕ) (p r : Option (List ℕ)) → r ≡ option_map (λ others. byte ∷ others) p → IfSome r (λ bytes. bytes ≡ []) → r ≡ None
    more_none byte None r is none = is
    more_none byte (Some others) None is none = refl
    more_none byte (Some others) (Some bytes) is none = cc

-- no more bytes, but something else
pub other_word : (rest word : List ℕ) (others : List (List ℕ)) → words rest ≡ word ∷ others → IfSome (hex_bytes rest) (λ bytes. bytes ≡ []) → hex_bytes rest ≡ None
unfolding hex_bytes
other_word rest word others is none = first_none (byte_of word) (map byte_of others) (each (map byte_of (words rest))) (ap (λ pieces. each (map byte_of pieces)) is) none

-- what a line that is not blank does, given what it stores
after-store : (n : ℕ) (before : Loaded) (line : List ℕ) {word : List ℕ} {others : List (List ℕ)} {store : Option Store} → words line ≡ word ∷ others → store_of line ≡ store
    → after_line n before line ≡ after_store_line n before store
unfolding after_line
after-store n before line {word = word} {others = others} w is =
    let some : 0 < length (word ∷ others) = omega arith in
    rw (w, is) (grind (arith, nat_tests))

pub inside : (at count : ℕ) → count ≤ ram_end - at → lies_outside at count ≡ false
inside at count h = grind (arith, nat_tests)

pub outside : (at count : ℕ) → ram_end - at < count → lies_outside at count ≡ true
outside at count h = grind (arith, nat_tests)

-- the same, if the bytes were read
after_given : (line word : List ℕ) (others : List (List ℕ)) (given : Option ℕ) (bytes : List ℕ) → words line ≡ word ∷ others → store_of line ≡ both (Some given) (Some bytes)
    → (n : ℕ) (image : ℕ → Option ℕ) (next : Option ℕ) → after_line n (record { image = image; next = next }) line ≡ after_bytes n image (option_or given next) bytes
after_given line word others None bytes w is n image next = after-store n _ line w is
after_given line word others (Some at) bytes w is n image next = after-store n _ line w is

pub after_read : (line word : List ℕ) (others : List (List ℕ)) (o : Option (Option ℕ)) (given : Option ℕ) (bytes : List ℕ) → words line ≡ word ∷ others → store_of line ≡ both o (Some bytes) → o ≡ Some given
    → (n : ℕ) (image : ℕ → Option ℕ) (next : Option ℕ) → after_line n (record { image = image; next = next }) line ≡ after_bytes n image (option_or given next) bytes
after_read line word others o given bytes w is some = after_given line word others given bytes w (is ∙ ap (λ x. both x (Some bytes)) some)

-- a line of another form
pub after_other : (line word : List ℕ) (others : List (List ℕ)) (o : Option (Option ℕ)) (bytes : List ℕ) → words line ≡ word ∷ others → store_of line ≡ both o (Some bytes) → o ≡ None
    → (n : ℕ) (image : ℕ → Option ℕ) (next : Option ℕ) → after_line n (record { image = image; next = next }) line ≡ Err (Digit n)
after_other line word others o bytes w is none n image next = after-store n _ line w (is ∙ ap (λ x. both x (Some bytes)) none)

-- what the lines left load, given their first line
pub left-lines : (items : List (Bor (List ℕ))) (i : ℕ) (d : Bor (List ℕ)) (before : Loaded) {r : Result Loaded HexFault} → i < length items → after_line (i + 1) before (get_or items i d).now ≡ r
    → after_lines (i + 1) before (drop i (map (λ x. x.now) items)) ≡ (r >>= (λ after. after_lines (i + 1 + 1) after (drop (i + 1) (map (λ x. x.now) items))))
left-lines items i d before lt is =
    let now = λ (x : Bor (List ℕ)). x.now in
    let n = length-map items now in
    rw (drop_more (map now items) i [] (omega arith), get_or-map now items i d [] lt, is)

pub left-none : (items : List (Bor (List ℕ))) (i : ℕ) (before : Loaded) → length items ≤ i → after_lines (i + 1) before (drop i (map (λ x. x.now) items)) ≡ Ok before
left-none items i before ge = (let n = length-map items (λ x. x.now) in ap (after_lines (i + 1) before) (drop_all i (map (λ x. x.now) items) (omega arith)))

-- a result that is this error
pub is-refused : {T : Type 0} (r : Result T HexFault) (text : List ℕ) (fault : HexFault) → IsErrAnd r (λ e. e ≡ fault)
    → ((fault ≡ Memory → ⊥) → after_lines 1 (record { image = no_bytes; next = None }) (lines text) ≡ Err fault)
    → IfErr r (λ e. (e ≡ Memory → ⊥) → image_of text ≡ Err e)
is-refused (Ok x) text fault h is = tt
is-refused (Err e) text fault h is = λ other. rw (is (λ memory. other (h ∙ memory)), h) refl

-- text that has two characters at least
pub hex_bytes-first : (text : List ℕ) (high low : ℕ) (following : List ℕ) → ((i : ℕ) → get_or text i 0 < 256) → 2 ≤ length text
    → high ≡ digit_value (get_or text 0 0) → low ≡ digit_value (get_or text 1 0) → high ≤ 15 → low ≤ 15
    → following ≡ take (length text - 2) (drop 2 text) → ends_word following ≡ true
    → hex_bytes text ≡ option_map (λ others. (high * 16 + low) ∷ others) (hex_bytes following)
hex_bytes-first [] high low following fits two h l hs ls after ends = absurd (omega (arith, two))
hex_bytes-first (c ∷ []) high low following fits two h l hs ls after ends = absurd (omega (arith, two))
hex_bytes-first (c ∷ d ∷ rest) high low following fits two h l hs ls after ends =
    let all : following ≡ rest = after ∙ take_all _ rest (omega arith) in
    rw (h, l, all) (hex_bytes-pair c d rest (fits 0) (fits 1) (rw h at hs) (rw l at ls) (rw all at ends))

pub hex_bytes-after_space : (text : List ℕ) → 1 ≤ length text → get_or text 0 0 ≡ 32 → hex_bytes (take (length text - 1) (drop 1 text)) ≡ hex_bytes text
hex_bytes-after_space [] some is = absurd (omega (arith, some))
hex_bytes-after_space (c ∷ rest) some is =
    let all : take (length (c ∷ rest) - 1) rest ≡ rest = take_all _ rest (omega arith) in
    rw all (hex_bytes-space rest ∙ ap (λ d. hex_bytes (d ∷ rest)) (sym is))

none_of : (x y z : Bool) → ((x || y) || not z) ≡ false → (x ≡ false) × (y ≡ false) × (z ≡ true)
none_of true y z h = absurd (both_ways true h refl)
none_of false true z h = absurd (both_ways true h refl)
none_of false false false h = absurd (both_ways true h refl)
none_of false false true h = (refl, refl, refl)

-- the same, given the test
pub hex_bytes-tested : (text : List ℕ) (high low : ℕ) (ends : Bool) → ((i : ℕ) → get_or text i 0 < 256) → 2 ≤ length text
    → high ≡ digit_value (get_or text 0 0) → low ≡ digit_value (get_or text 1 0) → ends ≡ ends_word (take (length text - 2) (drop 2 text))
    → ((nat_lt 15 high || nat_lt 15 low) || not ends) ≡ false
    → hex_bytes text ≡ option_map (λ others. (high * 16 + low) ∷ others) (hex_bytes (take (length text - 2) (drop 2 text)))
hex_bytes-tested text high low ends fits two h l e is =
    let all = none_of _ _ ends is in
    hex_bytes-first text high low _ fits two h l (ltb-false 15 high all.0) (ltb-false 15 low all.1) refl (sym e ∙ all.2)

-- one more byte is put
pub overlaid_more : (image after : ℕ → Option ℕ) (at i d : ℕ) (bytes : List ℕ) → i < length bytes → ((a : ℕ) → after a ≡ put image at (get_or bytes i d) a)
    → overlaid image at (drop i bytes) ≡ overlaid after (at + 1) (drop (i + 1) bytes)
overlaid_more image after at i d bytes lt same =
    ap (overlaid image at) (drop_more bytes i d lt) ∙ ap (λ f. overlaid f (at + 1) (drop (i + 1) bytes)) (sym (fun_ext same))

-- the line, given the position of its `:`
pub store_of_position : (line : List ℕ) → store_of line ≡ option_and_then (λ end. both (address_before_colon (take end line)) (hex_bytes (drop (end + 1) line))) (position (λ c. eqb c 58) line)
unfolding store_of
store_of_position line = elim (cases_lt (position_or_len (λ c. eqb c 58) line) (length line)) [
  | inl lt ↦ rw (lt-ltb _ _ lt, list_any_at (λ c. eqb c 58) line _ 0 lt (passes_at_first (λ c. eqb c 58) line 0 lt)) refl
  | inr ge ↦ rw (le-ltb _ _ ge, list_any_none (λ c. eqb c 58) line (All-from_get_or (λ c. eqb c 58 ≡ false) line 0 (λ i lt. fails_before_first (λ c. eqb c 58) line i 0 (omega arith)))) refl
]

-- the end of the bytes
pub all_read : (front rest text : List ℕ) → option_map (λ others. front ++ others) (hex_bytes rest) ≡ hex_bytes text → words rest ≡ [] → hex_bytes text ≡ Some front
all_read front rest text is none = sym is ∙ ap (option_map (λ others. front ++ others)) (no_words rest none) ∙ ap Some (append-nil front)

pub not_all_read : (front rest text word : List ℕ) (others : List (List ℕ)) → option_map (λ others. front ++ others) (hex_bytes rest) ≡ hex_bytes text → words rest ≡ word ∷ others
    → IfSome (hex_bytes rest) (λ bytes. bytes ≡ []) → hex_bytes text ≡ None
not_all_read front rest text word others is more none = sym is ∙ ap (option_map (λ others. front ++ others)) (other_word rest word others more none)
