-- The Monitor line with two four-digit addresses shows the bytes between them.
use Rattle.std.specs.Prelude.{if◌then◌else◌}
use Rattle.std.proofs.Common.{◌≡◌, ℕ, ◌+◌, ◌/◌, ◌%◌, ◌<◌, Bool, true, false, eqb, ltb, ◌&&◌, List, [], ◌∷◌, ◌++◌, length, take, drop, Option, Some, None, refl, sym, ap, ap₂, ◌∙◌, arith}
use Rattle.std.specs.Option.{option_map}
use Rattle.std.specs.List.{list_all, list_any, position_or_len, filter, All}
use Rattle.std.proofs.lemmas.Bool.{cond-true, cond-false, and_from, lt-ltb, agree_below_at, eqb-true}
use Rattle.std.proofs.lemmas.Bool.Decides.{nat_tests}
use Rattle.std.proofs.lemmas.List.Elements.{All-from_recursion}
use Rattle.std.proofs.lemmas.List.Splits.{slice_split_none}
use Rattle.a2_text.specs.Bytes.{is_blank, is_digit_in, digit, value_of_digits}
use Rattle.a2_text.specs.Digits.{hex_digit, hex_word}
use Rattle.a2_text.specs.Signs.{sign}
use Rattle.a2_text.specs.Words.{words}
use Rattle.a2_hex.specs.ObjectLines.{hex_address}
use Rattle.a2_monitor.specs.Commands.{Command, command_of, examines, has_letter, text_before, following, range_by, range_of, single_of, transfer_of}
use Rattle.a2_monitor.proofs.ParseLaws.{one_word}

-- the digits are neither spaces nor signs
not_blank : (n : ℕ) → is_blank (hex_digit n) ≡ false
not_blank n = grind (arith, nat_tests)

not_dot : (n : ℕ) → eqb (hex_digit n) 46 ≡ false
not_dot n = grind (arith, nat_tests)

not_colon : (n : ℕ) → eqb (hex_digit n) 58 ≡ false
not_colon n = grind (arith, nat_tests)

not_less : (n : ℕ) → eqb (hex_digit n) 60 ≡ false
not_less n = grind (arith, nat_tests)

-- if a test passes no digit, it passes none in an address
none-pass : (p : ℕ → Bool) (a : ℕ) (rest : List ℕ) → ((n : ℕ) → p (hex_digit n) ≡ false) → list_any p (hex_word a ++ rest) ≡ list_any p rest
none-pass p a rest none = rw (none (a / 256 / 16), none (a / 256 % 16), none (a % 256 / 16), none (a % 256 % 16)) refl

-- and it first passes the sign after the address
passes-following : (p : ℕ → Bool) (a c : ℕ) (rest : List ℕ) → ((n : ℕ) → p (hex_digit n) ≡ false) → p c ≡ true
    → position_or_len p (hex_word a ++ c ∷ rest) ≡ 4
passes-following p a c rest none passed =
    rw (none (a / 256 / 16), none (a / 256 % 16), none (a % 256 / 16), none (a % 256 % 16), passed) refl

-- the value of four digits
digit-is : (n : ℕ) → n < 16 → is_digit_in 16 (hex_digit n) ≡ true
digit-is n h = agree_below_at (λ n. is_digit_in 16 (hex_digit n)) (λ _. true) 16 n refl h

digit-value : (n : ℕ) → n < 16 → digit (hex_digit n) ≡ n
digit-value n h = eqb-true (digit (hex_digit n)) n (agree_below_at (λ n. eqb (digit (hex_digit n)) n) (λ _. true) 16 n refl h)

address-word : (a : ℕ) → a < 65536 → hex_address (hex_word a) ≡ Some a
address-word a h =
    let n1 : a / 256 / 16 < 16 = omega arith in
    let n2 : a / 256 % 16 < 16 = omega arith in
    let n3 : a % 256 / 16 < 16 = omega arith in
    let n4 : a % 256 % 16 < 16 = omega arith in
    let d1 = digit-value (a / 256 / 16) n1 in
    let d2 = digit-value (a / 256 % 16) n2 in
    let d3 = digit-value (a % 256 / 16) n3 in
    let d4 = digit-value (a % 256 % 16) n4 in
    let v : value_of_digits 16 (hex_word a) ≡ a = omega arith in
    let all : list_all (is_digit_in 16) (hex_word a) ≡ true =
    and_from _ _ (digit-is (a / 256 / 16) n1) (and_from _ _ (digit-is (a / 256 % 16) n2) (and_from _ _ (digit-is (a % 256 / 16) n3) (and_from _ _ (digit-is (a % 256 % 16) n4) refl))) in
    let small : ltb (value_of_digits 16 (hex_word a)) 65536 ≡ true = lt-ltb _ 65536 (omega (arith, v)) in
    cond-true (list_all (is_digit_in 16) (hex_word a) && ltb (value_of_digits 16 (hex_word a)) 65536) (Some (value_of_digits 16 (hex_word a))) None (and_from _ _ all small) ∙ ap Some v

-- no byte of the line is a space, so the line is one word
pub one-word : (a b : ℕ) → words (hex_word a ++ 46 ∷ hex_word b) ≡ (hex_word a ++ 46 ∷ hex_word b) ∷ []
one-word a b =
    let line : List ℕ = hex_word a ++ 46 ∷ hex_word b in
    let none : All (λ x. is_blank x ≡ false) line = All-from_recursion (λ x. is_blank x ≡ false) line (
      not_blank (a / 256 / 16),
      (
        not_blank (a / 256 % 16),
        (
          not_blank (a % 256 / 16),
          (
            not_blank (a % 256 % 16),
            (
              refl,
              (not_blank (b / 256 / 16), (not_blank (b / 256 % 16), (not_blank (b % 256 / 16), (not_blank (b % 256 % 16), tt)))),
            ),
          ),
        ),
      ),
    ) in
    ap (filter (λ (piece : List ℕ). ltb 0 (length piece))) (slice_split_none is_blank line none)

pub shows-line : (a b : ℕ) → a < 65536 → b < 65536 → command_of (hex_word a ++ 46 ∷ hex_word b) ≡ Some (examines (record { first = a; last = b }))
shows-line a b low high =
    let line : List ℕ = hex_word a ++ 46 ∷ hex_word b in
    let colon : has_letter (sign ":") line ≡ false =
    none-pass (λ c. eqb c 58) a (46 ∷ hex_word b) not_colon ∙ none-pass (λ c. eqb c 58) b [] not_colon in
    let less : has_letter (sign "<") line ≡ false =
    none-pass (λ c. eqb c 60) a (46 ∷ hex_word b) not_less ∙ none-pass (λ c. eqb c 60) b [] not_less in
    let dot : has_letter (sign ".") line ≡ true = none-pass (λ c. eqb c 46) a (46 ∷ hex_word b) not_dot in
    let place : position_or_len (λ c. eqb c 46) line ≡ 4 = passes-following (λ c. eqb c 46) a 46 (hex_word b) not_dot refl in
    let front : text_before (sign ".") line ≡ hex_word a = ap (λ (n : ℕ). take n line) place in
    let back : following (sign ".") line ≡ hex_word b = ap (λ (n : ℕ). drop (n + 1) line) place in
    sym (one_word line line [] (sym colon) (one-word a b) refl)
    ∙ cond-false (has_letter (sign "<") line) (transfer_of (text_before (sign "<") line) (following (sign "<") line))
    (if-dot line) less
    ∙ cond-true (has_letter (sign ".") line) (option_map (λ range. examines range) (range_of line)) (single_of line) dot
    ∙ ap (option_map (λ range. examines range))
    (cond-true (has_letter (sign ".") line) (range_by (hex_address (text_before (sign ".") line)) (hex_address (following (sign ".") line))) None dot
    ∙ ap₂ (λ (x y : List ℕ). range_by (hex_address x) (hex_address y)) front back
    ∙ ap₂ (λ (x y : Option ℕ). range_by x y) (address-word a low) (address-word b high))
  where
    if-dot : List ℕ → Option Command
    if-dot line = if has_letter (sign ".") line then option_map (λ range. examines range) (range_of line) else single_of line
