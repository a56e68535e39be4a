-- Text shown in a listing is read back as what it lists.
use Rattle.std.proofs.Common.{◌≡◌, ℕ, ◌/◌, ◌%◌, ◌<◌, ◌≤◌, true, eqb, ltb, List, [], ◌∷◌, ◌++◌, length, map, take, drop, refl, sym, ap, ◌∙◌, subst, inl, inr, arith, Option, Some, None, codes, slice_index}
use Rattle.std.specs.List.{AllPass, All, list_all}
use Rattle.std.proofs.lemmas.Bool.{agree_below_at, eqb-true, false≢true, cases_lt, cond_both, and_from}
use Rattle.std.proofs.lemmas.Option.{cond_some}
use Rattle.std.proofs.lemmas.List.{get_or_past, length-take}
use Rattle.std.proofs.lemmas.List.Sums.{AllPass-from_list_all}
use Rattle.std.proofs.lemmas.List.Elements.{All-nil, All-cons}
use Rattle.a2_text.specs.Bytes.{is_blank, capital, digit, value_of_digits, is_digit_in}
use Rattle.a2_text.specs.Digits.{hex_digit, hex_pair, hex_word}
use Rattle.std.proofs.lemmas.Bool.Decides.{nat_tests}
use Rattle.a2_opcode.specs.declared.Mnemonic.{Mnemonic}
use Rattle.a2_opcode.specs.declared.Mnemonic.TheVariants.{Adc, Asl, Lsr, Rol, Ror}
use Rattle.a2_opcode.specs.declared.Mode.{Mode}
use Rattle.a2_opcode.specs.declared.Mode.TheVariants.{Implied, Accumulator, Immediate, ZeroPage, ZeroPageX, ZeroPageY, Absolute, AbsoluteX, AbsoluteY, IndexedIndirect, IndirectIndexed, Indirect, Relative}
use Rattle.a2_opcode.specs.declared.Row.{Row}
use Rattle.a2_opcode.specs.declared.Instr as opcode
use Rattle.a2_opcode.specs.Encoding.{value_of, encoded, decoded}
use Rattle.a2_opcode.specs.Table.{row, row_of, table, length_of}
use Rattle.a2_opcode.specs.Names.{name_of}
use Rattle.a2_opcode.specs.Listing.{operand_text, operand_column, columns_before, line_text, listing}
use Rattle.a2_opcode.proofs.Comparing.{lt-from}
use Rattle.a2_opcode.proofs.Lookup.{row-only}
use Rattle.a2_opcode.proofs.RoundTrip.{coded, decoded_by, encodes-back}
use Rattle.a2_syntax.specs.Names.{is_name_byte}
use Rattle.a2_syntax.specs.Numbers.{number}
use Rattle.a2_syntax.specs.Pieces.{is_sign, EndsRun, IsAfterSpaces, is_gap, Spells}
use Rattle.a2_syntax.specs.Grammar.{IsExpr, IsOperand, is_shift, HasOperation, IsLine}
use Rattle.a2_syntax.specs.Bare.{NoAllocator}
use Rattle.a2_syntax.specs.Listed.{one_number, listed_operand, SpellsOperand, ListedOperandsAreSourceText, listed_line, ListingLinesAreSourceText}
use Rattle.a2_syntax.specs.declared.source.Operand.{Operand}
use Rattle.a2_syntax.specs.declared.source.Operand.TheVariants as form
use Rattle.a2_syntax.specs.declared.operation.Operation.TheVariants as operations
use Rattle.a2_syntax.proofs.BodyLaws.{operand_of-to}
use Rattle.a2_syntax.proofs.OperandLaws.{IsOperand-one}

-- Digits after `$`

hex-digit : (n : ℕ) → n < 16 → (is_digit_in 16 (hex_digit n) ≡ true) × (digit (hex_digit n) ≡ n) × (is_name_byte (hex_digit n) ≡ true)
hex-digit n h = (
  agree_below_at (λ n. is_digit_in 16 (hex_digit n)) (λ _. true) 16 n refl h,
  eqb-true (digit (hex_digit n)) n (agree_below_at (λ n. eqb (digit (hex_digit n)) n) (λ _. true) 16 n refl h),
  agree_below_at (λ n. is_name_byte (hex_digit n)) (λ _. true) 16 n refl h,
)

number-digits : (digits : List ℕ) → 0 < length digits → length digits ≤ 4 → list_all (is_digit_in 16) digits ≡ true → value_of_digits 16 digits < 65536
    → number (36 ∷ digits) ≡ Some (value_of_digits 16 digits)
number-digits digits some few all small = grind (arith, nat_tests)

-- digits that spell a number
record Digits (digits : List ℕ) (n : ℕ) : Type 0 where
  some : 0 < length digits
  names : AllPass is_name_byte digits
  is : number (36 ∷ digits) ≡ Some n

pair-digits : (byte : ℕ) → byte < 256 → Digits (hex_pair byte) byte
pair-digits byte h =
    let (d1, v1, n1) = hex-digit (byte / 16) (omega arith) in
    let (d2, v2, n2) = hex-digit (byte % 16) (omega arith) in
    let v : value_of_digits 16 (hex_pair byte) ≡ byte = omega (arith, v1, v2) in
    record {
      some = omega arith;
      names = AllPass-from_list_all is_name_byte (hex_pair byte) (and_from _ _ n1 (and_from _ _ n2 refl));
      is = number-digits (hex_pair byte) (omega arith) (omega arith) (and_from _ _ d1 (and_from _ _ d2 refl)) (omega (arith, h, v)) ∙ ap Some v;
    }

word-digits : (a : ℕ) → a < 65536 → Digits (hex_word a) a
word-digits a h =
    let (d1, v1, n1) = hex-digit (a / 256 / 16) (omega arith) in
    let (d2, v2, n2) = hex-digit (a / 256 % 16) (omega arith) in
    let (d3, v3, n3) = hex-digit (a % 256 / 16) (omega arith) in
    let (d4, v4, n4) = hex-digit (a % 256 % 16) (omega arith) in
    let v : value_of_digits 16 (hex_word a) ≡ a = omega (arith, v1, v2, v3, v4) in
    record {
      some = omega arith;
      names = AllPass-from_list_all is_name_byte (hex_word a) (and_from _ _ n1 (and_from _ _ n2 (and_from _ _ n3 (and_from _ _ n4 refl))));
      is = number-digits (hex_word a) (omega arith) (omega arith) (and_from _ _ d1 (and_from _ _ d2 (and_from _ _ d3 (and_from _ _ d4 refl)))) (omega (arith, h, v)) ∙ ap Some v;
    }

-- Operands

-- the pieces of a text, read from its start
record Reads (text : List ℕ) (pieces : List (List ℕ)) : Type 0 where
  spells : Spells text pieces

no-blanks : AllPass is_blank []
no-blanks = All-nil (λ c. is_blank c ≡ true)

nothing : Reads [] []
nothing = record { spells = ([], ([], no-blanks, refl), refl) }

sign-first : {text : List ℕ} {ps : List (List ℕ)} (c : ℕ) → is_sign c ≡ true → Reads text ps → Reads (c ∷ text) ((c ∷ []) ∷ ps)
sign-first {text} c s h = record { spells = (c ∷ text, text, ([], no-blanks, refl), refl, inl (c, refl, s), h.spells) }

letter-first : {text : List ℕ} {ps : List (List ℕ)} (c : ℕ) → is_name_byte c ≡ true → EndsRun text → Reads text ps → Reads (c ∷ text) ((c ∷ []) ∷ ps)
letter-first {text} c is ends h =
    record { spells = (c ∷ text, text, ([], no-blanks, refl), refl, inr (inr (inr (omega arith, All-cons (λ x. is_name_byte x ≡ true) c [] is (All-nil (λ x. is_name_byte x ≡ true)), ends))), h.spells) }

module _ {digits : List ℕ} {n : ℕ} (d : Digits digits n) where
  number-first : {text : List ℕ} {ps : List (List ℕ)} → EndsRun text → Reads text ps → Reads (36 ∷ digits ++ text) ((36 ∷ digits) ∷ ps)
  number-first {text} ends h = record { spells = (36 ∷ digits ++ text, text, ([], no-blanks, refl), refl, inr (inl (36, digits, refl, refl, (d.some, d.names, ends))), h.spells) }

  expr : IsExpr {A = NoAllocator} ((36 ∷ digits) ∷ []) (one_number n)
  expr = ((36 ∷ digits) ∷ [], refl, (36 ∷ digits, [], refl, refl, d.is, refl))

formed : {text : List ℕ} {pieces : List (List ℕ)} (operand : Operand NoAllocator) → Reads text pieces → IsOperand pieces operand → SpellsOperand text operand
formed {pieces = pieces} operand h is = (pieces, h.spells, is)

module _ {digits : List ℕ} {n : ℕ} (d : Digits digits n) where
  plain : SpellsOperand (36 ∷ digits ++ []) (form.Plain (one_number n))
  plain = formed (form.Plain (one_number n)) (number-first d tt nothing) (expr d)

  with_x : SpellsOperand (36 ∷ digits ++ codes ",X") (form.WithX (one_number n))
  with_x = formed (form.WithX (one_number n)) (number-first d refl (sign-first 44 refl (letter-first 88 refl tt nothing))) (_, (88 ∷ [], refl, refl), expr d)

  with_y : SpellsOperand (36 ∷ digits ++ codes ",Y") (form.WithY (one_number n))
  with_y = formed (form.WithY (one_number n)) (number-first d refl (sign-first 44 refl (letter-first 89 refl tt nothing))) (_, (89 ∷ [], refl, refl), expr d)

byte-digits : (n : ℕ) → ltb n 256 ≡ true → Digits (hex_pair n) n
byte-digits n h = pair-digits n (lt-from n 256 h)

pub listed-operand : ListedOperandsAreSourceText
listed-operand Implied at n h k = ([], nothing.spells, refl)
listed-operand Accumulator at n h k = formed form.Accumulator (letter-first 65 refl tt nothing) (65 ∷ [], refl, refl)
listed-operand Immediate at n h k =
    let d = byte-digits n k in formed (form.Immediate (one_number n)) (sign-first 35 refl (number-first d tt nothing)) (_, refl, expr d)
listed-operand ZeroPage at n h k = plain (byte-digits n k)
listed-operand ZeroPageX at n h k = with_x (byte-digits n k)
listed-operand ZeroPageY at n h k = with_y (byte-digits n k)
listed-operand Absolute at n h k = plain (word-digits n h)
listed-operand AbsoluteX at n h k = with_x (word-digits n h)
listed-operand AbsoluteY at n h k = with_y (word-digits n h)
listed-operand IndexedIndirect at n h k =
    let d = byte-digits n k in
    formed (form.InParenthesesX (one_number n)) (sign-first 40 refl (number-first d refl (sign-first 44 refl (letter-first 88 refl refl (sign-first 41 refl nothing)))))
    ((36 ∷ hex_pair n) ∷ codes "," ∷ codes "X" ∷ [], _, refl, (codes "X", refl, refl), expr d)
listed-operand IndirectIndexed at n h k =
    let d = byte-digits n k in
    formed (form.ParenthesesY (one_number n)) (sign-first 40 refl (number-first d refl (sign-first 41 refl (sign-first 44 refl (letter-first 89 refl tt nothing)))))
    (codes "(" ∷ (36 ∷ hex_pair n) ∷ codes ")" ∷ [], _, (codes "Y", refl, refl), refl, expr d)
listed-operand Indirect at n h k =
    let d = word-digits n h in formed (form.InParentheses (one_number n)) (sign-first 40 refl (number-first d refl (sign-first 41 refl nothing))) (_, refl, expr d)
listed-operand Relative at n h k = plain (word-digits n h)

-- Lines

column-gap : (mode : Mode) (n : ℕ) → is_gap (operand_column mode n) ≡ true
column-gap Implied n = refl
column-gap _ n = refl

-- a space before the pieces
blank-first : (text : List ℕ) (ps : List (List ℕ)) → Spells text ps → Spells (32 ∷ text) ps
blank-first text ps h = go ps h
  where
    more : (rest : List ℕ) → IsAfterSpaces text rest → IsAfterSpaces (32 ∷ text) rest
    more rest (gap, blank, whole) = (32 ∷ gap, All-cons (λ c. is_blank c ≡ true) 32 gap refl blank, ap (λ x. 32 ∷ x) whole)

    go : (ps : List (List ℕ)) → Spells text ps → Spells (32 ∷ text) ps
    go [] (rest, following, over) = (rest, more rest following, over)
    go (p ∷ ps) (rest, after, following, is, piece, spells) = (rest, after, more rest following, is, piece, spells)

column-spells : (mode : Mode) (n : ℕ) (ps : List (List ℕ)) → Spells (operand_text mode n) ps → Spells (operand_column mode n) ps
column-spells Implied n ps h = h
column-spells mode n ps h = blank-first _ ps (blank-first _ ps (blank-first _ ps h))

-- a shift has no row for the implied mode, which is the only mode listed without an operand
shift-row : (m : Mnemonic) (r : Row) → is_shift m ≡ true → row m Implied ≡ Some r → ⊥
unfolding row table
shift-row Asl r s e = cc
shift-row Lsr r s e = cc
shift-row Rol r s e = cc
shift-row Ror r s e = cc
shift-row _ r s e = false≢true s

only-implied : (mode : Mode) (n : ℕ) → listed_operand mode n ≡ form.Nothing → mode ≡ Implied
only-implied Implied n e = refl
only-implied _ n e = cc

name-capitals : (m : Mnemonic) → map capital (name_of m) ≡ name_of m
name-capitals Adc = refl
name-capitals _ = refl

-- an instruction that has bytes, preceded by a space
line-reads : (i : opcode.Instr) (at : ℕ) (bytes : List ℕ) → i.value < 65536 → encoded i at ≡ Some bytes
    → IsLine (32 ∷ (name_of i.mnemonic ++ operand_column i.mode i.value)) (listed_line i)
line-reads i at bytes small e =
    let is = coded i at bytes e in
    let (pieces, spells, operand) = listed-operand i.mode at i.value small is.fits in
    let column = operand_column i.mode i.value in
    let rest = name_of i.mnemonic ++ column in
    let never : is_shift i.mnemonic ≡ true → pieces ≡ [] → ⊥ = λ s none.
    let implied = only-implied i.mode i.value (IsOperand-one pieces _ form.Nothing operand none) in
    shift-row i.mnemonic is.row s (subst (λ k. row i.mnemonic k ≡ Some is.row) implied (row-only i.mnemonic i.mode is.row is.row_is)) in
    let has : HasOperation (32 ∷ rest) (operations.Instr i.mnemonic) pieces = (
      rest,
      name_of i.mnemonic,
      column,
      (32 ∷ [], All-cons (λ c. is_blank c ≡ true) 32 [] refl no-blanks, refl),
      refl,
      name-capitals i.mnemonic,
      column-gap i.mode i.value,
      column-spells i.mode i.value pieces spells,
    ) in
    inr (32 ∷ rest, refl, refl, inr (operations.Instr i.mnemonic, pieces, has, (refl, operand_of-to i.mnemonic pieces never (listed_operand i.mode i.value) operand)), refl)

-- a decoded value has one or two bytes
value-small : (mode : Mode) (at : ℕ) (operand : List ℕ) → slice_index operand 0 < 256 → slice_index operand 1 < 256 → value_of mode at operand < 65536
value-small Relative at operand a b = cond_both (ltb (slice_index operand 0) 128) _ _ (λ v. v < 65536) (λ _. omega arith) (λ _. omega arith)
value-small _ at operand a b = omega (arith, a, b)

value-row : (op : ℕ) (operand : List ℕ) (at : ℕ) (i : opcode.Instr) (found : Option Row) → decoded_by op operand at found ≡ Some i
    → (m : Mode) × (i.value ≡ value_of m at operand)
value-row op operand at i None e = cc
value-row op operand at i (Some r) e = let (_, made) = cond_some _ _ i e in (r.mode, ap (λ (j : opcode.Instr). j.value) (sym made))

decoded-small : (bytes : List ℕ) (at : ℕ) (i : opcode.Instr) → ((k : ℕ) → slice_index bytes k < 256) → decoded bytes at ≡ Some i → i.value < 65536
unfolding decoded
decoded-small [] at i small e = cc
decoded-small (op ∷ operand) at i small e = let (m, v) = value-row op operand at i (row_of op) e in omega (arith, v, value-small m at operand (small 1) (small 2))

-- the columns before the mnemonic have 19 places, and the last one is a space
columns-cut : (at : ℕ) (xs name column : List ℕ) → length xs ≤ 3 → drop 18 (columns_before at xs ++ name ++ column) ≡ 32 ∷ (name ++ column)
columns-cut at [] name column few = refl
columns-cut at (a ∷ []) name column few = refl
columns-cut at (a ∷ b ∷ []) name column few = refl
columns-cut at (a ∷ b ∷ c ∷ []) name column few = refl
columns-cut at (a ∷ b ∷ c ∷ d ∷ xs) name column few = absurd (omega (arith, few))

length-few : (mode : Mode) → length_of mode ≤ 3
length-few Implied = omega arith
length-few _ = omega arith

listing-cut : (bytes : List ℕ) (at : ℕ) (i : opcode.Instr) → decoded bytes at ≡ Some i
    → drop 18 (listing bytes at) ≡ 32 ∷ (name_of i.mnemonic ++ operand_column i.mode i.value)
unfolding listing
listing-cut bytes at i e =
    ap (drop 18) (ap (line_text bytes at) e) ∙ columns-cut at (take (length_of i.mode) bytes) _ _ (omega (arith, length-take (length_of i.mode) bytes, length-few i.mode))

each-small : (bytes : List ℕ) → All (λ byte. byte < 256) bytes → (k : ℕ) → slice_index bytes k < 256
each-small bytes all k = elim (cases_lt k (length bytes)) [
  | inl lt ↦ all k 0 lt
  | inr ge ↦ omega (arith, get_or_past bytes k 0 ge)
]

pub listing-line : ListingLinesAreSourceText
listing-line bytes at i all low e =
    let small = each-small bytes all in
    rw (listing-cut bytes at i e) (line-reads i at (take (length_of i.mode) bytes) (decoded-small bytes at i small e) (encodes-back bytes at i low small e))
