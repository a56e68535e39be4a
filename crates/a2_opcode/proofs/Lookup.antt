-- Looking up rows in the table: what is found, that each row is found, and that the arrays hold the same rows.
use Rattle.std.specs.Prelude.{◌≡◌, ℕ, ◌<◌, List, [], ◌∷◌, Bool, true, ◌&&◌, nat_eq, map, length, find, slice_get, slice_index_or, Contains, Option, Some, None, IfSome, option_map, refl}
use Rattle.std.specs.List.{range_with_len, position_or_len}
use Rattle.std.proofs.Common.{sym, ap, ◌∙◌, arith}
use Rattle.std.proofs.lemmas.Bool.{and_parts}
use Rattle.std.proofs.lemmas.List.{get_or-map}
use Rattle.std.proofs.lemmas.List.Folds.{find_at}
use Rattle.std.proofs.lemmas.List.FromFn.{get_or-map-range_with_len}
use Rattle.std.proofs.lemmas.List.Sums.{passes_at_first}
use Rattle.std.proofs.lemmas.Option.{slice_get_within, get_or_from_slice_get}
use denote.Enum.Bare.{sameb, same_true}
use denote.Enum.Declared.{tag_of}
use Rattle.a2_opcode.specs.contracts.Mnemonic.{the_type as mnemonics}
use Rattle.a2_opcode.specs.contracts.Mode.{the_type as mode_type}
use Rattle.a2_opcode.specs.declared.Mnemonic.{Mnemonic}
use Rattle.a2_opcode.specs.declared.Mnemonic.TheVariants.{Adc}
use Rattle.a2_opcode.specs.declared.Mode.{Mode}
use Rattle.a2_opcode.specs.declared.Mode.TheVariants.{Implied, Accumulator, Immediate, ZeroPage, ZeroPageX, ZeroPageY, Absolute, AbsoluteX, AbsoluteY, IndexedIndirect, IndirectIndexed, Indirect, Relative}
use Rattle.a2_opcode.specs.declared.Row.{Row}
use Rattle.a2_opcode.specs.declared.names.TheConstants.{MNEMONICS}
use Rattle.a2_opcode.specs.declared.table.TheConstants.{ROWS, OPCODES}
use Rattle.a2_opcode.specs.Table.{table, row, row_of, IsRowOf, IsRowFor, DistinctOpcodes, DistinctForms}
use Rattle.a2_opcode.specs.LookupArrays.{opcode_in_table}
use Rattle.a2_opcode.proofs.Comparing.{same-key}

rows_count : length table ≡ 151
unfolding table
rows_count = refl

-- a mnemonic is at the index of its number
pub mnemonic-at : (m : Mnemonic) → slice_index_or MNEMONICS (tag_of mnemonics m) Adc ≡ m
mnemonic-at Adc = refl
mnemonic-at _ = refl

mnemonic_few : (m : Mnemonic) → tag_of mnemonics m < 56
mnemonic_few Adc = omega arith
mnemonic_few _ = omega arith

abbrev modes : List Mode
modes =
    Implied ∷ Accumulator ∷ Immediate ∷ ZeroPage ∷ ZeroPageX ∷ ZeroPageY ∷ Absolute ∷ AbsoluteX ∷ AbsoluteY
    ∷ IndexedIndirect ∷ IndirectIndexed ∷ Indirect ∷ Relative ∷ []

mode-at : (m : Mode) → slice_index_or modes (tag_of mode_type m) Implied ≡ m
mode-at Implied = refl
mode-at _ = refl

mode_few : (m : Mode) → tag_of mode_type m < 13
mode_few Implied = omega arith
mode_few _ = omega arith

-- a row that is found is in the table and passes the test
found-is : (p : Row → Bool) (r : Row) → find p table ≡ Some r → Contains table r × (p r ≡ true)
found-is p r e =
    let k : ℕ = position_or_len p table in
    let at : slice_get table k ≡ Some r = sym (find_at p table) ∙ e in
    let inside = slice_get_within table k r at in
    let same = get_or_from_slice_get table k r r at in
    ((k, inside, same), ap p (sym same) ∙ passes_at_first p table r inside)

pub row-is : (mnemonic : Mnemonic) (mode : Mode) (r : Row) → row mnemonic mode ≡ Some r → IsRowFor mnemonic mode r
unfolding row
row-is mnemonic mode r e =
    let (listed, passes) = found-is (λ s. sameb mnemonics s.mnemonic mnemonic && sameb mode_type s.mode mode) r e in
    let (same_mnemonic, same_mode) = and_parts _ _ passes in
    record { listed = listed; mnemonic_is = same_true mnemonics tt _ _ same_mnemonic; mode_is = same_true mode_type tt _ _ same_mode }

pub row_of-is : (opcode : ℕ) (r : Row) → row_of opcode ≡ Some r → IsRowOf opcode r
unfolding row_of
row_of-is opcode r e =
    let (listed, passes) = found-is (λ s. nat_eq s.opcode opcode) r e in
    record { listed = listed; opcode_is = same-key r.opcode opcode passes }

-- each row is found by its form and by its opcode, as computing all rows shows
own : (look : Row → Option Row) → map look table ≡ map Some table → (r : Row) → Contains table r → look r ≡ Some r
own look same r (k, inside, is) =
    ap look (sym is) ∙ sym (get_or-map look table k r None inside) ∙ ap (λ l. slice_index_or l k None) same ∙ get_or-map Some table k r None inside ∙ ap Some is

all-by-form : map (λ r. row r.mnemonic r.mode) table ≡ map Some table
unfolding row table
all-by-form = refl

all-by-opcode : map (λ r. row_of r.opcode) table ≡ map Some table
unfolding row_of table
all-by-opcode = refl

pub row-own : (r : Row) → Contains table r → row r.mnemonic r.mode ≡ Some r
row-own r at = own (λ r. row r.mnemonic r.mode) all-by-form r at

pub row_of-own : (r : Row) → Contains table r → row_of r.opcode ≡ Some r
row_of-own r at = own (λ r. row_of r.opcode) all-by-opcode r at

-- so no two rows share one, and no other row is found
pub distinct_opcodes : DistinctOpcodes
distinct_opcodes r s at_r at_s same = (let r_own = row_of-own r at_r in let s_own = row_of-own s at_s in cc)

pub distinct_forms : DistinctForms
distinct_forms r s at_r at_s mnemonic mode = (let r_own = row-own r at_r in let s_own = row-own s at_s in cc)

pub row_of-only : (opcode : ℕ) (r : Row) → IsRowOf opcode r → row_of opcode ≡ Some r
row_of-only opcode r is = rw (← is.opcode_is) (row_of-own r is.listed)

pub row-only : (mnemonic : Mnemonic) (mode : Mode) (r : Row) → IsRowFor mnemonic mode r → row mnemonic mode ≡ Some r
row-only mnemonic mode r is = rw (← is.mnemonic_is, ← is.mode_is) (row-own r is.listed)

-- what a result equal to the look-up means
pub row_of-told : (opcode : ℕ) (found : Option Row) → found ≡ row_of opcode → IfSome found (IsRowOf opcode)
row_of-told opcode None e = tt
row_of-told opcode (Some r) e = row_of-is opcode r (sym e)

pub row-told : (mnemonic : Mnemonic) (mode : Mode) (found : Option Row) → found ≡ row mnemonic mode → IfSome found (IsRowFor mnemonic mode)
row-told mnemonic mode None e = tt
row-told mnemonic mode (Some r) e = row-is mnemonic mode r (sym e)

-- The arrays

rows_listed : ROWS ≡ map row_of (range_with_len 0 256)
unfolding row_of table
rows_listed = refl

pub row-at : (opcode : ℕ) → opcode < 256 → slice_index_or ROWS opcode None ≡ row_of opcode
row-at opcode few = ap (λ l. slice_index_or l opcode None) rows_listed ∙ get_or-map-range_with_len row_of 0 256 opcode opcode None few (omega arith)

opcodes_listed : OPCODES ≡ map (λ mnemonic. map (opcode_in_table mnemonic) modes) MNEMONICS
unfolding row table
opcodes_listed = refl

pub opcode-at : (mnemonic : Mnemonic) (mode : Mode) → slice_index_or (slice_index_or OPCODES (tag_of mnemonics mnemonic) []) (tag_of mode_type mode) None ≡ opcode_in_table mnemonic mode
opcode-at mnemonic mode =
    rw (
      opcodes_listed,
      get_or-map (λ m. map (opcode_in_table m) modes) MNEMONICS (tag_of mnemonics mnemonic) Adc [] (mnemonic_few mnemonic),
      mnemonic-at mnemonic,
      get_or-map (opcode_in_table mnemonic) modes (tag_of mode_type mode) Implied None (mode_few mode),
      mode-at mode,
    )

-- the row of a form is the row of its opcode, if it has one
pub row-by-opcode : (mnemonic : Mnemonic) (mode : Mode) (opcode : Option ℕ) → opcode ≡ opcode_in_table mnemonic mode → elim opcode [ None ↦ None | Some opcode ↦ row_of opcode ] ≡ row mnemonic mode
row-by-opcode mnemonic mode opcode e = rw e (by (row mnemonic mode) refl)
  where
    by : (found : Option Row) → row mnemonic mode ≡ found → elim (option_map (λ (r : Row). r.opcode) found) [ None ↦ None | Some opcode ↦ row_of opcode ] ≡ found
    by None is = refl
    by (Some r) is = row_of-own r (row-is mnemonic mode r is).listed
