-- The bytes of an instruction decode to it, and the instruction decoded from bytes has these bytes.
use Rattle.std.specs.Prelude.{◌≡◌, ℕ, ◌+◌, ◌-◌, ◌%◌, ◌<◌, ◌≤◌, List, [], ◌∷◌, length, take, Bool, true, false, nat_le, if◌then◌else◌, Option, Some, None, slice_index, refl}
use Rattle.std.proofs.Common.{cond, ap, ◌∙◌, inl, inr, arith}
use Rattle.std.proofs.lemmas.Bool.{cases_lt}
use Rattle.std.proofs.lemmas.Bool.Decides.{nat_tests}
use Rattle.a2_opcode.specs.declared.Mode.{Mode}
use Rattle.a2_opcode.specs.declared.Mode.TheVariants.{Implied, Relative}
use Rattle.a2_opcode.specs.declared.Row.{Row}
use Rattle.a2_opcode.specs.declared.Instr.{Instr}
use Rattle.a2_opcode.specs.declared.Mnemonic.{Mnemonic}
use Rattle.a2_opcode.specs.Table.{row, row_of, length_of, IsRowFor}
use Rattle.a2_opcode.specs.Encoding.{branch_target, branch_distance, is_near, is_operand_value, value_of, operand_bytes, encoded, decoded}
use Rattle.a2_opcode.proofs.Lookup.{row-is, row-own, row_of-is, row_of-own}

-- the byte of a branch leads to its target
target-back : (at value : ℕ) → at < 65536 → value < 65536 → is_near (branch_distance at value) ≡ true
    → branch_target at (branch_distance at value % 256) ≡ value
target-back at value a v h = (let few : branch_distance at value < 65536 = omega arith in grind (arith, nat_tests))

-- the bytes of an operand give the value they were made from
pub value-back : (mode : Mode) (at value : ℕ) → at < 65536 → value < 65536 → is_operand_value mode at value ≡ true
    → value_of mode at (operand_bytes mode at value) ≡ value
value-back Relative at value a v h = target-back at value a v h
value-back _ at value a v h = grind (arith, nat_tests)

-- an operand has as many bytes as its mode takes
pub operand-length : (mode : Mode) (at value : ℕ) → length (operand_bytes mode at value) ≡ length_of mode - 1
operand-length Implied at value = refl
operand-length _ at value = refl

long-enough : (mode : Mode) (at value opcode : ℕ) → nat_le (length_of mode) (length (opcode ∷ operand_bytes mode at value)) ≡ true
long-enough Implied at value opcode = refl
long-enough _ at value opcode = refl

-- the two sides of the definitions, with the row that was found
abbrev pub encoded_by : Instr → ℕ → Option Row → Option (List ℕ)
encoded_by i at found =
    elim found [
      | None ↦ None
      | Some r ↦ if is_operand_value i.mode at i.value then Some (r.opcode ∷ operand_bytes i.mode at i.value) else None
    ]

abbrev pub decoded_with : ℕ → List ℕ → ℕ → Mnemonic → Mode → Option Instr
decoded_with opcode operand at mnemonic mode =
    if nat_le (length_of mode) (length (opcode ∷ operand))
    then Some (record { mnemonic = mnemonic; mode = mode; value = value_of mode at operand })
    else None

abbrev pub decoded_by : ℕ → List ℕ → ℕ → Option Row → Option Instr
decoded_by opcode operand at found = elim found [ None ↦ None | Some r ↦ decoded_with opcode operand at r.mnemonic r.mode ]

-- an instruction with bytes, and its row
pub record Coded (i : Instr) (at : ℕ) (bytes : List ℕ) : Type 0 where
  pub row : Row
  pub row_is : IsRowFor i.mnemonic i.mode row
  pub fits : is_operand_value i.mode at i.value ≡ true
  pub bytes_are : bytes ≡ row.opcode ∷ operand_bytes i.mode at i.value

coded-test : (i : Instr) (at : ℕ) (bytes : List ℕ) (r : Row) → IsRowFor i.mnemonic i.mode r → (b : Bool) → is_operand_value i.mode at i.value ≡ b
    → cond b (Some (r.opcode ∷ operand_bytes i.mode at i.value)) None ≡ Some bytes → Coded i at bytes
coded-test i at bytes r is true fits e = record { row = r; row_is = is; fits = fits; bytes_are = cc }
coded-test i at bytes r is false fits e = cc

coded-row : (i : Instr) (at : ℕ) (bytes : List ℕ) (found : Option Row) → row i.mnemonic i.mode ≡ found
    → encoded_by i at found ≡ Some bytes → Coded i at bytes
coded-row i at bytes None is e = cc
coded-row i at bytes (Some r) is e =
    coded-test i at bytes r (row-is i.mnemonic i.mode r is) (is_operand_value i.mode at i.value) refl e

pub coded : (i : Instr) (at : ℕ) (bytes : List ℕ) → encoded i at ≡ Some bytes → Coded i at bytes
unfolding encoded
coded i at bytes e = coded-row i at bytes (row i.mnemonic i.mode) refl e

-- what the bytes of an instruction decode to
pub decodes-back : (i : Instr) (at : ℕ) (bytes : List ℕ) → at < 65536 → i.value < 65536 → encoded i at ≡ Some bytes
    → decoded bytes at ≡ Some i
unfolding decoded
decodes-back i at bytes a v e =
    let is = coded i at bytes e in
    ap (λ (l : List ℕ). decoded l at) is.bytes_are
    ∙ ap (decoded_by is.row.opcode (operand_bytes i.mode at i.value) at) (row_of-own is.row is.row_is.listed)
    ∙ rw (is.row_is.mnemonic_is, is.row_is.mode_is, long-enough i.mode at i.value is.row.opcode, value-back i.mode at i.value a v is.fits)

-- the target of a branch, computed from its byte, is near
branch-near : (at offset : ℕ) → at < 65536 → offset < 256 → is_near (branch_distance at (branch_target at offset)) ≡ true
branch-near at offset a b = grind (arith, nat_tests)

branch-back : (at offset : ℕ) → at < 65536 → offset < 256 → branch_distance at (branch_target at offset) % 256 ≡ offset
branch-back at offset a b = grind (arith, nat_tests)

-- the value that bytes give is one that an operand may have
value-fits : (mode : Mode) (at : ℕ) (operand : List ℕ) → at < 65536 → slice_index operand 0 < 256
    → is_operand_value mode at (value_of mode at operand) ≡ true
value-fits Relative at operand a b = branch-near at (slice_index operand 0) a b
value-fits _ at operand a b = grind (arith, nat_tests)

-- the value that an operand's bytes give has these bytes
operand-back : (mode : Mode) (at : ℕ) (operand : List ℕ) → at < 65536 → slice_index operand 0 < 256 → length_of mode ≤ length operand + 1
    → operand_bytes mode at (value_of mode at operand) ≡ take (length_of mode - 1) operand
operand-back Relative at [] a b h = absurd (omega arith)
operand-back Relative at (x ∷ operand) a b h = ap (λ x. x ∷ []) (branch-back at x a b)
operand-back mode at [] a b h = grind arith
operand-back mode at (x ∷ []) a b h = grind arith
operand-back mode at (x ∷ y ∷ operand) a b h = grind arith

-- the opcode and its operand are the front of the list
front : (mode : Mode) (opcode : ℕ) (operand : List ℕ) → opcode ∷ take (length_of mode - 1) operand ≡ take (length_of mode) (opcode ∷ operand)
front Implied opcode operand = refl
front _ opcode operand = refl

encodes-row : (opcode : ℕ) (operand : List ℕ) (at : ℕ) (i : Instr) → at < 65536 → slice_index operand 0 < 256
    → (found : Option Row) → row_of opcode ≡ found → decoded_by opcode operand at found ≡ Some i
    → encoded i at ≡ Some (take (length_of i.mode) (opcode ∷ operand))
unfolding encoded
encodes-row opcode operand at i a b None is e = cc
encodes-row opcode operand at i a b (Some r) is e = elim (cases_lt (length operand + 1) (length_of r.mode)) [
  | inl short ↦ (let fails : nat_le (length_of r.mode) (length (opcode ∷ operand)) ≡ false = grind (arith, nat_tests) in cc)
  | inr long ↦
      let row_is = row_of-is opcode r is in
      let passes : nat_le (length_of r.mode) (length (opcode ∷ operand)) ≡ true = grind (arith, nat_tests) in
      let made : Instr = record { mnemonic = r.mnemonic; mode = r.mode; value = value_of r.mode at operand } in
      let same : made ≡ i = cc in
      rw (← same) (ap (encoded_by made at) (row-own r row_is.listed)
      ∙ rw (value-fits r.mode at operand a b, row_is.opcode_is, operand-back r.mode at operand a b long, front r.mode opcode operand))
]

-- the bytes of the instruction that was decoded from bytes
pub encodes-back : (bytes : List ℕ) (at : ℕ) (i : Instr) → at < 65536 → ((k : ℕ) → slice_index bytes k < 256)
    → decoded bytes at ≡ Some i → encoded i at ≡ Some (take (length_of i.mode) bytes)
unfolding decoded
encodes-back [] at i a small e = cc
encodes-back (opcode ∷ operand) at i a small e = encodes-row opcode operand at i a (small 1) (row_of opcode) refl e
