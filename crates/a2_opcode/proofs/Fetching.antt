-- An instruction is fetched from a memory that shows its bytes.
use Rattle.std.specs.Prelude.{◌≡◌, ℕ, zero, suc, ◌+◌, ◌-◌, ◌%◌, ◌<◌, ◌≤◌, List, [], ◌∷◌, length, Option, Some, None, IfSome, MatchOption, slice_get, refl}
use Rattle.std.proofs.Common.{ap, ap₂, ◌∙◌, subst, arith}
use Rattle.a2_opcode.specs.declared.Row.{Row}
use Rattle.a2_opcode.specs.declared.Instr.{Instr}
use Rattle.a2_opcode.specs.Table.{row_of, length_of}
use Rattle.arrayvec.specs.ArrayVec.{ArrayVec}
use Rattle.a2_opcode.specs.Encoding.{value_of, operand_bytes, encoded, decoded, Fetched, no_byte, undocumented, instruction, bytes_from, fetched, Shows, IsFetchedFrom}
use Rattle.a2_opcode.proofs.Lookup.{row-only, row_of-own}
use Rattle.a2_opcode.proofs.RoundTrip.{coded, decodes-back, operand-length, value-back}

-- a memory that shows bytes without wrapping
pub shows-below : (peek : ℕ → Option ℕ) (at : ℕ) (bytes : List ℕ) → at + length bytes ≤ 65536
    → ((k : ℕ) → k < length bytes → peek (at + k) ≡ slice_get bytes k) → Shows peek at bytes
shows-below peek at bytes room shown k lt =
    ap peek (omega (arith, room, lt)) ∙ shown k lt

joined : Option ℕ → Option (List ℕ) → Option (List ℕ)
joined first rest = elim first [ None ↦ None | Some byte ↦ elim rest [ None ↦ None | Some bytes ↦ Some (byte ∷ bytes) ] ]

-- the bytes that a memory shows
shown-bytes : (peek : ℕ → Option ℕ) (xs : List ℕ) (from : ℕ)
    → ((k : ℕ) → k < length xs → peek ((from + k) % 65536) ≡ slice_get xs k) → bytes_from peek from (length xs) ≡ Some xs
unfolding joined
shown-bytes peek [] from shown = refl
shown-bytes peek (x ∷ xs) from shown =
    let first : peek (from % 65536) ≡ Some x = ap (λ k. peek (k % 65536)) (omega arith) ∙ shown zero (omega arith) in
    let rest : bytes_from peek (suc from) (length xs) ≡ Some xs =
    shown-bytes peek xs (suc from) (λ k lt. ap (λ j. peek (j % 65536)) (omega arith) ∙ shown (suc k) (omega (arith, lt))) in
    ap₂ joined first rest

abbrev operand_found : Row → ℕ → Option (List ℕ) → Fetched
operand_found r at operand = elim operand [ None ↦ no_byte | Some bytes ↦ instruction r (value_of r.mode at bytes) ]

abbrev row_found : (ℕ → Option ℕ) → ℕ → Option Row → Fetched
row_found peek at found =
    elim found [ None ↦ undocumented | Some r ↦ operand_found r at (bytes_from peek (at + 1) (length_of r.mode - 1)) ]

abbrev opcode_found : (ℕ → Option ℕ) → ℕ → Option ℕ → Fetched
opcode_found peek at found = elim found [ None ↦ no_byte | Some opcode ↦ row_found peek at (row_of opcode) ]

-- an instruction is fetched from the place of its bytes
pub fetched-back : (i : Instr) (at : ℕ) (bytes : List ℕ) → at < 65536 → i.value < 65536 → encoded i at ≡ Some bytes → IsFetchedFrom i at bytes
unfolding fetched
fetched-back i at bytes a v e peek shown =
    let is = coded i at bytes e in
    let operand : List ℕ = operand_bytes i.mode at i.value in
    let shows : Shows peek at (is.row.opcode ∷ operand) = subst (Shows peek at) is.bytes_are shown in
    let first : peek at ≡ Some is.row.opcode = ap peek (omega (arith, a)) ∙ shows zero (omega arith) in
    let rest : bytes_from peek (at + 1) (length operand) ≡ Some operand =
    shown-bytes peek operand (at + 1) (λ k lt. ap (λ j. peek (j % 65536)) (omega arith) ∙ shows (suc k) (omega (arith, lt))) in (
      is.row,
      row-only i.mnemonic i.mode is.row is.row_is,
      ap (opcode_found peek at) first ∙ ap (row_found peek at) (row_of-own is.row is.row_is.listed)
          ∙ rw (is.row_is.mode_is, ← operand-length i.mode at i.value) (ap (operand_found is.row at) rest ∙ rw (is.row_is.mode_is, value-back i.mode at i.value a v is.fits)),
    )

-- what is proved about the bytes of an instruction, if it has any
abbrev pub IsEncoding : Instr → ℕ → Option (ArrayVec ℕ) → Type 0
IsEncoding i at result = MatchOption result (encoded i at ≡ None) (λ b. encoded i at ≡ Some b.items)

module _ (i : Instr) (at : ℕ) (a : at < 65536) (v : i.value < 65536) where
  pub decodes-told : (result : Option (ArrayVec ℕ)) → IsEncoding i at result → IfSome result (λ b. decoded b.items at ≡ Some i)
  decodes-told None h = tt
  decodes-told (Some b) h = decodes-back i at b.items a v h

  pub fetched-told : (result : Option (ArrayVec ℕ)) → IsEncoding i at result → IfSome result (λ b. IsFetchedFrom i at b.items)
  fetched-told None h = tt
  fetched-told (Some b) h = fetched-back i at b.items a v h
