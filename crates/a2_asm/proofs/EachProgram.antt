-- Lines without an error form a program.
use Rattle.std.specs.Prelude.{◌≡◌, ℕ, zero, suc, ◌+◌, ◌≤◌, true, List, [], ◌∷◌, length, Option, Some, None, is_some}
use Rattle.std.proofs.Common.{refl, sym, ap, ◌∙◌, arith}
use Rattle.std.proofs.lemmas.Bool.Decides.{nat_tests}
use Rattle.std.proofs.lemmas.Option.{slice_get_past}
use Rattle.a2_hex.specs.Images.{Cells, held}
use Rattle.a2_syntax.specs.declared.fault.Fault.{Fault}
use Rattle.a2_syntax.specs.declared.source.Line.{Line}
use Rattle.a2_asm.specs.Assembled.{Assembled}
use Rattle.a2_asm.specs.Values.{Names}
use Rattle.a2_asm.specs.Layout.{Row, names}
use Rattle.a2_asm.specs.Bytes.{bytes_of, image, statements_of, first_instruction}
use Rattle.a2_asm.specs.Refusals.{IsLayoutError}
use Rattle.a2_asm.specs.Pass.{source_rows, layout_error}
use Rattle.a2_asm.specs.Programs.{IsProgram}
use Rattle.a2_asm.proofs.MadeLaws.{program-of, refused-of}
use Rattle.a2_asm.proofs.PassedLaws.{accepted-parts}

-- the cells of a map below an end address
abbrev cells_of : (ℕ → Option ℕ) → ℕ → Cells
cells_of map zero = []
cells_of map (suc n) = map 0 ∷ cells_of (λ a. map (a + 1)) n

held-cells : (map : ℕ → Option ℕ) (n : ℕ) → ((a : ℕ) → n ≤ a → map a ≡ None) → (a : ℕ) → held (cells_of map n) a ≡ map a
held-cells map zero none a = sym (none a (omega arith))
held-cells map (suc n) none zero = refl
held-cells map (suc n) none (suc a) =
    held-cells (λ b. map (b + 1)) n (λ b le. none (b + 1) (omega (arith, le))) a ∙ ap map (let e : a + 1 ≡ suc a = omega arith in e)

-- the rows hold nothing from this address on
abbrev end_of_bytes : {A : Type 0} → Names → List (Row A) → ℕ
end_of_bytes all [] = 0
end_of_bytes all (row ∷ more) = row.place.address + length (bytes_of all row.place row.line.body) + end_of_bytes all more

nothing-following : {A : Type 0} (all : Names) (rows : List (Row A)) (a : ℕ) → end_of_bytes all rows ≤ a → image all rows a ≡ None
nothing-following all [] a le = refl
nothing-following all (row ∷ more) a le = grind (arith, nat_tests, slice_get_past, nothing-following all more a)

some-of : (o : Option ℕ) → is_some o ≡ true → (n : ℕ) × (o ≡ Some n)
some-of (Some n) e = (n, refl)
some-of None e = cc

-- lines without an error form a program
pub program-of-source : {A : Type 0} (source : List (Line A)) → layout_error source ≡ None → (p : Assembled) × IsProgram source p
program-of-source source e =
    let all = names (source_rows source) in
    let first = some-of (first_instruction (source_rows source)) (accepted-parts source e).1 in
    let made : Assembled = record {
      image = cells_of (image all (source_rows source)) (end_of_bytes all (source_rows source));
      statements = statements_of all (source_rows source);
      names = all;
      entry = first.0;
    } in (
      made,
      program-of source made (record {
        accepted = e;
        named = refl;
        laid = held-cells (image all (source_rows source)) (end_of_bytes all (source_rows source)) (nothing-following all (source_rows source));
        stated = refl;
        begins = first.1;
      }),
    )

-- lines that have no error form a program
pub refused-or-program : {A : Type 0} (source : List (Line A)) → ((fault : Fault) → IsLayoutError source fault → ⊥) → (p : Assembled) × IsProgram source p
refused-or-program source unrefused = by (layout_error source) refl
  where
    by : (o : Option Fault) → layout_error source ≡ o → (p : Assembled) × IsProgram source p
    by (Some fault) e = absurd (unrefused fault (refused-of source fault e))
    by None e = program-of-source source e
