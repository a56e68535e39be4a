-- The program from the places that the first pass finds equals the program from any layout: there is only one.
use Rattle.std.specs.Prelude.{◌≡◌, ℕ, List, [], Some, None}
use Rattle.std.proofs.Common.{arith, sym, ap, ◌∙◌}
use Rattle.a2_hex.specs.Images.{held}
use Rattle.a2_syntax.specs.declared.fault.Fault.{Fault}
use Rattle.a2_syntax.specs.declared.source.Line.{Line}
use Rattle.a2_asm.specs.Assembled.{Assembled}
use Rattle.a2_asm.specs.Layout.{names}
use Rattle.a2_asm.specs.Bytes.{image, statements_of, first_instruction}
use Rattle.a2_asm.specs.Refusals.{first_error_in_order, refuse_names, refuse_place, refuse_bytes, refusal_in, IsLayoutError}
use Rattle.a2_asm.specs.Pass.{source_rows, layout_error}
use Rattle.a2_asm.specs.Programs.{IsProgram, AreAlike}
use Rattle.a2_asm.proofs.RowLaws.{rows-fit, one-layout}

-- the program made with the places of the first pass
pub record IsMade {A : Type 0} (source : List (Line A)) (p : Assembled) : Type 0 where
  pub accepted : layout_error source ≡ None
  pub named : p.names ≡ names (source_rows source)
  pub laid : (a : ℕ) → held p.image a ≡ image (names (source_rows source)) (source_rows source) a
  pub stated : p.statements ≡ statements_of (names (source_rows source)) (source_rows source)
  pub begins : first_instruction (source_rows source) ≡ Some p.entry

-- the results of both passes form a program
pub made-by : {A : Type 0} (source : List (Line A)) (p : Assembled)
    → first_error_in_order refuse_names [] source ≡ None → first_error_in_order (refuse_place (names (source_rows source))) [] (source_rows source) ≡ None
    → first_error_in_order (refuse_bytes p.names) [] (source_rows source) ≡ None → p.names ≡ names (source_rows source) → ((a : ℕ) → held p.image a ≡ image p.names (source_rows source) a)
    → p.statements ≡ statements_of p.names (source_rows source) → first_instruction (source_rows source) ≡ Some p.entry → IsMade source p
made-by source p few placed laid named bytes stated begins = record {
  accepted = grind arith;
  named = named;
  laid = λ a. rw named at (bytes a);
  stated = rw named at stated;
  begins = begins;
}

pub made-of : {A : Type 0} (source : List (Line A)) (p : Assembled) → IsProgram source p → IsMade source p
made-of {A} source p is =
    let e : is.layout ≡ source_rows source = one-layout source is.layout (source_rows source) is.is_layout (rows-fit source) in
    record {
      accepted = sym (ap (refusal_in source) e) ∙ is.accepted;
      named = is.named ∙ ap names e;
      laid = λ a. is.laid a ∙ ap (λ r. image (names r) r a) e;
      stated = is.stated ∙ ap (λ r. statements_of (names r) r) e;
      begins = sym (ap first_instruction e) ∙ is.begins;
    }

pub program-of : {A : Type 0} (source : List (Line A)) (p : Assembled) → IsMade source p → IsProgram source p
program-of source p is = record {
  layout = source_rows source;
  is_layout = rows-fit source;
  accepted = is.accepted;
  named = is.named;
  laid = is.laid;
  stated = is.stated;
  begins = is.begins;
}

pub refusal-of : {A : Type 0} (source : List (Line A)) (fault : Fault) → IsLayoutError source fault → layout_error source ≡ Some fault
refusal-of source fault (layout, is, e) =
    sym (ap (refusal_in source) (one-layout source layout (source_rows source) is (rows-fit source))) ∙ e

pub refused-of : {A : Type 0} (source : List (Line A)) (fault : Fault) → layout_error source ≡ Some fault → IsLayoutError source fault
refused-of source fault e = (source_rows source, rows-fit source, e)

-- lines have at most one first error
pub one-layout_error : {A : Type 0} (source : List (Line A)) (fault other : Fault) → IsLayoutError source fault → IsLayoutError source other → fault ≡ other
one-layout_error source fault other a b = cc (refusal-of source fault a, refusal-of source other b)

-- lines that have an error have no program
pub refused-no-program : {A : Type 0} (source : List (Line A)) (fault : Fault) (p : Assembled) → IsLayoutError source fault → IsProgram source p → ⊥
refused-no-program source fault p a b = cc (refusal-of source fault a, (made-of source p b).accepted)

-- lines have at most one program, except for how its image is kept
pub programs-alike : {A : Type 0} (source : List (Line A)) (p q : Assembled) → IsProgram source p → IsProgram source q → AreAlike p q
programs-alike source p q a b =
    let x = made-of source p a in
    let y = made-of source q b in
    record {
      names_are = x.named ∙ sym y.named;
      statements_are = x.stated ∙ sym y.stated;
      entry_is = cc (x.begins, y.begins);
      held_is = λ at. x.laid at ∙ sym (y.laid at);
    }
