-- If there is no error, everything in the lines has a value.
use Rattle.std.specs.Prelude.{◌≡◌, false, List, ◌∷◌, ◌++◌, None, IfSome}
use Rattle.std.proofs.Common.{arith, subst}
use Rattle.std.proofs.lemmas.Bool.{not-false}
use Rattle.a2_syntax.specs.Bare.{NoAllocator}
use Rattle.a2_syntax.specs.declared.source.Body.{Body}
use Rattle.a2_syntax.specs.declared.source.Body.TheVariants.{Instr}
use Rattle.a2_syntax.specs.declared.source.Operand.TheVariants.{Nothing}
use Rattle.a2_syntax.specs.declared.source.Operand.{Operand}
use Rattle.a2_syntax.specs.Operands.{expr_of}
use Rattle.a2_opcode.specs.declared.Mnemonic.{Mnemonic}
use Rattle.a2_asm.specs.declared.place.Place.{Place}
use Rattle.a2_asm.specs.Values.{Names}
use Rattle.a2_asm.specs.Modes.{greatest}
use Rattle.a2_asm.specs.Layout.{Row, names, mode_in}
use Rattle.a2_asm.specs.Pass.{source_rows}
use Rattle.a2_asm.specs.Refusals.{lacks_row, refuse_body, refuse_operand, refusal_in}
use Rattle.a2_asm.specs.Valued.{HasValue, HasItsValues, AcceptedHaveTheirValues}
use Rattle.a2_asm.proofs.PassedLaws.{instr-encoded, passed-is}
use Rattle.a2_asm.proofs.RowLaws.{rows-fit, one-layout}

valued-operand : {A : Type 0} (all : Names) (place : Place) (m : Mnemonic) (o : Operand A) → refuse_operand all place (Instr m o) ≡ None
    → IfSome (expr_of o) (HasValue all (greatest place.mode) place.address)
valued-operand all place m Nothing h = tt
valued-operand all place m _ h = grind arith

valued-body : {A : Type 0} (all earlier : Names) (place : Place) (body : Body A) → lacks_row place body ≡ false → place.mode ≡ mode_in earlier place.address body
    → refuse_body all earlier place body ≡ None → refuse_operand all place body ≡ None → HasItsValues all earlier place body
valued-body all earlier place (Instr m o) has form now later =
    (valued-operand all place m o later, _, instr-encoded all earlier place m o (not-false _ has) form later)
valued-body all earlier place _ has form now later = grind arith

pub accepted-valued : AcceptedHaveTheirValues
accepted-valued source layout before after row is accepted split =
    let Valued : List (Row NoAllocator) → Type 0 =
    λ rows. refusal_in source rows ≡ None → rows ≡ before ++ row ∷ after → HasItsValues (names rows) (names before) row.place row.line.body in
    subst Valued (one-layout source (source_rows source) layout (rows-fit source) is)
    (λ accepted split.
    let p = passed-is source before after row accepted split in
    valued-body (names (source_rows source)) (names before) row.place row.line.body p.keeps.has_row p.keeps.placed.mode p.keeps.now p.later) accepted split
