use Rattle.std.proofs.Common.{arith, sym}
use Rattle.std.specs.Prelude.{Some}
use Rattle.a2_cpu.specs.Code.{operand_for}
use Rattle.a2_cpu.proofs.Finding.{found-operand}
use Rattle.a2_cpu.proofs.found.find.Goals as goal

pub returns-in_default-locate-clause-found : goal.returns-in_default-locate-clause-found
returns-in_default-locate-clause-found g c =
    found-operand _ _ _ _ (sym c.in-Some.ensures.value) (sym c.in-Some-row_of.ensures.value) c.in_default-locate.ensures

pub returns-clause-found : goal.returns-clause-found
returns-clause-found g c =
    let all = found-operand g.B.Bus.access (g.B.Bus.state c.args.bus.now) _ _ {operand = operand_for (Some c.in-Some-locate.field-0)}
    (sym c.in-Some.ensures.value) (sym c.in-Some-row_of.ensures.value) c.in-Some-locate.ensures in
    grind (arith, all)
