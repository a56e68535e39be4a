use Rattle.std.proofs.Common.{ap, sym}
use Rattle.a2_effect.specs.declared.Regs.{Regs}
use Rattle.a2_film.proofs.Storing.{no_byte-stores, no_row-stores, row-stores}
use Rattle.a2_film.proofs.stores.may_store.Goals as goal

pub returns-in_default : goal.returns-in_default
returns-in_default g c = λ _.
    no_byte-stores c.args.machine.now.state.regs c.args.machine.now.state.bus c.peek.ensures.size c.regs.result.pc
    (ap (λ (r : Regs). r.pc) c.regs.ensures.value) c.in_default.ensures.value

pub returns-in-None : goal.returns-in-None
returns-in-None g c = λ _.
    no_row-stores c.args.machine.now.state.regs c.args.machine.now.state.bus c.peek.ensures.size c.regs.result.pc
    (ap (λ (r : Regs). r.pc) c.regs.ensures.value) c.in-Some.opcode c.in-Some.ensures.value (sym c.in-None.ensures.value)

pub returns-in-Some-row_of : goal.returns-in-Some-row_of
returns-in-Some-row_of g c = λ never.
    row-stores c.args.machine.now.state.regs c.args.machine.now.state.bus c.peek.ensures.size c.regs.result.pc
    (ap (λ (r : Regs). r.pc) c.regs.ensures.value) c.in-Some.opcode c.in-Some-row_of.row c.in-Some.ensures.value
    (sym c.in-Some-row_of.ensures.value) (c.is_storing.ensures never)
