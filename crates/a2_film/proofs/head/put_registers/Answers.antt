use Rattle.std.proofs.Common.{ℕ, List, sym, ap, ◌∙◌, subst}
use Rattle.a2_stream.specs.Stream.{SendsOrBreaks}
use Rattle.a2_text.specs.Digits.{hex_digit, hex_pair, hex_word}
use Rattle.a2_page.specs.declared.Switches.{Switches}
use Rattle.a2_bus.specs.Devices.{Devices}
use Rattle.a2_bus.proofs.Viewing.{devices_seen}
use Rattle.a2_effect.specs.declared.Regs.{Regs}
use Rattle.a2_effect.specs.Registers.{byte_of_flags}
use Rattle.a2_effect.specs.View.{flags_of}
use Rattle.a2_film.specs.Changes.{switch_digit}
use Rattle.a2_film.specs.Rows.{line_of_registers}
use Rattle.a2_film.proofs.head.put_registers.Goals as goal

pub returns : goal.returns
returns g c =
    let regs = c.regs-regs.ensures.value in
    let seen = ap (λ (d : Devices). d.switches) (devices_seen c.args.machine.now.state.bus) in
    let pc = c.hex_word.ensures ∙ ap (λ (r : Regs). hex_word r.pc) regs in
    let a = c.hex_pair.ensures ∙ ap (λ (r : Regs). hex_pair r.a) regs in
    let x = c.hex_pair-2.ensures ∙ ap (λ (r : Regs). hex_pair r.x) regs in
    let y = c.hex_pair-3.ensures ∙ ap (λ (r : Regs). hex_pair r.y) regs in
    let s = c.hex_pair-4.ensures ∙ ap (λ (r : Regs). hex_pair r.s) regs in
    let p = c.hex_pair-p.ensures ∙ ap (λ (n : ℕ). hex_pair n)
    (c.pushed.ensures ∙ ap (λ (r : Regs). byte_of_flags (flags_of r.p)) regs) in
    let digit = c.hex_digit-digit.ensures ∙ ap (λ (n : ℕ). hex_digit n)
    (c.switch_digit.ensures.value ∙ ap (λ (w : Switches). switch_digit w) (c.view.ensures.switches ∙ sym seen)) in
    subst (λ (line : List ℕ). SendsOrBreaks (g.W.Output.taker c.args.writer.now)
    (g.W.Output.taker c.put_register_digits.new.writer) c.put_register_digits.result line)
    (λ i. line_of_registers (pc i) (a i) (x i) (y i) (s i) (p i) (digit i))
    c.put_register_digits.ensures
