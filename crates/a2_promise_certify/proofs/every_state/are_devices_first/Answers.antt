use Rattle.std.specs.Prelude.{◌≡◌, length, not}
use Rattle.std.proofs.Common.{ap, sym, ◌∙◌, arith}
use Rattle.std.proofs.lemmas.Bool.{eqb-true}
use Rattle.std.proofs.lemmas.Bool.Decides.{nat_tests}
use Rattle.a2_page.specs.declared.Switches.{Switches}
use Rattle.a2_promise_certify.proofs.But.{first_by, key_read}
use Rattle.a2_promise_certify.proofs.every_state.are_devices_first.Goals as goal

pub returns-then-is_empty-clause-first : goal.returns-then-is_empty-clause-first
returns-then-is_empty-clause-first c = λ is.
    let board = c.args.space.now in
    let zero : c.read.result ≡ 0 = grind (arith, nat_tests, is) in
    let same = sym c.view.ensures.switches in
    first_by board.devices
    (ap (λ (s : Switches). not s.text) same ∙ c.if-not-switches.false) (ap (λ (s : Switches). s.mixed) same ∙ c.if-switches.false)
    (ap (λ (s : Switches). s.page2) same ∙ c.if-switches-2.false) (ap (λ (s : Switches). s.hires) same ∙ c.if-switches-3.false)
    (ap length (sym c.waiting.ensures.keys) ∙ eqb-true (length c.waiting.result.now) 0 (sym c.is_empty.ensures ∙ c.if-is_empty.true))
    (sym (key_read board c.read.ensures.size).1 ∙ sym c.read.ensures.value ∙ zero)

pub returns-then-is_empty-clause-kept : goal.returns-then-is_empty-clause-kept
returns-then-is_empty-clause-kept c = c.read.ensures.left ∙ (key_read c.args.space.now c.read.ensures.size).0
