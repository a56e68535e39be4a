use Rattle.std.proofs.Common.{sym, ap, ◌∙◌}
use Rattle.std.specs.Prelude.{Some}
use Rattle.std.specs.Cmp.Lexicographic.{other_text}
use Rattle.a2_opcode.proofs.Naming.{at-name}
use Rattle.a2_opcode.proofs.names.spelled.Goals as goal

pub returns-then-eq-clause-only : goal.returns-then-eq-clause-only
returns-then-eq-clause-only c m e = rw c.mnemonic_index.ensures.is (ap (λ k. Some k) (at-name c.args.letters m e))

pub returns-else-eq-clause-only : goal.returns-else-eq-clause-only
returns-else-eq-clause-only c m e =
    absurd (other_text _ _ (sym c.if-eq.false ∙ c.eq.ensures)
    (c.as_bytes.ensures.value ∙ c.name.ensures ∙ rw (c.mnemonic_index.ensures.is, at-name c.args.letters m e) e ∙ sym c.as_slice.ensures))
