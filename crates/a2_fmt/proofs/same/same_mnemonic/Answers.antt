use Rattle.std.proofs.Common.{sym, ap, ◌∙◌}
use Rattle.std.proofs.lemmas.Slice.Eq.{bytes_eq-Decides}
use Rattle.a2_opcode.specs.Names.{name_of}
use Rattle.a2_opcode.proofs.Naming.{same_name}
use Rattle.a2_fmt.proofs.same.same_mnemonic.Goals as goal

pub returns : goal.returns
returns c = (
  λ is. same_name c.args.m c.args.n (sym c.name.ensures ∙ (bytes_eq-Decides _ _).0 (sym c.eq.ensures ∙ is) ∙ c.name-2.ensures),
  λ same. c.eq.ensures ∙ (bytes_eq-Decides _ _).1 (c.name.ensures ∙ ap name_of same ∙ sym c.name-2.ensures),
)
