use Rattle.std.proofs.Common.{sym, ap, ◌∙◌}
use Rattle.a2_syntax.specs.Bare.{bare}
use Rattle.a2_fmt.proofs.Bareness.{same-lines}
use Rattle.a2_fmt.proofs.same.same_source.Goals as goal

pub returns : goal.returns
returns g c = (
  λ is. sym c.lines.ensures.is ∙ ap bare (c.are_same.ensures.0 is) ∙ c.lines-2.ensures.is,
  λ same. c.are_same.ensures.1 (same-lines _ _ (c.lines.ensures.is ∙ same ∙ sym c.lines-2.ensures.is)),
)
