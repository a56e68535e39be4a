use Rattle.std.proofs.Common.{◌≡◌, ◌≤◌, true, arith}
use Rattle.std.proofs.lemmas.Bool.Decides.{nat_tests}
use Rattle.std.proofs.lemmas.List.Elements.{All-weaker}
use Rattle.a2_syntax.specs.Numbers.{is_quotable}
use Rattle.a2_syntax.proofs.body.text.Goals as goal

pub codes-requires-clause-plain : goal.codes-requires-clause-plain
codes-requires-clause-plain g c =
    All-weaker (λ x. is_quotable c.in-Some.quote x ≡ true) (λ x. x ≤ 127) (λ x h. grind (arith, nat_tests, h)) c.in-Some.text.now c.in-Some.ensures.0.1
