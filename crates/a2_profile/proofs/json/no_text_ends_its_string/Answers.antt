use Rattle.std.specs.Prelude.{◌<◌}
use Rattle.std.proofs.lemmas.List.Elements.{recursion_from_All}
use Rattle.a2_profile.proofs.StringLaws.{past-escapes}
use Rattle.a2_profile.proofs.json.no_text_ends_its_string.Goals as goal

pub returns : goal.returns
returns c = λ text rest h. past-escapes text rest (recursion_from_All (λ byte. byte < 256) text h)
