use Rattle.std.proofs.Common.{[], inr, refl, sym}
use Rattle.std.proofs.lemmas.List.{append-nil}
use Rattle.a2_tests.proofs.judge.add_stroke.Goals as goal

pub returns-in-Err : goal.returns-in-Err
returns-in-Err g c = ([], inr (c.in-Err.ensures.refused, refl), sym (append-nil _))
