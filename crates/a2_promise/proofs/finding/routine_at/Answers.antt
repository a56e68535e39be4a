use Rattle.std.proofs.Common.{ap, refl}
use Rattle.a2_promise.specs.declared.promises.Promise.{Promise}
use Rattle.a2_promise.proofs.Above.{stated_at}
use Rattle.a2_promise.proofs.finding.routine_at.Goals as goal

pub returns : goal.returns
returns c = λ lines names above entry within.
    let same = c.into_parts-promise.ensures in
    stated_at _ above entry within refl refl refl (ap (λ (p : Promise). p.wanted) same) (ap (λ (p : Promise). p.promised) same)
    (ap (λ (p : Promise). p.changes) same) (ap (λ (p : Promise). p.texts) same)
