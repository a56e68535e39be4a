use Rattle.a2_page.proofs.Notifying.{notified_pictures_fit}
use Rattle.a2_page.proofs.kept.notified_pictures_fit.Goals as goal

pub returns : goal.returns
returns c = notified_pictures_fit
