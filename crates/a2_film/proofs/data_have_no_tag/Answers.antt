use Rattle.a2_film.proofs.Tagless.{data-tagless}
use Rattle.a2_film.proofs.data_have_no_tag.Goals as goal

pub returns : goal.returns
returns c = data-tagless
