use Rattle.a2_film.proofs.ReadBack.{rows-back}
use Rattle.a2_film.proofs.rows_read_back.Goals as goal

pub returns : goal.returns
returns c = rows-back
