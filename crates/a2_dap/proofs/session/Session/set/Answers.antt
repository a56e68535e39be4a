use Rattle.a2_dap.proofs.Travelling.{joined, same}
use Rattle.a2_dap.proofs.session.Session.set.Goals as goal

pub returns : goal.returns
returns c = joined _ _ _ (same _ _ c.note_stops-answer.ensures) c.apply_stops.ensures
