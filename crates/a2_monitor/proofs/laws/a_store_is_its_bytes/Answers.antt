use Rattle.a2_monitor.proofs.Copies.{inside, outside}
use Rattle.a2_monitor.proofs.laws.a_store_is_its_bytes.Goals as goal

pub returns : goal.returns
returns c = record { each = inside; others = outside }
