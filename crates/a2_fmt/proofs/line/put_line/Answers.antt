use Rattle.a2_fmt.proofs.Rows.{joined}
use Rattle.a2_fmt.proofs.line.put_line.Goals as goal

pub returns : goal.returns
returns g c = joined c.args.text.now.items _ _ _ _ c.in_ok-put_fitting.ensures c.in_ok-extend_from_slice.ensures.items
