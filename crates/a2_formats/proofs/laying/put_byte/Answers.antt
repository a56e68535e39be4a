use mathlib.Core.Path.{fun_ext}
use Rattle.a2_formats.proofs.laying.put_byte.Goals as goal

pub returns : goal.returns
returns c = fun_ext c.set.ensures
