use mathlib.Core.Path.{fun_ext}
use Rattle.a2_formats.proofs.laying.empty_image.Goals as goal

pub returns-in-Ok-clause-empty : goal.returns-in-Ok-clause-empty
returns-in-Ok-clause-empty c = fun_ext c.in-Ok.ensures.empty
