use Rattle.std.proofs.Common.{sym, ap, ◌∙◌}
use Rattle.a2_hex.specs.Images.{Cells, held}
use Rattle.a2_monitor_listing.proofs.listing.assembles_to.Goals as goal

pub returns : goal.returns
returns g c = λ same. (
  c.in_ok-source.source,
  c.in_ok-program.program,
  c.in_ok-source.ensures.read,
  c.in_ok-program.ensures.made,
  λ a low. ap (λ (cells : Cells). held cells a) (sym c.image.ensures) ∙ c.are_same.ensures.0 same a low,
)
