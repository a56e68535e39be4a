use Rattle.std.proofs.Common.{rules, sym, ap, ◌∙◌, subst}
use Rattle.a2_hex.specs.Images.{held}
use Rattle.a2_hex.specs.ObjectLines.{image_of}
use Rattle.a2_monitor_listing.specs.Imported.{AssemblesTo}
use Rattle.a2_monitor_listing.proofs.listing.import_listing.Goals as goal

pub returns-in-Ok-true-clause-same : goal.returns-in-Ok-true-clause-same
returns-in-Ok-true-clause-same g c = (
  held c.in-Ok.image,
  ap image_of (sym (c.as_slice.ensures.value ∙ c.in_ok-object.ensures)) ∙ c.in-Ok.ensures.loaded,
  subst (AssemblesTo (held c.in-Ok.image)) (c.text.ensures ∙ sym c.into_text.ensures) (c.in-Ok-true.ensures (search rules)),
)
