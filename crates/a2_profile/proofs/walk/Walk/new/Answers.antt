use Rattle.std.proofs.Common.{ap, ◌∙◌}
use Rattle.a2_profile.specs.Totals.{itself}
use Rattle.a2_profile.specs.Walks.{Walk, opened}
use Rattle.a2_profile.proofs.WalkLaws.{begun-seen}
use Rattle.a2_profile.proofs.walk.Walk.new.Goals as goal

pub returns-clause-nothing : goal.returns-clause-nothing
returns-clause-nothing g c =
    begun-seen c.open.new.self (c.open.ensures ∙ ap (λ (w : Walk). opened itself 256 w) c.in_ok-walk.ensures)
