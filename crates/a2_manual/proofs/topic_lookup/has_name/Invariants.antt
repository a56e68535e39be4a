use Rattle.std.proofs.Common.{◌↔◌, Any, eqb, length}
use Rattle.std.specs.List.{slice_split}
use Rattle.a2_manual.specs.Topics.{Spells}
use Rattle.a2_manual.proofs.topic_lookup.has_name.Given as goal

-- a name is among those left if it is among all
abbrev pub invariant-loop-following : goal.invariant-loop-following
invariant-loop-following l = Any (Spells l.name) (slice_split (λ c. eqb c 0x2C) l.names) ↔ Any (Spells l.name) (slice_split (λ c. eqb c 0x2C) l.left)

abbrev pub decreases-loop-following : goal.decreases-loop-following
decreases-loop-following l = length l.left
