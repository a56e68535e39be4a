use Rattle.a2_syntax.proofs.NameLaws.{name-text}
use Rattle.a2_symbols.proofs.places.value_of.Goals as goal

pub unreachable-requires : goal.unreachable-requires
unreachable-requires g c = c.in-Err.ensures.cases.0 (name-text _ c.requires)
