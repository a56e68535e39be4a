use Rattle.a2_places.proofs.Places.{places_convert_back}
use Rattle.a2_places.proofs.units.a_place_converts_back.Goals as goal

pub returns : goal.returns
returns c = places_convert_back
