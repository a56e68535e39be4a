-- The results of the crate's private functions, used only in their contracts.
use Rattle.std.specs.Prelude.{ℕ, List, [], ◌∷◌}
use Rattle.a2_footprint.specs.declared.bytes.UpToThree.{UpToThree}
use Rattle.a2_footprint.specs.declared.bytes.UpToThree.TheVariants as few

abbrev pub addresses_for : UpToThree → List ℕ
addresses_for few.None = []
addresses_for (few.One at) = at ∷ []
addresses_for (few.Two first second) = first ∷ second ∷ []
addresses_for (few.Three first second third) = first ∷ second ∷ third ∷ []
