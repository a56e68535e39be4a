use Rattle.std.specs.Prelude.{[], ◌∷◌, refl}
use Rattle.a2_machine.proofs.Computing.{computing}
use Rattle.a2_theorems.specs.Swap.{swap, SwapSwaps}
use Rattle.a2_theorems.proofs.Returning.{straight, home}
use Rattle.a2_theorems.proofs.Keeping.{kept}

pub swap_swaps : SwapSwaps
unfolding computing
swap_swaps memory stack = straight 0x300 swap memory _ _ _ _ refl (home memory stack) refl (record {
  first = refl;
  second = refl;
  rest = kept ((0x06, _) ∷ (0x07, _) ∷ []) memory _ _ refl refl;
})
