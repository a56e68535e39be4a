use Rattle.std.specs.Prelude.{[], ◌∷◌, refl}
use Rattle.a2_machine.proofs.Computing.{computing}
use Rattle.a2_theorems.specs.Routines.{routine, entered}
use Rattle.a2_theorems.specs.Larger.{larger, LargerTakes}
use Rattle.a2_theorems.proofs.Returning.{does, home}
use Rattle.a2_theorems.proofs.Keeping.{kept}
use Rattle.a2_theorems.proofs.Branching.{C, branching, then_is, else_is}

pub larger_takes : LargerTakes
unfolding computing
larger_takes memory stack =
    does 0x300 larger memory _ _ _ (branching (routine 0x300 larger) C (entered 0x300 memory) _ 2 _ _ refl
    (λ set. (
      3,
      then_is _ 5 6 set,
      (
        _,
        refl,
        (
          home memory stack,
          then_is _ 18 20 set,
          record {
            taken = then_is _ _ _ set;
            rest = kept ((0x08, _) ∷ []) memory _ _ refl refl;
          },
        ),
      ),
    ))
    (λ clear. (
      4,
      else_is _ 5 6 clear,
      (
        _,
        refl,
        (
          home memory stack,
          else_is _ 18 20 clear,
          record {
            taken = else_is _ _ _ clear;
            rest = kept ((0x08, _) ∷ []) memory _ _ refl refl;
          },
        ),
      ),
    )))
