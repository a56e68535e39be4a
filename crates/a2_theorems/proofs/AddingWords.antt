use Rattle.std.specs.Prelude.{[], ◌∷◌, refl}
use Rattle.a2_machine.proofs.Computing.{computing}
use Rattle.a2_theorems.specs.WideSum.{wide_sum, WideSumAdds}
use Rattle.a2_theorems.proofs.Returning.{straight, home}
use Rattle.a2_theorems.proofs.Keeping.{kept}
use Rattle.a2_theorems.proofs.Carrying.{words, word_sum, carry_is}

pub wide_sum_adds : WideSumAdds
unfolding computing
wide_sum_adds memory bytes stack =
    let sum = words _ _ _ _ (bytes 0x06) (bytes 0x07) (bytes 0x08) (bytes 0x09) in
    straight 0x300 wide_sum memory _ _ _ _ refl (home memory stack) refl (record {
      sum = word_sum _ _ _ _ sum;
      carry = carry_is _ _ _ _ _ sum;
      rest = kept ((0x0A, _) ∷ (0x0B, _) ∷ []) memory _ _ refl refl;
    })
