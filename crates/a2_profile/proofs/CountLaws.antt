-- Lists of counts.
use Rattle.std.specs.Prelude.{◌≡◌, ℕ, zero, suc, ◌+◌, ◌<◌, ◌≤◌, ◌^◌, List, length, replicate, refl}
use Rattle.std.proofs.Common.{sym, ◌∙◌, subst, arith, mul-zero}
use Rattle.std.proofs.lemmas.List.{length-replicate}
use Rattle.std.proofs.lemmas.List.Folds.{sum_by-replicate}
use Rattle.std.proofs.lemmas.List.Sums.{get_or-le-sum_by}
use Rattle.a2_profile.specs.declared.profile.Count.{Count}
use Rattle.a2_profile.proofs.Joining.{IsJoining}
use Rattle.a2_profile.specs.Counts.{none, joined, count_at, steps_in, cycles_in, NoneTakenMore, AreSummed}

-- no steps are counted at any of n addresses
count_at-none : (n a : ℕ) → count_at (replicate n none) a ≡ none
count_at-none zero a = refl
count_at-none (suc n) zero = refl
count_at-none (suc n) (suc a) = count_at-none n a

none-summed : (n : ℕ) → n ≡ 65536 → AreSummed (replicate n none) 0 0
none-summed n e = record {
  size = length-replicate n none ∙ e;
  steps_are = sum_by-replicate (λ (count : Count). count.times) n none ∙ mul-zero n;
  cycles_are = sum_by-replicate (λ (count : Count). count.cycles) n none ∙ mul-zero n;
  taken = λ a. subst (λ (count : Count). count.taken ≤ count.times) (sym (count_at-none n a)) (omega arith);
}

pub no_counts-at : (a : ℕ) → count_at (replicate 65536 none) a ≡ none
no_counts-at a = count_at-none 65536 a

pub no_counts-summed : AreSummed (replicate 65536 none) 0 0
no_counts-summed = none-summed 65536 refl

abbrev times_of : Count → ℕ
times_of count = count.times

abbrev cost_of : Count → ℕ
cost_of count = count.cycles

-- the sums of two counts fit
pub record Fits (count other : Count) : Type 0 where
  pub times : count.times + other.times < 2 ^ 64
  pub cycles : count.cycles + other.cycles < 2 ^ 64
  pub taken : count.taken + other.taken < 2 ^ 64

pub joining-fits : (old others counts : List Count) (i : ℕ) → i < length old → i < length others → IsJoining joined none old others i counts
    → steps_in old + steps_in others < 2 ^ 64 → cycles_in old + cycles_in others < 2 ^ 64 → NoneTakenMore old → NoneTakenMore others
    → Fits (count_at counts i) (count_at others i)
joining-fits old others counts i low within h steps cycles taken others_taken =
    subst (λ (count : Count). Fits count (count_at others i)) (sym (h.above i (omega arith))) (record {
      times = omega (arith, times);
      cycles = omega (arith, cycles, get_or-le-sum_by cost_of old i none low, get_or-le-sum_by cost_of others i none within);
      taken = omega (arith, times, taken i, others_taken i);
    })
  where
    times : (count_at old i).times + (count_at others i).times < 2 ^ 64
    times = omega (arith, steps, get_or-le-sum_by times_of old i none low, get_or-le-sum_by times_of others i none within)
