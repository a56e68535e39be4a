-- Lists of totals.
use Rattle.std.specs.Prelude.{◌≡◌, ℕ, zero, suc, ◌+◌, ◌<◌, ◌≤◌, ◌^◌, List, length, replicate, refl}
use Rattle.std.proofs.Common.{sym, ◌∙◌, subst, arith, mul-zero}
use Rattle.std.proofs.lemmas.List.{length-replicate}
use Rattle.std.proofs.lemmas.List.Folds.{sum_by-replicate}
use Rattle.std.proofs.lemmas.List.Sums.{get_or-le-sum_by}
use Rattle.a2_profile.specs.declared.walk.Totals.{Totals}
use Rattle.a2_profile.proofs.Joining.{IsJoining}
use Rattle.a2_profile.specs.Totals.{nothing, totals_at, own_steps_in, own_cycles_in, AreSummed}
use Rattle.a2_profile.specs.Room.{Fit, joined_totals}

-- no steps are counted in any of n routines
totals_at-none : (n r : ℕ) → totals_at (replicate n nothing) r ≡ nothing
totals_at-none zero r = refl
totals_at-none (suc n) zero = refl
totals_at-none (suc n) (suc r) = totals_at-none n r

none-summed : (n : ℕ) → n ≡ 65537 → AreSummed (replicate n nothing) 0 0
none-summed n e = record {
  size = length-replicate n nothing ∙ e;
  steps_are = sum_by-replicate (λ (t : Totals). t.steps) n nothing ∙ mul-zero n;
  cycles_are = sum_by-replicate (λ (t : Totals). t.cycles) n nothing ∙ mul-zero n;
  within = λ r low. subst (λ (t : Totals). t.all_cycles ≤ 0) (sym (totals_at-none n r)) (omega arith);
}

pub no_totals-at : (r : ℕ) → totals_at (replicate 65537 nothing) r ≡ nothing
no_totals-at r = totals_at-none 65537 r

pub no_totals-summed : AreSummed (replicate 65537 nothing) 0 0
no_totals-summed = none-summed 65537 refl

-- no routine has more cycles than all routines together
abbrev pub AreWithin : List Totals → Type 0
AreWithin totals = (r : ℕ) → r < 65537 → (totals_at totals r).all_cycles ≤ own_cycles_in totals

-- the sums of two totals fit
pub record AllFit (t other : Totals) : Type 0 where
  pub times : t.times + other.times < 2 ^ 64
  pub steps : t.steps + other.steps < 2 ^ 64
  pub cycles : t.cycles + other.cycles < 2 ^ 64
  pub all_steps : t.all_steps + other.all_steps < 2 ^ 64
  pub all_cycles : t.all_cycles + other.all_cycles < 2 ^ 64

pub joining-fits : (old others items : List Totals) (i : ℕ) → length old ≡ 65537 → length others ≡ 65537 → i < 65537
    → IsJoining joined_totals nothing old others i items → ((r : ℕ) → Fit (totals_at old r) (totals_at others r))
    → own_steps_in old + own_steps_in others < 2 ^ 64 → own_cycles_in old + own_cycles_in others < 2 ^ 64 → AreWithin old → AreWithin others
    → AllFit (totals_at items i) (totals_at others i)
joining-fits old others items i size others_size low h fit steps cycles within others_within =
    let here : i < length old = omega (arith, size, low) in
    let there : i < length others = omega (arith, others_size, low) in
    subst (λ (t : Totals). AllFit t (totals_at others i)) (sym (h.above i (omega arith))) (record {
      times = (fit i).0;
      steps = omega (arith, steps, get_or-le-sum_by (λ (t : Totals). t.steps) old i nothing here, get_or-le-sum_by (λ (t : Totals). t.steps) others i nothing there);
      cycles = omega (arith, cycles, get_or-le-sum_by (λ (t : Totals). t.cycles) old i nothing here, get_or-le-sum_by (λ (t : Totals). t.cycles) others i nothing there);
      all_steps = (fit i).1;
      all_cycles = omega (arith, cycles, within i low, others_within i low);
    })

-- joined totals have the sums of both
pub joined-summed : (old others items : List Totals) (s c t d : ℕ) → length items ≡ 65537 → AreSummed old s c → AreSummed others t d
    → ((r : ℕ) → totals_at items r ≡ joined_totals (totals_at old r) (totals_at others r))
    → own_steps_in items ≡ own_steps_in old + own_steps_in others → own_cycles_in items ≡ own_cycles_in old + own_cycles_in others
    → AreSummed items (s + t) (c + d)
joined-summed old others items s c t d size p q joined steps cycles = record {
  size = size;
  steps_are = omega (arith, steps, p.steps_are, q.steps_are);
  cycles_are = omega (arith, cycles, p.cycles_are, q.cycles_are);
  within = λ r low. subst (λ (x : Totals). x.all_cycles ≤ c + d) (sym (joined r)) (omega (arith, p.within r low, q.within r low));
}
