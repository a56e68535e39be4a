-- The steps of a run that is profiled, one after another.
use Rattle.std.specs.Prelude.{◌≡◌, ◌≢◌, ◌⊎◌, ℕ, zero, suc, ◌+◌, ◌%◌, ◌^◌, ◌<◌, ◌≤◌, ◌==◌, ◌&&◌, nat_lt, not, Bool, true, false, List, [], length, replicate, slice_set, if◌then◌else◌, refl}
use Rattle.std.proofs.Common.{sym, ap, ◌∙◌, subst, arith, inl, inr, get_or-set_same, get_or-set_other}
use Rattle.std.proofs.lemmas.Bool.{and_parts, ltb-true}
use Rattle.std.proofs.lemmas.Bool.Decides.{nat_tests}
use Rattle.std.proofs.lemmas.List.{length-set}
use Rattle.std.proofs.lemmas.List.Sums.{sum_by-set, get_or-le-sum_by}
use Rattle.a2_burst.specs.declared.observer.StepView.{StepView}
use Rattle.a2_services.specs.World.{World}
use Rattle.a2_machine.specs.Looks.{observer_after}
use Rattle.a2_timed_keys.specs.Finished.{Finished, IsFinished}
use Rattle.a2_timed_keys.specs.Rerun.{worlds_of, end_of, shown_in}
use Rattle.a2_profile.specs.declared.profile.Count.{Count}
use Rattle.a2_profile.specs.Counts.{none, count_at, AreSummed}
use Rattle.a2_profile.specs.Seeing.{is_small, turns, counted, in_words, shown_to}
use Rattle.a2_profile.specs.Run.{is_at, cost, count_of, done_at, cycles_at, taken_at, IsProfile}
use Rattle.a2_profile.proofs.CountLaws.{no_counts-at, no_counts-summed}
use Rattle.a2_profile.proofs.Going.{GoesLater, goes-later, no-cycles}
use Rattle.a2_profile.proofs.WalkLaws.{each-set}

-- One more step

-- what a step adds to the count of an address
abbrev pub with_step : Bool → ℕ → Bool → Count → Count
with_step here cycles is_taken count = if here then counted cycles is_taken count else count

abbrev pub turns_at : (ℕ → World) → ℕ → ℕ → Bool
turns_at worlds n address = not (is_at (worlds (suc n)) ((address + 2) % 65536))

count-next : (worlds : ℕ → World) (n a : ℕ)
    → count_of worlds (suc n) a ≡ with_step (is_at (worlds n) a) (cost worlds n) (turns_at worlds n a) (count_of worlds n a)
unfolding done_at cycles_at taken_at
count-next worlds n a = go (is_at (worlds n) a) (turns_at worlds n a) (cost worlds n) (count_of worlds n a)
  where
    go : (here turned : Bool) (cost : ℕ) (count : Count)
        → (let sum : Count = record {
          times = count.times + (if here then 1 else 0);
          cycles = count.cycles + (if here then cost else 0);
          taken = count.taken + (if here && turned then 1 else 0);
        } in sum ≡ with_step here cost turned count)
    go true turned cost count = refl
    go false turned cost count = same count (omega arith) (omega arith) (omega arith)
      where
        same : (count : Count) → count.times + 0 ≡ count.times → count.cycles + 0 ≡ count.cycles → count.taken + 0 ≡ count.taken
            → (let sum : Count = record { times = count.times + 0; cycles = count.cycles + 0; taken = count.taken + 0 } in sum ≡ count)
        same count e f g = λ i. record { times = e i; cycles = f i; taken = g i }

-- n steps are counted
pub record IsCounted (worlds : ℕ → World) (n : ℕ) (counts : List Count) : Type 0 where
  pub counts_are : (a : ℕ) → a < 65536 → count_at counts a ≡ count_of worlds n a
  pub summed : AreSummed counts n (worlds n).cycles

counted-none : (worlds : ℕ → World) (counts : List Count) → (worlds 0).cycles ≡ 0 → counts ≡ replicate 65536 none → IsCounted worlds 0 counts
unfolding done_at cycles_at taken_at
counted-none worlds counts cycles empty = record {
  counts_are = λ a lt. ap (λ (l : List Count). count_at l a) empty ∙ no_counts-at a;
  summed = subst (λ (c : ℕ). AreSummed counts 0 c) (sym cycles) (subst (λ (l : List Count). AreSummed l 0 0) (sym empty) no_counts-summed);
}

small-pc : (look : StepView) → is_small look ≡ true → look.pc < 65536
small-pc look e = ltb-true look.pc (2 ^ 16) (and_parts (nat_lt look.pc (2 ^ 16))
    (nat_lt look.s (2 ^ 8) && (nat_lt look.next_pc (2 ^ 16) && (nat_lt look.next_s (2 ^ 8) && nat_lt look.cycles (2 ^ 32)))) e).0

in-words-same : (count : Count) → count.times < 2 ^ 64 → count.cycles < 2 ^ 64 → count.taken < 2 ^ 64 → in_words count ≡ count
in-words-same count times cycles taken = same (omega (arith, times)) (omega (arith, cycles)) (omega (arith, taken))
  where
    same : count.times % 2 ^ 64 ≡ count.times → count.cycles % 2 ^ 64 ≡ count.cycles → count.taken % 2 ^ 64 ≡ count.taken → in_words count ≡ count
    same e f g = λ i. record { times = e i; cycles = f i; taken = g i }

module _ (worlds : ℕ → World) (n : ℕ) (counts : List Count) (h : IsCounted worlds n counts) (small : is_small ((shown_in worlds n).look) ≡ true)
    (later : GoesLater worlds) (few : suc n < 2 ^ 64) (cheap : (worlds (suc n)).cycles < 2 ^ 64) where
  abbrev look : StepView
  look = (shown_in worlds n).look

  abbrev pc : ℕ
  pc = look.pc

  low : pc < 65536
  low = small-pc look small

  within : pc < length counts
  within = omega (arith, low, h.summed.size)

  abbrev more : Count
  more = counted look.cycles (turns look) (count_at counts pc)

  one-at-most : (b : Bool) → (if b then 1 else 0) ≤ 1
  one-at-most true = omega arith
  one-at-most false = omega arith

  times-few : (count_at counts pc).times ≤ n
  times-few = omega (arith, h.summed.steps_are, get_or-le-sum_by (λ (c : Count). c.times) counts pc none within)

  cycles-few : (count_at counts pc).cycles ≤ (worlds n).cycles
  cycles-few = omega (arith, h.summed.cycles_are, get_or-le-sum_by (λ (c : Count). c.cycles) counts pc none within)

  more-is : in_words more ≡ more
  more-is =
      in-words-same more (omega (arith, times-few, few)) (omega (arith, cycles-few, cheap, later n))
      (omega (arith, h.summed.taken pc, times-few, few, one-at-most (turns look)))

  abbrev after : List Count
  after = slice_set counts pc more

  same-number : (a b : ℕ) → a ≡ b → (a == b) ≡ true
  same-number a b e = grind (arith, nat_tests, e)

  other-number : (a b : ℕ) → a ≢ b → (a == b) ≡ false
  other-number a b ne = grind (arith, nat_tests, ne)

  at_here : count_at after pc ≡ count_of worlds (suc n) pc
  at_here =
      get_or-set_same counts pc more none within
      ∙ ap (counted look.cycles (turns look)) (h.counts_are pc low)
      ∙ ap (λ (b : Bool). with_step b (cost worlds n) (turns_at worlds n pc) (count_of worlds n pc)) (sym (same-number pc pc refl))
      ∙ sym (count-next worlds n pc)

  at_other : (a : ℕ) → a < 65536 → a ≢ pc → count_at after a ≡ count_of worlds (suc n) a
  at_other a low' ne =
      get_or-set_other counts pc a more none ne
      ∙ h.counts_are a low'
      ∙ ap (λ (b : Bool). with_step b (cost worlds n) (turns_at worlds n a) (count_of worlds n a)) (sym (other-number pc a (λ e. ne (sym e))))
      ∙ sym (count-next worlds n a)

  at_each : (a : ℕ) → a < 65536 → count_at after a ≡ count_of worlds (suc n) a
  at_each a low' = go (split a pc)
    where
      split : (a b : ℕ) → (a ≡ b) ⊎ (a ≢ b)
      split a b = grind arith

      go : (a ≡ pc) ⊎ (a ≢ pc) → count_at after a ≡ count_of worlds (suc n) a
      go (inl e) = ap (count_at after) e ∙ at_here ∙ ap (count_of worlds (suc n)) (sym e)
      go (inr ne) = at_other a low' ne

  counted-more : IsCounted worlds (suc n) after
  counted-more = record {
    counts_are = at_each;
    summed = record {
      size = length-set counts pc more ∙ h.summed.size;
      steps_are = omega (arith, sum_by-set (λ (c : Count). c.times) counts pc more none within, h.summed.steps_are);
      cycles_are = omega (arith, sum_by-set (λ (c : Count). c.cycles) counts pc more none within, h.summed.cycles_are, later n);
      taken = each-set (λ (a : ℕ) (c : Count). c.taken ≤ c.times) counts pc more none within
          (omega (arith, h.summed.taken pc, one-at-most (turns look))) (λ a ne. h.summed.taken a);
    };
  }

  counted-next : IsCounted worlds (suc n) (slice_set counts pc (in_words more))
  counted-next = subst (λ (c : Count). IsCounted worlds (suc n) (slice_set counts pc c)) (sym more-is) counted-more

-- if there are counts at the end, each step was seen
counted-after : (worlds : ℕ → World) (first : List Count) → GoesLater worlds → (worlds 0).cycles ≡ 0 → first ≡ replicate 65536 none → (n : ℕ) → n < 2 ^ 64
    → (worlds n).cycles < 2 ^ 64 → length (observer_after shown_to (shown_in worlds) first n) ≡ 65536
    → IsCounted worlds n (observer_after shown_to (shown_in worlds) first n)
unfolding observer_after
counted-after worlds first later cycles empty zero few cheap size = counted-none worlds first cycles empty
counted-after worlds first later cycles empty (suc n) few cheap size =
    go (is_small ((shown_in worlds n).look)) refl size
    (counted-after worlds first later cycles empty n (omega (arith, few)) (omega (arith, cheap, later n)))
  where
    before : List Count
    before = observer_after shown_to (shown_in worlds) first n

    next_count : Count
    next_count = in_words (counted (shown_in worlds n).look.cycles (turns ((shown_in worlds n).look)) (count_at before (shown_in worlds n).look.pc))

    go : (b : Bool) → is_small ((shown_in worlds n).look) ≡ b → length (if b then slice_set before (shown_in worlds n).look.pc next_count else []) ≡ 65536
        → (length before ≡ 65536 → IsCounted worlds n before)
        → IsCounted worlds (suc n) (if b then slice_set before (shown_in worlds n).look.pc next_count else [])
    go true e size earlier =
        counted-next worlds n before (earlier (sym (length-set before (shown_in worlds n).look.pc next_count) ∙ size)) e later few cheap
    go false e size earlier = absurd (omega (arith, size))

-- The profile of the program's run

-- what an observer counted of a finished run
pub record IsProfiled (f : Finished) (counts : List Count) : Type 0 where
  pub is_profile : IsProfile f.program f.keys f.log f.limit f.free counts f.cause
  pub summed : AreSummed counts f.machine.state.steps f.machine.state.cycles

pub profiled : (f : Finished) (first counts : List Count) → IsFinished f → f.machine.state.steps < 2 ^ 64 → f.machine.state.cycles < 2 ^ 64
    → first ≡ replicate 65536 none → length counts ≡ 65536
    → counts ≡ observer_after shown_to (shown_in (worlds_of f)) first (end_of f).steps → IsProfiled f counts
unfolding worlds_of
profiled f first counts is few cheap empty size seen = record {
  is_profile = record {
    end = is.end;
    is_end = is.is_end;
    cause_is = is.cause_is;
    counts_are = λ a low. done.counts_are a low ∙ ap (λ (n : ℕ). count_of (worlds_of f) n a) is.steps_are;
    steps_are = done.summed.steps_are ∙ is.steps_are;
    cycles_are = done.summed.cycles_are ∙ sym reached ∙ ap (λ (w : World). w.cycles) is.world_is;
  };
  summed = subst (λ (k : ℕ). AreSummed counts f.machine.state.steps k) (sym reached) done.summed;
}
  where
    reached : f.machine.state.cycles ≡ (worlds_of f f.machine.state.steps).cycles
    reached = ap (λ (w : World). w.cycles) (is.world_is ∙ is.is_end.reached ∙ ap (worlds_of f) (sym is.steps_are))

    done : IsCounted (worlds_of f) f.machine.state.steps counts
    done =
        subst (IsCounted (worlds_of f) f.machine.state.steps) (sym seen)
        (counted-after (worlds_of f) first (goes-later f) (no-cycles f) empty f.machine.state.steps few
        (subst (λ (k : ℕ). k < 2 ^ 64) reached cheap) (ap length (sym seen) ∙ size))
