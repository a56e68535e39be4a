-- The steps of a run that is traced, one after another.
use mir.Val.{bool_byte}
use Rattle.std.specs.Prelude.{◌≡◌, ◌⊎◌, ℕ, zero, suc, ◌+◌, ◌-◌, ◌<◌, ◌≤◌, ◌==◌, nat_le, true, false, ◌&&◌, List, [], ◌++◌, Option, None, Bool, refl, if◌then◌else◌}
use Rattle.std.proofs.Common.{sym, ap, ap₂, ◌∙◌, subst, arith, inl, inr, true≢false, append_assoc}
use Rattle.std.proofs.lemmas.Bool.{leb-true, leb-false, lt-leb}
use Rattle.std.proofs.lemmas.List.{append-nil}
use Rattle.std.proofs.Math.Bool.{and-true, and-false}
use Rattle.a2_stream.specs.Stream.{Taker, Breaks}
use Rattle.a2_stream.proofs.Joined.{Breaks-more}
use Rattle.a2_effect.specs.View.{registers_of}
use Rattle.a2_symbols.specs.declared.places.Span.{Span}
use Rattle.a2_services.specs.World.{World}
use Rattle.a2_machine.specs.Output.{register_line}
use Rattle.a2_machine.specs.State.{MachineState, world_of_state}
use Rattle.a2_timed_keys.specs.Finished.{Finished}
use Rattle.a2_timed_keys.specs.Rerun.{Rerunning, worlds_of}
use Rattle.a2_trace.specs.declared.choice.Choice.{Choice}
use Rattle.a2_trace.specs.Choices.{is_in, stores_in, where_asked, is_near, is_chosen, stores_where}
use Rattle.a2_trace.specs.Trace.{at_pc, padded, step_line, count_chosen, shown_line, step_lines}
use Rattle.a2_trace.specs.Traced.{left_after, lines_of}

abbrev pub one_if : Bool → ℕ
one_if chosen = if chosen then 1 else 0

-- a truth value as a byte
pub byte-is : (b : Bool) → bool_byte b ≡ one_if b
byte-is true = refl
byte-is false = refl

pub one-at-most : (b : Bool) → one_if b ≤ 1
one-at-most true = omega arith
one-at-most false = omega arith

module _ (choice : Choice) (worlds : ℕ → World) where
  -- the step after the first n is chosen
  abbrev pub chosen_at : ℕ → Bool
  chosen_at n = is_chosen choice (n + 1) (worlds n) (worlds (suc n))

  pub chosen-is : (n : ℕ) (near chosen : Bool) → near ≡ is_near choice (n + 1) (worlds n)
      → chosen ≡ (near && stores_where choice.stores (worlds n) (worlds (suc n))) → chosen ≡ chosen_at n
  chosen-is n near chosen near_is chosen_is =
      chosen_is ∙ ap (λ (b : Bool). b && stores_where choice.stores (worlds n) (worlds (suc n))) near_is

  -- How many are chosen

  pub count-next : (n : ℕ) (chosen : Bool) → chosen ≡ chosen_at n
      → count_chosen choice worlds n + one_if chosen ≡ count_chosen choice worlds (suc n)
  unfolding count_chosen
  count-next n chosen is = ap (λ (b : Bool). count_chosen choice worlds n + one_if b) is

  pub count-most : (n : ℕ) → count_chosen choice worlds n ≤ n
  unfolding count_chosen
  count-most zero = omega arith
  count-most (suc n) = omega (arith, count-most n, one-at-most (chosen_at n))

  -- none before the first one that may be chosen
  too-early : (n : ℕ) → n < choice.from - 1 → chosen_at n ≡ false
  too-early n early =
      ap (λ (b : Bool). (b && where_asked (λ span. is_in span (worlds n).registers.pc) choice.only)
      && stores_where choice.stores (worlds n) (worlds (suc n))) (lt-leb choice.from (n + 1) (omega (arith, early)))

  pub count-before : (n : ℕ) → n ≤ choice.from - 1 → count_chosen choice worlds n ≡ 0
  unfolding count_chosen
  count-before zero le = refl
  count-before (suc n) le =
      ap₂ (λ (m : ℕ) (b : Bool). m + one_if b) (count-before n (omega (arith, le))) (too-early n (omega (arith, le)))

  -- if they are chosen by their numbers alone, each from the first one on
  module _ (only : choice.only ≡ None) (stores : choice.stores ≡ None) where
    by-number : (n : ℕ) → chosen_at n ≡ nat_le choice.from (n + 1)
    by-number n =
        ap₂ (λ (p q : Option Span). (nat_le choice.from (n + 1) && where_asked (λ span. is_in span (worlds n).registers.pc) p)
        && where_asked (λ span. stores_in span (worlds n) (worlds (suc n))) q) only stores
        ∙ and-true (nat_le choice.from (n + 1) && true) ∙ and-true (nat_le choice.from (n + 1))

    pub count-all : (n : ℕ) → count_chosen choice worlds n ≡ n - (choice.from - 1)
    unfolding count_chosen
    count-all zero = omega arith
    count-all (suc n) =
        ap₂ (λ (m : ℕ) (b : Bool). m + one_if b) (count-all n) (by-number n) ∙ go (nat_le choice.from (n + 1)) refl
      where
        go : (b : Bool) → nat_le choice.from (n + 1) ≡ b → n - (choice.from - 1) + one_if b ≡ suc n - (choice.from - 1)
        go true e = omega (arith, leb-true choice.from (n + 1) e)
        go false e = omega (arith, leb-false choice.from (n + 1) e)

  -- The lines

  -- the line of a step, if it is shown
  pub line-next : (skip n left : ℕ) (near chosen : Bool) (front line : List ℕ) → left ≡ skip - count_chosen choice worlds n
      → near ≡ is_near choice (n + 1) (worlds n) → chosen ≡ (near && stores_where choice.stores (worlds n) (worlds (suc n)))
      → (near ≡ true → (left == 0) ≡ true → front ≡ padded (at_pc (worlds n)))
      → line ≡ register_line (worlds (suc n)).registers (suc n) (worlds (suc n)).cycles
      → step_lines choice skip worlds n ++ (if chosen && (left == 0) then front ++ line else []) ≡ step_lines choice skip worlds (suc n)
  line-next skip n left near chosen front line left_is near_is chosen_is front_is line_is =
      ap (λ (l : List ℕ). step_lines choice skip worlds n ++ l)
      (same chosen (left == 0) near (stores_where choice.stores (worlds n) (worlds (suc n))) chosen_is front_is
      ∙ ap (λ (l : List ℕ). if chosen && (left == 0) then padded (at_pc (worlds n)) ++ l else []) line_is
      ∙ ap₂ (λ (b late : Bool). if b && late then step_line (worlds n) (worlds (suc n)) (suc n) else [])
      (chosen-is n near chosen near_is chosen_is) (ap (λ (k : ℕ). k == 0) left_is ∙ late skip (count_chosen choice worlds n)))
    where
      same : (chosen late near stores : Bool) → chosen ≡ (near && stores) → (near ≡ true → late ≡ true → front ≡ padded (at_pc (worlds n)))
          → (if chosen && late then front ++ line else []) ≡ (if chosen && late then padded (at_pc (worlds n)) ++ line else [])
      same true true true stores e f = ap (λ (l : List ℕ). l ++ line) (f refl refl)
      same true true false stores e f = absurd (true≢false e)
      same true false near stores e f = refl
      same false late near stores e f = refl

      late : (skip count : ℕ) → (skip - count == 0) ≡ nat_le skip count
      late skip count = grind arith

  -- no line of the first steps, if none of them is chosen late enough
  lines-none : (skip n : ℕ) → ((k : ℕ) → k < n → (chosen_at k && nat_le skip (count_chosen choice worlds k)) ≡ false)
      → step_lines choice skip worlds n ≡ []
  lines-none skip zero none = refl
  lines-none skip (suc n) none =
      ap₂ (λ (l : List ℕ) (b : Bool). l ++ (if b then step_line (worlds n) (worlds (suc n)) (suc n) else []))
      (lines-none skip n (λ k lt. none k (omega (arith, lt)))) (none n (omega arith))

  pub lines-before : (skip n : ℕ) → n ≤ choice.from - 1 → step_lines choice skip worlds n ≡ []
  lines-before skip n le =
      lines-none skip n (λ k lt. ap (λ (b : Bool). b && nat_le skip (count_chosen choice worlds k)) (too-early k (omega (arith, lt, le))))

  pub lines-skipped : choice.only ≡ None → choice.stores ≡ None → (skip n : ℕ) → n ≤ choice.from - 1 + skip → step_lines choice skip worlds n ≡ []
  lines-skipped only stores skip n le = lines-none skip n (λ k lt. go k lt (split k))
    where
      split : (k : ℕ) → (k < choice.from - 1) ⊎ (choice.from - 1 ≤ k)
      split k = grind arith

      go : (k : ℕ) → k < n → (k < choice.from - 1) ⊎ (choice.from - 1 ≤ k) → (chosen_at k && nat_le skip (count_chosen choice worlds k)) ≡ false
      go k lt (inl early) = ap (λ (b : Bool). b && nat_le skip (count_chosen choice worlds k)) (too-early k early)
      go k lt (inr late) =
          ap (λ (b : Bool). chosen_at k && b) (lt-leb skip (count_chosen choice worlds k) (omega (arith, count-all only stores k, lt, late, le)))
          ∙ and-false (chosen_at k)

  -- the lines of more steps begin with those of fewer
  lines-more : (skip n more : ℕ) → (rest : List ℕ) × (step_lines choice skip worlds (n + more) ≡ step_lines choice skip worlds n ++ rest)
  lines-more skip n zero =
      let e : n + zero ≡ n = omega arith in
      ([], ap (step_lines choice skip worlds) e ∙ sym (append-nil (step_lines choice skip worlds n)))
  lines-more skip n (suc more) =
      let e : n + suc more ≡ suc (n + more) = omega arith in
      let (rest, is) = lines-more skip n more in
      let line = shown_line choice skip worlds (n + more) in
      (rest ++ line, ap (step_lines choice skip worlds) e ∙ ap (λ (l : List ℕ). l ++ line) is ∙ append_assoc (step_lines choice skip worlds n) rest line)

  pub lines-broken : (skip n end : ℕ) (a c : Taker) → n ≤ end → Breaks a c (step_lines choice skip worlds n) → Breaks a c (step_lines choice skip worlds end)
  lines-broken skip n end a c le broke =
      let (rest, same) = lines-more skip n (end - n) in
      let all : n + (end - n) ≡ end = omega (arith, le) in
      subst (Breaks a c) (sym same ∙ ap (step_lines choice skip worlds) all) (Breaks-more a c (step_lines choice skip worlds n) rest broke)

-- One more step of a finished run

module _ (choice : Choice) (f : Finished) (old new : Rerunning) (run : old.run ≡ f) (next : new ≡ record old { steps = suc old.steps }) where
  pub run-next : new.run ≡ f
  run-next = ap (λ (r : Rerunning). r.run) next ∙ run

  pub steps-next : new.steps ≡ suc old.steps
  steps-next = ap (λ (r : Rerunning). r.steps) next

  module _ (here : MachineState) (steps : here.steps ≡ old.steps) (world : world_of_state here ≡ worlds_of old.run old.steps) (near chosen : Bool)
      (near_is : near ≡ is_near choice (here.steps + 1) (world_of_state here))
      (chosen_is : chosen ≡ (near && stores_where choice.stores (worlds_of old.run old.steps) (worlds_of old.run (suc old.steps)))) where
    world-here : world_of_state here ≡ worlds_of f old.steps
    world-here = world ∙ ap (λ (r : Finished). worlds_of r old.steps) run

    near-here : near ≡ is_near choice (old.steps + 1) (worlds_of f old.steps)
    near-here = near_is ∙ ap₂ (λ (k : ℕ) (w : World). is_near choice (k + 1) w) steps world-here

    chosen-here : chosen ≡ (near && stores_where choice.stores (worlds_of f old.steps) (worlds_of f (suc old.steps)))
    chosen-here = chosen_is ∙ ap (λ (r : Finished). near && stores_where choice.stores (worlds_of r old.steps) (worlds_of r (suc old.steps))) run

    pub counted-here : count_chosen choice (worlds_of f) old.steps + one_if chosen ≡ count_chosen choice (worlds_of f) (suc old.steps)
    counted-here =
        count-next choice (worlds_of f) old.steps chosen (chosen-is choice (worlds_of f) old.steps near chosen near-here chosen-here)

    -- the line of the step, if it is shown
    pub line-here : (there : MachineState) → there.steps ≡ new.steps → world_of_state there ≡ worlds_of new.run new.steps → (left : ℕ) (front : List ℕ)
        → left ≡ left_after choice f old.steps → (near ≡ true → (left == 0) ≡ true → front ≡ padded (at_pc (world_of_state here)))
        → lines_of choice f old.steps
        ++ (if chosen && (left == 0) then front ++ register_line (registers_of there.regs) there.steps there.cycles else [])
        ≡ lines_of choice f (suc old.steps)
    line-here there made reached left front left_is front_is =
        line-next choice (worlds_of f) _ old.steps left near chosen front _ left_is near-here chosen-here
        (λ e late. front_is e late ∙ ap (λ (w : World). padded (at_pc w)) world-here)
        (ap₂ (λ (w : World) (k : ℕ). register_line w.registers k w.cycles)
        (reached ∙ ap (λ (r : Rerunning). worlds_of r.run r.steps) next ∙ ap (λ (r : Finished). worlds_of r (suc old.steps)) run) (made ∙ steps-next))
