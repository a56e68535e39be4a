-- Going back in a play: cycles never decrease, and keys that were typed from a position on do not matter before it.
use Rattle.std.specs.Prelude.{nat_lt, Result, Ok, Err}
use Rattle.std.proofs.Common.{◌≡◌, ◌⊎◌, inl, inr, ℕ, zero, suc, ◌+◌, ◌<◌, ◌≤◌, Bool, true, false, List, [], ◌∷◌, ◌==◌, if◌then◌else◌, refl, sym, ap, ap₂, ◌∙◌, subst, arith, Option, Some, None}
use Rattle.std.proofs.lemmas.Bool.{ne_eqb, cond-false}
use Rattle.std.proofs.lemmas.Bool.Decides.{nat_tests}
use Rattle.std.proofs.lemmas.List.Elements.{All-filter}
use Rattle.a2_asm.specs.Assembled.{Assembled}
use Rattle.a2_bus.specs.Memory.{memory_access}
use Rattle.a2_effect.specs.Instruction.{performed}
use Rattle.a2_services.specs.declared.rows.Service.{Service}
use Rattle.a2_services.specs.World.{World}
use Rattle.a2_services.specs.Services.{service_at, served}
use Rattle.a2_machine.specs.declared.causes.Cause.{Cause}
use Rattle.a2_machine.specs.Meaning.{Code, Decoded, stuck, next, next_at, found_at_pc}
use Rattle.a2_machine.specs.State.{Device}
use Rattle.a2_timed_keys.specs.declared.strokes.Typed.{Typed}
use Rattle.a2_timed_keys.specs.Typed.{typed, keys_at, world_before_keys, world_with_keys as run_with_keys}
use Rattle.a2_timed_keys.proofs.Worlds.{waiting, typed-nil, world-typed as with-typed}
use Rattle.a2_play.specs.Played.{IsPlayed, NoneAbove, Fits, code_of_play, start, world_with_keys}
use Rattle.a2_play.specs.Backs.{typed_before}
use Rattle.a2_play.specs.Agains.{IsReplaying, world_before}
use Rattle.a2_play.proofs.Runs.{two}
use Rattle.a2_play.proofs.Worlds.{before-same}

-- No step lowers the cycle count.
next-later : (code : Code) (w : World) → w.cycles ≤ (next code w).cycles
unfolding next next_at served performed
next-later code w = by_service (service_at w.registers.pc) (found_at_pc code w)
  where
    by_service : (service : Option Service) (found : Result Decoded Cause)
        → w.cycles ≤ (elim service as (λ _. World) [
          | Some service ↦ served service w
          | None ↦ elim found as (λ _. World) [ Err cause ↦ w | Ok decoded ↦ performed memory_access decoded.row decoded.value w ]
        ]).cycles
    by_service (Some service) found = omega arith
    by_service None (Err cause) = omega arith
    by_service None (Ok decoded) = omega arith

module _ (program : Assembled) (log : List Typed) where
  -- Keys take no cycles.
  pub cycles-before : (n : ℕ) → (world_with_keys program log n).cycles ≡ (world_before program log n).cycles
  unfolding typed
  cycles-before n = ap (λ (w : World). w.cycles) (with-typed (code_of_play program) (start program) log n)

  cycles-next : (n : ℕ) → (world_with_keys program log n).cycles ≤ (world_with_keys program log (suc n)).cycles
  unfolding world_before_keys run_with_keys typed
  cycles-next n = next-later (code_of_play program) (world_with_keys program log n)

  pub cycles-later : (n j m : ℕ) → m ≡ n + j → (world_with_keys program log n).cycles ≤ (world_with_keys program log m).cycles
  cycles-later n zero m e =
      subst (λ k. (world_with_keys program log n).cycles ≤ (world_with_keys program log k).cycles) (sym (let is : m ≡ n = omega (arith, e) in is)) (omega arith)
  cycles-later n (suc j) m e =
      subst (λ k. (world_with_keys program log n).cycles ≤ (world_with_keys program log k).cycles) (sym (let is : m ≡ suc (n + j) = omega (arith, e) in is))
      (omega (arith, cycles-later n j (n + j) refl, cycles-next (n + j)))

-- the keys that were typed before a position
keys-before : (log : List Typed) (m k : ℕ) → k < m → keys_at (typed_before m log) k ≡ keys_at log k
keys-before [] m k l = refl
keys-before (t ∷ ts) m k l = go (nat_lt t.steps m) refl (keys-before ts m k l)
  where
    go : (b : Bool) → nat_lt t.steps m ≡ b → keys_at (typed_before m ts) k ≡ keys_at ts k
        → keys_at (if b then t ∷ typed_before m ts else typed_before m ts) k ≡ (if t.steps == k then t.key ∷ keys_at ts k else keys_at ts k)
    go true e rest = ap (λ ks. if t.steps == k then t.key ∷ ks else ks) rest
    go false e rest =
        let following : m ≤ t.steps = grind (arith, nat_tests, e) in
        rest ∙ sym (cond-false _ _ _ (ne_eqb t.steps k (λ h. omega (arith, h, following, l))))

keys-none : (log : List Typed) (m k : ℕ) → m ≤ k → keys_at (typed_before m log) k ≡ []
keys-none [] m k l = refl
keys-none (t ∷ ts) m k l = go (nat_lt t.steps m) refl (keys-none ts m k l)
  where
    go : (b : Bool) → nat_lt t.steps m ≡ b → keys_at (typed_before m ts) k ≡ []
        → keys_at (if b then t ∷ typed_before m ts else typed_before m ts) k ≡ []
    go true e rest =
        let ahead : t.steps < m = grind (arith, nat_tests, e) in
        cond-false _ _ _ (ne_eqb t.steps k (λ h. omega (arith, h, ahead, l))) ∙ rest
    go false e rest = rest

past-before : (log : List Typed) (m : ℕ) → NoneAbove m (typed_before m log)
past-before [] m = tt
past-before (t ∷ ts) m = go (nat_lt t.steps m) refl (past-before ts m)
  where
    go : (b : Bool) → nat_lt t.steps m ≡ b → NoneAbove m (typed_before m ts)
        → NoneAbove m (if b then t ∷ typed_before m ts else typed_before m ts)
    go true e rest = (let ahead : t.steps ≤ m = grind (arith, nat_tests, e) in ahead, rest)
    go false e rest = rest

module _ (program : Assembled) (log : List Typed) (m : ℕ) where
  world-same : (n : ℕ) → n ≤ m → world_before program (typed_before m log) n ≡ world_before program log n
  world-same n l = before-same program (typed_before m log) log n (λ i h. keys-before log m i (omega (arith, h, l)))

  with-same : (n : ℕ) → n < m → world_with_keys program (typed_before m log) n ≡ world_with_keys program log n
  with-same n l =
      with-typed (code_of_play program) (start program) (typed_before m log) n
      ∙ ap₂ (λ ks w. typed ks w) (keys-before log m n l) (world-same n (omega (arith, l)))
      ∙ sym (with-typed (code_of_play program) (start program) log n)

  with-here : world_with_keys program (typed_before m log) m ≡ world_before program log m
  with-here =
      with-typed (code_of_play program) (start program) (typed_before m log) m
      ∙ ap (λ ks. typed ks (world_before program (typed_before m log) m)) (keys-none log m m (omega arith))
      ∙ typed-nil (world_before program (typed_before m log) m)
      ∙ world-same m (omega arith)

-- a play that went back
pub played_back : (program : Assembled) (log : List Typed) (last : ℕ) (machine : Device) → IsReplaying program log last machine.state
    → IsPlayed program (record { machine = machine; log = typed_before machine.state.steps log })
played_back program log last machine again = record {
  holds = again.holds ∙ sym (with-here program log machine.state.steps);
  went = λ k l. ap (λ w. stuck (code_of_play program) w) (with-same program log machine.state.steps k l) ∙ again.went k (omega (arith, l, again.within));
  guarded = again.guarded;
  past = past-before log machine.state.steps;
  few = omega (arith, again.within, again.few);
  codes = All-filter (λ (t : Typed). nat_lt t.steps machine.state.steps) (λ (t : Typed). t.key < 128) log again.codes;
  fits = λ k. fitting k (two k machine.state.steps);
}
  where
    fitting : (k : ℕ) → (k < machine.state.steps) ⊎ (machine.state.steps ≤ k) → Fits program (typed_before machine.state.steps log) k
    fitting k (inl l) = go (again.fits k)
      where
        go : Fits program log k → Fits program (typed_before machine.state.steps log) k
        go (inl e) = inl (keys-before log machine.state.steps k l ∙ e)
        go (inr f) = inr (subst (λ w. waiting w ≤ 4096) (sym (with-same program log machine.state.steps k l)) f)
    fitting k (inr l) = inl (keys-none log machine.state.steps k l)
