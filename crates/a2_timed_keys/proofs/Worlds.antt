-- The worlds of a run in which keys are typed.
use Rattle.std.proofs.Common.{◌≡◌, ℕ, zero, suc, ◌+◌, ◌<◌, ◌≤◌, List, [], ◌++◌, length, refl, ap, ◌∙◌, arith, append_assoc, length-append}
use Rattle.std.proofs.lemmas.List.{append-nil}
use Rattle.a2_services.specs.World.{World}
use Rattle.a2_machine.specs.Meaning.{Code, next, world_at}
use Rattle.a2_timed_keys.specs.declared.strokes.Typed.{Typed}
use Rattle.a2_timed_keys.specs.Typed.{typed, keys_at, world_before_keys, world_with_keys}

-- a world with these keys waiting
with_waiting : World → List ℕ → World
with_waiting w keys =
    let m = w.memory in
    let d = m.devices in
    record w { memory = record m { devices = record d { keys = keys } } }

pub typed-nil : (w : World) → typed [] w ≡ w
unfolding typed with_waiting
typed-nil w = ap (λ ks. with_waiting w ks) (append-nil w.memory.devices.keys)

pub typed-typed : (js ks : List ℕ) (w : World) → typed ks (typed js w) ≡ typed (js ++ ks) w
unfolding typed with_waiting
typed-typed js ks w = ap (λ l. with_waiting w l) (append_assoc w.memory.devices.keys js ks)

-- how many keys wait
abbrev pub waiting : World → ℕ
waiting w = length w.memory.devices.keys

pub waiting-typed : (ks : List ℕ) (w : World) → waiting (typed ks w) ≡ waiting w + length ks
unfolding typed
waiting-typed ks w = length-append w.memory.devices.keys ks

module _ (code : Code) (start : World) (log : List Typed) where
  -- at the start
  pub world-start : world_with_keys code start log 0 ≡ typed (keys_at log 0) start
  unfolding world_with_keys world_before_keys
  world-start = refl

  pub world-typed : (n : ℕ) → world_with_keys code start log n ≡ typed (keys_at log n) (world_before_keys code start log n)
  unfolding world_with_keys
  world-typed n = refl

  -- if no key is typed
  pub world-none : (n : ℕ) → keys_at log n ≡ [] → world_with_keys code start log n ≡ world_before_keys code start log n
  world-none n e = world-typed n ∙ ap (λ ks. typed ks (world_before_keys code start log n)) e ∙ typed-nil (world_before_keys code start log n)

  pub world-next : (n : ℕ) → world_before_keys code start log (suc n) ≡ next code (world_with_keys code start log n)
  unfolding world_with_keys world_before_keys
  world-next n = refl

  -- after steps between which no key is typed
  pub before-more : (n j m : ℕ) → m ≡ n + suc j → ((k : ℕ) → n < k → k < m → keys_at log k ≡ [])
      → world_before_keys code start log m ≡ world_at code (world_with_keys code start log n) (suc j)
  unfolding world_at
  before-more n zero m e none =
      let is : m ≡ suc n = omega (arith, e) in
      ap (λ i. world_before_keys code start log i) is ∙ world-next n
  before-more n (suc j) m e none =
      let is : m ≡ suc (n + suc j) = omega (arith, e) in
      ap (λ i. world_before_keys code start log i) is
      ∙ world-next (n + suc j)
      ∙ ap (λ w. next code w)
      (world-none (n + suc j) (none (n + suc j) (omega arith) (omega (arith, e)))
      ∙ before-more n j (n + suc j) refl (λ k l h. none k l (omega (arith, h, e))))

  pub with-more : (n j m : ℕ) → m ≡ n + j → ((k : ℕ) → n < k → k ≤ m → keys_at log k ≡ [])
      → world_with_keys code start log m ≡ world_at code (world_with_keys code start log n) j
  unfolding world_at
  with-more n zero m e none =
      let is : m ≡ n = omega (arith, e) in
      ap (λ i. world_with_keys code start log i) is
  with-more n (suc j) m e none =
      world-none m (none m (omega (arith, e)) (omega arith))
      ∙ before-more n j m e (λ k l h. none k l (omega (arith, h)))
