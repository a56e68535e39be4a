-- The worlds of a program and a log of typed keys.
use Rattle.std.proofs.Common.{◌≡◌, ◌≢◌, ℕ, zero, suc, ◌+◌, ◌<◌, ◌≤◌, List, [], ◌∷◌, ◌++◌, length, refl, sym, ap, ap₂, ◌∙◌, arith, append_assoc, length-append, nat_lt, add-one}
use Rattle.std.specs.Prelude.{All}
use Rattle.std.specs.List.{filter}
use Rattle.std.proofs.lemmas.List.{append-nil}
use Rattle.std.proofs.lemmas.List.Sums.{count_by-le-length, length-filter}
use Rattle.a2_asm.specs.Assembled.{Assembled}
use Rattle.a2_bus.specs.PowerOn.{start_memory}
use Rattle.a2_services.specs.World.{World}
use Rattle.a2_machine.specs.Meaning.{next}
use Rattle.a2_debug_script.specs.declared.Typed.{Typed}
use Rattle.a2_debug_script.specs.Worlds.{guarded_code, start, typed}
use Rattle.a2_debug_script.specs.Stored.{keys_at, world_before_keys, world_with_keys, worlds_below, typed_at, NoneAbove}
use Rattle.a2_debug_script.proofs.Fewer.{waiting, next_fewer}
use Rattle.a2_debug_script.proofs.Keys.{keys_at-append, keys_at-none, keys_at-typed_at, keys_at-not_yet, early-more}

-- a world with these keys waiting
with_waiting : World → List ℕ → World
with_waiting w keys = let m = w.memory in let d = m.devices in record w { memory = record m { devices = record d { keys = keys } } }

pub typed-nil : (w : World) → typed [] w ≡ w
unfolding typed with_waiting
typed-nil w = ap (with_waiting w) (append-nil w.memory.devices.keys)

pub typed-typed : (js ks : List ℕ) (w : World) → typed ks (typed js w) ≡ typed (js ++ ks) w
unfolding typed with_waiting
typed-typed js ks w = ap (with_waiting w) (append_assoc w.memory.devices.keys js ks)

-- logs with the same keys
module _ (program : Assembled) (xs ys : List Typed) where
  pub before-same : (n : ℕ) → ((i : ℕ) → i < n → keys_at xs i ≡ keys_at ys i) → world_before_keys program xs n ≡ world_before_keys program ys n
  unfolding world_before_keys
  before-same zero h = refl
  before-same (suc n) h =
      ap₂ (λ ks w. next (guarded_code program) (typed ks w)) (h n (omega arith)) (before-same n (λ i l. h i (omega (arith, l))))

  pub world_at-same : (n : ℕ) → ((i : ℕ) → i ≤ n → keys_at xs i ≡ keys_at ys i) → world_with_keys program xs n ≡ world_with_keys program ys n
  unfolding world_with_keys
  world_at-same n h = ap₂ typed (h n (omega arith)) (before-same n (λ i l. h i (omega (arith, l))))

  pub worlds_below-same : (n : ℕ) → ((i : ℕ) → i < n → keys_at xs i ≡ keys_at ys i) → worlds_below program xs n ≡ worlds_below program ys n
  unfolding worlds_below
  worlds_below-same zero h = refl
  worlds_below-same (suc n) h =
      ap₂ ◌∷◌ (world_at-same n (λ i l. h i (omega (arith, l)))) (worlds_below-same n (λ i l. h i (omega (arith, l))))

pub length-worlds_below : (program : Assembled) (log : List Typed) (n : ℕ) → length (worlds_below program log n) ≡ n
unfolding worlds_below
length-worlds_below program log zero = refl
length-worlds_below program log (suc n) = ap suc (length-worlds_below program log n)

module _ (program : Assembled) (log : List Typed) (n : ℕ) where
  -- if no key was typed at the count
  pub fresh_before : All (λ t. t.count ≢ n) log → world_with_keys program log n ≡ world_before_keys program log n
  unfolding world_with_keys
  fresh_before none = ap (λ ks. typed ks (world_before_keys program log n)) (keys_at-none log n none) ∙ typed-nil _

  -- keys typed at the count
  module _ (keys : List ℕ) where
    pub worlds_below-typed : worlds_below program (log ++ typed_at n keys) n ≡ worlds_below program log n
    worlds_below-typed = worlds_below-same program _ log n (keys_at-not_yet log n keys)

    pub world_at-typed : world_with_keys program (log ++ typed_at n keys) n ≡ typed keys (world_with_keys program log n)
    unfolding world_with_keys
    world_at-typed =
        ap₂ typed (keys_at-append log (typed_at n keys) n ∙ ap (λ ks. keys_at log n ++ ks) (keys_at-typed_at n keys))
        (before-same program _ log n (keys_at-not_yet log n keys))
        ∙ sym (typed-typed (keys_at log n) keys (world_before_keys program log n))

pub world_at-more : (program : Assembled) (log : List Typed) (n : ℕ) → NoneAbove n log
    → world_with_keys program log (n + 1) ≡ next (guarded_code program) (world_with_keys program log n)
unfolding world_with_keys world_before_keys
world_at-more program log n past = rw add-one (fresh_before program log (suc n) (omega (arith, past)))

-- no more keys are waiting than were typed
module _ (program : Assembled) (log : List Typed) where
  waiting-here : (n : ℕ) → waiting (typed (keys_at log n) (world_before_keys program log n)).memory
      ≡ waiting (world_before_keys program log n).memory + length (keys_at log n)
  unfolding typed
  waiting-here n = length-append (world_before_keys program log n).memory.devices.keys (keys_at log n)

  waiting-before : (n : ℕ) → waiting (world_before_keys program log n).memory ≤ length (filter (λ t. nat_lt t.count n) log)
  unfolding world_before_keys start start_memory
  waiting-before zero = omega arith
  waiting-before (suc n) =
      omega (arith, waiting-before n, waiting-here n, next_fewer (guarded_code program) (typed (keys_at log n) (world_before_keys program log n)), early-more log n)

  pub length-world_at : (n : ℕ) → length (world_with_keys program log n).memory.devices.keys ≤ length log
  unfolding world_with_keys
  length-world_at n =
      let early = length-filter (λ (t : Typed). nat_lt t.count (suc n)) log in
      omega (arith, waiting-before n, waiting-here n, early-more log n, early, count_by-le-length (λ (t : Typed). nat_lt t.count (suc n)) log)
