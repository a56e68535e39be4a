-- Where checkpoints are, and that they do not change.
use Rattle.std.specs.Prelude.{◌==◌, ◌&&◌, nat_lt}
use Rattle.std.proofs.Common.{◌≡◌, ℕ, ◌+◌, ◌-◌, ◌*◌, ◌/◌, ◌%◌, ◌<◌, ◌≤◌, true, false, List, [], ◌∷◌, ◌++◌, length, get_or, take, drop, Some, refl, sym, ◌∙◌, arith, length-append, length-take, length-drop, ◌⊎◌, inl, inr}
use Rattle.std.proofs.lemmas.Bool.Decides.{nat_tests}
use Rattle.std.proofs.lemmas.List.{get_or_append_left, get_or_push, get_or-take, get_or-drop}
use Rattle.std.proofs.lemmas.Option.{get_or_from_slice_get}
use Rattle.circular_buffer.specs.Buffer.{keep_last, last_item}
use Rattle.a2_asm.specs.Assembled.{Assembled}
use Rattle.a2_machine.specs.ProgramGuard.{guard_of_program}
use Rattle.a2_machine.specs.State.{MachineState}
use Rattle.a2_debug_script.specs.declared.Typed.{Typed}
use Rattle.a2_debug_script.specs.Held.{unguarded}
use Rattle.a2_debug_script.specs.Kept.{kept_at}
use Rattle.a2_debug_script.specs.Session.{oldest_after}
use Rattle.a2_debug_script.specs.Stored.{world_before_keys, world_with_keys, typed_at, up_to, IsAt, IsCopyAt, NoneAbove, NoneBelow, AllBelow, Spaced, AreCheckpoints}
use Rattle.a2_debug_script.proofs.Keys.{keys_at-not_yet, keys_at-up_to, keys_at-front}
use Rattle.a2_debug_script.proofs.Worlds.{before-same, fresh_before}
use Rattle.a2_debug_script.proofs.Steps.{at_same, at_unguarded, at_guarded}

-- a checkpoint is due, or none is
due : (n m oldest many : ℕ) → n ≤ m → m ≤ 1024 * (n / 1024) + 1024 → oldest + 1024 * many ≡ 1024 * (n / 1024) + 1024 → many ≤ 8
    → (((nat_lt n m && (m % 1024 == 0)) ≡ true) × (m ≡ oldest + 1024 * many))
    ⊎ (((nat_lt n m && (m % 1024 == 0)) ≡ false) × (oldest ≡ oldest_after oldest m) × (m / 1024 ≡ n / 1024))
due n m oldest many ahead near places eight = grind (arith, nat_tests)

module _ (program : Assembled) (log : List Typed) (n oldest : ℕ) (held : List MachineState) (c : AreCheckpoints program log n oldest held) where
  -- keys are typed, and keys are forgotten
  pub places_typed : (keys : List ℕ) → AreCheckpoints program (log ++ typed_at n keys) n oldest held
  places_typed keys = record {
    spaced = λ k d l. at_same (c.spaced k d l)
        (before-same program log _ _ (λ i m. sym (keys_at-not_yet log n keys i (omega (arith, m, l, c.places))))) refl;
    some = c.some;
    eight = c.eight;
    places = c.places;
  }

  pub places_back : (m : ℕ) → m ≤ n → oldest ≤ m → AreCheckpoints program (up_to m log) m oldest (take ((m - m % 1024 - oldest) / 1024 + 1) held)
  places_back m le above =
      let many = length-take ((m - m % 1024 - oldest) / 1024 + 1) held in
      let places : oldest + 1024 * length (take ((m - m % 1024 - oldest) / 1024 + 1) held) ≡ 1024 * (m / 1024) + 1024 = omega (arith, many, c.places, le, above) in
      record {
        spaced = λ k d l. rw (get_or-take ((m - m % 1024 - oldest) / 1024 + 1) held k d (omega (arith, l, many))) (at_same (c.spaced k d (omega (arith, l, many)))
            (before-same program log _ _ (λ i h. sym (keys_at-up_to log m i (omega (arith, h, l, places))))) refl);
        some = omega (arith, many, c.some);
        eight = omega (arith, many, c.eight);
        places = places;
      }

  -- the newest checkpoint
  pub newest_at : (state : MachineState) → last_item held ≡ Some state → IsCopyAt program log (n - n % 1024) state
  newest_at state last =
      let place : oldest + 1024 * (length held - 1) ≡ n - n % 1024 = omega (arith, c.places, c.some) in
      rw (get_or_from_slice_get held (length held - 1) state state last, place) at (c.spaced (length held - 1) state (omega (arith, c.some)))

  pushed : (state : MachineState) → IsCopyAt program log (oldest + 1024 * length held) state → Spaced program log oldest (held ++ state ∷ [])
  pushed state at k d l = go (split l)
    where
      split : k < length (held ++ state ∷ []) → (k < length held) ⊎ (k ≡ length held)
      split l = grind (arith, length-append)

      go : (k < length held) ⊎ (k ≡ length held) → IsCopyAt program log (oldest + 1024 * k) (get_or (held ++ state ∷ []) k d)
      go (inl low) = rw (get_or_append_left) (c.spaced k d low)
      go (inr e) = rw (e, get_or_push) at

  -- after steps up to the next place for a checkpoint
  pub places_run : (m : ℕ) (state : MachineState) → n ≤ m → m ≤ 1024 * (n / 1024) + 1024 → NoneAbove n log
      → IsAt program (world_with_keys program log m) m state → AreCheckpoints program log m (oldest_after oldest m) (kept_at n m held (unguarded state))
  places_run m state ahead near past at = go (due n m oldest (length held) ahead near c.places c.eight)
    where
      many : length (held ++ unguarded state ∷ []) ≡ length held + 1
      many = length-append held (unguarded state ∷ [])

      go : (((nat_lt n m && (m % 1024 == 0)) ≡ true) × (m ≡ oldest + 1024 * length held))
          ⊎ (((nat_lt n m && (m % 1024 == 0)) ≡ false) × (oldest ≡ oldest_after oldest m) × (m / 1024 ≡ n / 1024))
          → AreCheckpoints program log m (oldest_after oldest m) (kept_at n m held (unguarded state))
      go (inl (e, at_m)) =
          let copy : IsCopyAt program log m (unguarded state) = at_unguarded (at_same at (fresh_before program log m (omega (arith, past, at_m, c.places))) refl) in
          let drops = length-drop (length held - 7) (held ++ unguarded state ∷ []) in
          let j : length (held ++ unguarded state ∷ []) - 8 ≡ length held - 7 = omega (arith, many) in
          rw (e, j) (record {
            spaced = λ k d l.
                (let place : oldest + 1024 * (length held - 7 + k) ≡ oldest_after oldest m + 1024 * k = omega (arith, at_m, c.eight) in
                rw (get_or-drop, sym place) (pushed (unguarded state) (rw at_m at copy) _ d (omega (arith, l, drops))));
            some = omega (arith, many, drops);
            eight = omega (arith, many, drops, c.eight);
            places = omega (arith, many, at_m, c.eight, drops);
          })
      go (inr (e, still, same)) = rw (e, sym still) (record { spaced = c.spaced; some = c.some; eight = c.eight; places = omega (arith, same, c.places) })

-- a machine that is restored to the newest checkpoint
pub brought_back : {program : Assembled} {log : List Typed} {n oldest : ℕ} {held : List MachineState} (c : AreCheckpoints program log n oldest held)
    (m : ℕ) (left : List MachineState) (state : MachineState) → m ≤ n → oldest ≤ m → left ≡ take ((m - m % 1024 - oldest) / 1024 + 1) held
    → last_item left ≡ Some (unguarded state) → state.guard ≡ Some (guard_of_program program)
    → IsAt program (world_before_keys program (up_to m log) (m - m % 1024)) (m - m % 1024) state
brought_back c m left state le above is last guarded =
    at_guarded state (newest_at _ _ _ _ _ (places_back _ _ _ _ _ c m le above) (unguarded state) (rw is at last)) guarded

-- a machine before the keys of its count, and a log whose later keys are left out
pub at_front : (program : Assembled) (log : List Typed) (k n : ℕ) (state : MachineState) → IsAt program (world_before_keys program log n) n state
    → AllBelow n (take k log) → NoneBelow n (drop k log) → IsAt program (world_with_keys program (take k log) n) n state
at_front program log k n state at under later =
    at_same at (before-same program log (take k log) n (λ i l. sym (keys_at-front log k i (omega (arith, later, l))))
    ∙ sym (fresh_before program (take k log) n (omega (arith, under)))) refl

-- the first checkpoint
pub places_start : (program : Assembled) (state : MachineState) → IsAt program (world_with_keys program [] 0) 0 state
    → AreCheckpoints program [] 0 0 (keep_last 8 ([] ++ unguarded state ∷ []))
places_start program state at = record {
  spaced = λ k d l.
      (let first : k ≡ 0 = omega (arith, l) in
      rw first (at_unguarded (at_same at (fresh_before program [] 0 (omega arith)) refl)));
  some = omega arith;
  eight = omega arith;
  places = refl;
}
