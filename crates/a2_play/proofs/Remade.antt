-- A run that is replayed.
use Rattle.std.proofs.Common.{◌≡◌, ◌≢◌, ◌⊎◌, ◌↔◌, inl, inr, ℕ, suc, ◌+◌, ◌-◌, ◌<◌, ◌≤◌, Bool, true, List, [], ◌∷◌, length, take, get_or, refl, sym, ap, ap₂, ◌∙◌, subst, arith, Some, None, true≢false, length-append}
use Rattle.std.specs.Prelude.{is_some}
use Rattle.std.proofs.lemmas.List.{append-nil}
use Rattle.a2_asm.specs.Assembled.{Assembled}
use Rattle.a2_services.specs.World.{World}
use Rattle.a2_machine.specs.declared.causes.Cause.{Cause}
use Rattle.a2_machine.specs.declared.causes.Cause.TheVariants.{Limit}
use Rattle.a2_machine.specs.Meaning.{stuck, world_at}
use Rattle.a2_machine.specs.ProgramGuard.{guard_of_program}
use Rattle.a2_machine.specs.State.{Device, MachineState, world_of_state, code_of, steps_left, IsMachineRun}
use Rattle.a2_timed_keys.specs.declared.strokes.Typed.{Typed}
use Rattle.a2_timed_keys.specs.Typed.{keys_at, typed, with_keys, world_before_keys}
use Rattle.a2_timed_keys.proofs.Keys.{keys_at-more, keys_at-front, keys_at-here, keys_at-not}
use Rattle.a2_timed_keys.proofs.Running.{keys_hold}
use Rattle.a2_timed_keys.proofs.Worlds.{waiting, waiting-typed, world-typed, before-more}
use Rattle.a2_play.specs.Played.{IsPlayed, machine_after, code_of_play, start, world_with_keys}
use Rattle.a2_play.specs.Backs.{WentBack, typed_before}
use Rattle.a2_play.specs.Agains.{HasRoom, IsReplaying, HasFewerCycles, IsFoundBySearch, world_before}
use Rattle.a2_play.proofs.Runs.{code_is, two, waiting_is}
use Rattle.a2_play.proofs.Earlier.{cycles-before, cycles-later, played_back}

none_of : (xs : List ℕ) → length xs ≤ 0 → xs ≡ []
none_of [] l = refl
none_of (x ∷ xs) l = absurd (omega (arith, l))

-- a machine in which these keys wait
holding : Device → List ℕ → Device
holding m keys =
    let s = m.state in
    let b = s.bus in
    let d = b.devices in
    record m { state = record s { bus = record b { devices = record d { keys = keys } } } }

with_none : (m : Device) → with_keys [] m ≡ m
unfolding holding
with_none m = ap (λ l. holding m l) (append-nil m.state.bus.devices.keys)

-- A key is typed, or it does not belong to this number of steps.
pub stroke_typed : (stroke : Typed) (steps : ℕ) (old new : Device) (is_typed : Bool) → stroke.steps ≡ steps → HasRoom (keys_at (stroke ∷ []) steps) old
    → ((is_typed ≡ true) ↔ (length old.state.bus.devices.keys < 4096)) → new ≡ machine_after is_typed stroke.key old
    → new ≡ with_keys (keys_at (stroke ∷ []) steps) old
stroke_typed stroke steps old new is_typed here room fits is =
    let one : keys_at (stroke ∷ []) steps ≡ stroke.key ∷ [] = keys_at-here stroke steps here in
    is ∙ ap (λ b. machine_after b stroke.key old) (fits.1 (few (subst (λ (ks : List ℕ). HasRoom ks old) one room)))
    ∙ ap (λ (ks : List ℕ). with_keys ks old) (sym one)
  where
    few : HasRoom (stroke.key ∷ []) old → length old.state.bus.devices.keys < 4096
    few (inl e) = absurd (omega (arith, ap (λ (ks : List ℕ). length ks) e))
    few (inr l) = omega (arith, l)

pub stroke_left : (stroke : Typed) (steps : ℕ) (old : Device) → stroke.steps ≢ steps → old ≡ with_keys (keys_at (stroke ∷ []) steps) old
stroke_left stroke steps old ne = sym (ap (λ (ks : List ℕ). with_keys ks old) (keys_at-not stroke steps ne) ∙ with_none old)

-- If keys have room one after another, the next key has room.
pub room_more : (log : List Typed) (i n : ℕ) (d : Typed) (old m : Device) → i < length log → m ≡ with_keys (keys_at (take i log) n) old
    → HasRoom (keys_at log n) old → HasRoom (keys_at (get_or log i d ∷ []) n) m
room_more log i n d old m low was room = go room
  where
    longer : length (keys_at (take (i + 1) log) n) ≡ length (keys_at (take i log) n) + length (keys_at (get_or log i d ∷ []) n)
    longer = ap (λ (l : List ℕ). length l) (keys_at-more log i n d low) ∙ length-append (keys_at (take i log) n) (keys_at (get_or log i d ∷ []) n)

    front : length (keys_at (take (i + 1) log) n) ≤ length (keys_at log n)
    front = keys_at-front log (i + 1) n

    before : length m.state.bus.devices.keys ≡ length old.state.bus.devices.keys + length (keys_at (take i log) n)
    before = ap (λ (x : Device). length x.state.bus.devices.keys) was ∙ length-append old.state.bus.devices.keys (keys_at (take i log) n)

    go : HasRoom (keys_at log n) old → HasRoom (keys_at (get_or log i d ∷ []) n) m
    go (inl e) = inl (none_of (keys_at (get_or log i d ∷ []) n) (omega (arith, longer, front, ap (λ (l : List ℕ). length l) e)))
    go (inr l) = inr (omega (arith, longer, front, before, l))

-- the start
pub again_start : (program : Assembled) (play : Device) (log : List Typed) (machine : Device) → IsPlayed program (record { machine = play; log = log })
    → world_of_state machine.state ≡ start program → machine.state.steps ≡ 0 → machine.state.guard ≡ Some (guard_of_program program)
    → IsReplaying program log play.state.steps machine.state
unfolding world_before_keys
again_start program play log machine at world steps guarded = record {
  codes = at.codes;
  fits = at.fits;
  went = at.went;
  few = at.few;
  holds = world ∙ sym (ap (λ n. world_before program log n) steps);
  guarded = guarded;
  within = omega (arith, steps);
}

-- The keys of a position have room when it is reached again.
pub again_room : (program : Assembled) (log : List Typed) (last : ℕ) (old : Device) → IsReplaying program log last old.state
    → HasRoom (keys_at log old.state.steps) old
again_room program log last old at = go (at.fits old.state.steps)
  where
    count : waiting (world_with_keys program log old.state.steps) ≡ length old.state.bus.devices.keys + length (keys_at log old.state.steps)
    count =
        ap (λ w. waiting w) (world-typed (code_of_play program) (start program) log old.state.steps)
        ∙ waiting-typed (keys_at log old.state.steps) (world_before program log old.state.steps)
        ∙ ap (λ w. waiting w + length (keys_at log old.state.steps)) (sym at.holds)
        ∙ ap (λ n. n + length (keys_at log old.state.steps)) (waiting_is old)

    go : (keys_at log old.state.steps ≡ []) ⊎ (waiting (world_with_keys program log old.state.steps) ≤ 4096) → HasRoom (keys_at log old.state.steps) old
    go (inl e) = inl e
    go (inr l) = inr (omega (arith, count, l))

-- The keys of a position are typed, then steps are run with no keys typed during them.
module _ (program : Assembled) (log : List Typed) (last end until limit : ℕ) (old keyed new : Device) (cause : Cause)
    (at : IsReplaying program log last old.state) (inside : end ≤ last)
    (is_keyed : keyed ≡ with_keys (keys_at log old.state.steps) old)
    (more : old.state.steps < until) (within : until ≤ end)
    (none : (k : ℕ) → old.state.steps < k → k < until → keys_at log k ≡ [])
    (some : 0 < limit) (most : limit ≤ until - old.state.steps)
    (run : IsMachineRun limit keyed new cause) where
  from : keyed.state.steps ≡ old.state.steps
  from = ap (λ (d : Device). d.state.steps) is_keyed

  world : world_of_state keyed.state ≡ world_with_keys program log old.state.steps
  world =
      ap (λ (d : Device). world_of_state d.state) is_keyed ∙ keys_hold (keys_at log old.state.steps) old
      ∙ ap (λ w. typed (keys_at log old.state.steps) w) at.holds
      ∙ sym (world-typed (code_of_play program) (start program) log old.state.steps)

  guarded : keyed.state.guard ≡ Some (guard_of_program program)
  guarded = ap (λ (d : Device). d.state.guard) is_keyed ∙ at.guarded

  code : code_of keyed.state ≡ code_of_play program
  code = code_is program keyed.state guarded

  going : stuck (code_of keyed.state) (world_of_state keyed.state) ≡ None
  going = ap₂ (λ c w. stuck c w) code world ∙ at.went old.state.steps (omega (arith, more, within, inside))

  few : new.state.steps ≤ until
  few = omega (arith, run.end.within, run.more, from, most, more)

  -- No run from there ends at once.
  ahead : (old.state.steps < new.state.steps) ⊎ (new.state.steps ≤ old.state.steps) → old.state.steps < new.state.steps
  ahead (inl l) = l
  ahead (inr l) = absurd (go run.end.cause)
    where
      still : new.state.steps ≡ keyed.state.steps
      still = omega (arith, run.more, from, l)

      same : new ≡ keyed
      same = run.none still

      go : (stuck (code_of keyed.state) (world_of_state new.state) ≡ Some cause)
          ⊎ ((stuck (code_of keyed.state) (world_of_state new.state) ≡ None) × (new.state.steps - keyed.state.steps ≡ steps_left limit keyed.state) × (cause ≡ Limit))
          → ⊥
      go (inl e) =
          let other : None ≡ Some cause
          = sym going ∙ sym (ap (λ (d : Device). stuck (code_of keyed.state) (world_of_state d.state)) same) ∙ e in
          true≢false (sym (ap is_some other))
      go (inr e) = omega (arith, e.1, still, some, from, more, within, inside, at.few)

  on : old.state.steps < new.state.steps
  on = ahead (two old.state.steps new.state.steps)

  holds : world_of_state new.state ≡ world_before program log new.state.steps
  holds =
      let j : ℕ = new.state.steps - old.state.steps - 1 in
      let is : new.state.steps ≡ old.state.steps + suc j = omega (arith, on) in
      let whole : new.state.steps - keyed.state.steps ≡ suc j = omega (arith, on, from) in
      run.end.reached ∙ ap₂ (λ c w. world_at c w (new.state.steps - keyed.state.steps)) code world
      ∙ ap (λ n. world_at (code_of_play program) (world_with_keys program log old.state.steps) n) whole
      ∙ sym (before-more (code_of_play program) (start program) log old.state.steps j new.state.steps is (λ k l h. none k l (omega (arith, h, few))))

  pub again_on : IsReplaying program log last new.state × (old.state.steps < new.state.steps) × (new.state.steps ≤ end)
  again_on = (
    record {
      codes = at.codes;
      fits = at.fits;
      went = at.went;
      few = at.few;
      holds = holds;
      guarded = run.guard ∙ guarded;
      within = omega (arith, few, within, inside);
    },
    on,
    omega (arith, few, within),
  )

-- the state of a machine during a search
pub record IsSeeking (program : Assembled) (log : List Typed) (goal end piece made before : ℕ) (state : MachineState) : Type 0 where
  pub again : IsReplaying program log end state
  pub index : made ≤ state.steps
  pub ahead : before ≤ state.steps
  pub near : state.steps ≤ before + piece
  pub slower : (k : ℕ) → k ≤ before → k < state.steps → (world_with_keys program log k).cycles < goal

cycles-of : (program : Assembled) (log : List Typed) (last : ℕ) (state : MachineState) → IsReplaying program log last state
    → (world_with_keys program log state.steps).cycles ≡ state.cycles
cycles-of program log last state at = cycles-before program log state.steps ∙ sym (ap (λ (w : World). w.cycles) at.holds)

pub seeking_start : (program : Assembled) (log : List Typed) (goal end piece : ℕ) (state : MachineState) → IsReplaying program log end state
    → HasFewerCycles program log goal state.steps → IsSeeking program log goal end piece state.steps state.steps state
seeking_start program log goal end piece state at slower = record {
  again = at;
  index = omega arith;
  ahead = omega arith;
  near = omega arith;
  slower = λ k l h. slower k h;
}

-- Until the cycles have passed, another piece is run.
pub seeking_on : (program : Assembled) (log : List Typed) (goal end piece made before : ℕ) (old new : MachineState)
    → IsSeeking program log goal end piece made before old → old.cycles < goal → IsReplaying program log end new → old.steps < new.steps
    → new.steps ≤ old.steps + piece → IsSeeking program log goal end piece (made + 1) old.steps new
seeking_on program log goal end piece made before old new seeking slow again on near = record {
  again = again;
  index = omega (arith, seeking.index, on);
  ahead = omega (arith, on);
  near = near;
  slower = λ k l h. omega (
    arith,
    slow,
    cycles-of program log end old seeking.again,
    cycles-later program log k (old.steps - k) old.steps (omega (arith, l)),
  );
}

-- The search ends when the cycles have passed, or at the end.
pub sought : (program : Assembled) (log : List Typed) (goal end piece made before : ℕ) (state : MachineState)
    → IsSeeking program log goal end piece made before state → goal ≤ (world_with_keys program log end).cycles
    → (end ≤ state.steps) ⊎ (goal ≤ state.cycles) → IsFoundBySearch program log goal end piece before state
sought program log goal end piece made before state seeking enough found = record {
  again = seeking.again;
  ahead = seeking.ahead;
  near = seeking.near;
  reached = go found;
  slower = seeking.slower;
}
  where
    go : (end ≤ state.steps) ⊎ (goal ≤ state.cycles) → goal ≤ state.cycles
    go (inl l) =
        let is : end ≡ state.steps = omega (arith, l, seeking.again.within) in
        omega (arith, enough, ap (λ n. (world_with_keys program log n).cycles) is, cycles-of program log end state seeking.again)
    go (inr l) = l

-- the contract of the calls that seek and bring
abbrev pub Seeks : List Typed → ℕ → ℕ → ℕ → ℕ → MachineState → MachineState → Type 0
Seeks log goal end piece before old new =
    (program : Assembled) → IsReplaying program log end old → HasFewerCycles program log goal old.steps → goal ≤ (world_with_keys program log end).cycles
    → IsFoundBySearch program log goal end piece before new

abbrev pub Brings : List Typed → ℕ → MachineState → MachineState → Type 0
Brings log position old new =
    (program : Assembled) (last : ℕ) → IsReplaying program log last old → position ≤ last → old.steps ≤ position
    → IsReplaying program log last new × (new.steps ≡ position)

-- a machine at the start
pub record IsBegun (program : Assembled) (state : MachineState) : Type 0 where
  pub world : world_of_state state ≡ start program
  pub steps : state.steps ≡ 0
  pub guard : state.guard ≡ Some (guard_of_program program)

-- A play goes back: the run is searched in pieces from the start, brought to the last piece, and searched there step
-- by step.
module _ (program : Assembled) (old first near second brought new : Device) (log : List Typed) (cycles goal before following : ℕ)
    (at : IsPlayed program (record { machine = old; log = log }))
    (is_goal : goal ≡ old.state.cycles - cycles)
    (begun : IsBegun program first.state) (again : IsBegun program second.state)
    (seeks : Seeks log goal old.state.steps 4096 before first.state near.state)
    (brings : Brings log before second.state brought.state)
    (steps : Seeks log goal old.state.steps 1 following brought.state new.state) where
  begins : (machine : Device) → IsBegun program machine.state → IsReplaying program log old.state.steps machine.state
  begins machine is = again_start program old log machine at is.world is.steps is.guard

  enough : goal ≤ (world_with_keys program log old.state.steps).cycles
  enough = omega (arith, is_goal, ap (λ (w : World). w.cycles) at.holds)

  piece : IsFoundBySearch program log goal old.state.steps 4096 before near.state
  piece = seeks program (begins first begun) (λ k l. absurd (omega (arith, l, begun.steps))) enough

  there : IsReplaying program log old.state.steps brought.state × (brought.state.steps ≡ before)
  there =
      brings program old.state.steps (begins second again) (omega (arith, piece.ahead, piece.again.within)) (omega (arith, again.steps))

  found : IsFoundBySearch program log goal old.state.steps 1 following new.state
  found =
      steps program there.0 (λ k l. piece.slower k (omega (arith, l, there.1)) (omega (arith, l, there.1, piece.ahead))) enough

  pub is_back : (after : List Typed) (position : ℕ) → position ≡ new.state.steps → after ≡ typed_before position log
      → WentBack program cycles (record { machine = old; log = log }) (record { machine = new; log = after })
  is_back after position e kept = record {
    within = found.again.within;
    near = omega (arith, found.reached, is_goal);
    first = λ k l. omega (arith, found.slower k (omega (arith, l, found.near)) l, is_goal);
    log = kept ∙ ap (λ n. typed_before n log) e;
  }

  pub back_played : (after : List Typed) (position : ℕ) → position ≡ new.state.steps → after ≡ typed_before position log
      → IsPlayed program (record { machine = new; log = after })
  back_played after position e kept =
      subst (λ (l : List Typed). IsPlayed program (record { machine = new; log = l })) (sym (kept ∙ ap (λ n. typed_before n log) e))
      (played_back program log old.state.steps new found.again)
