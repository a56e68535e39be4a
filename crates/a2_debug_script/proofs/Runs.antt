-- Runs of the machine as steps of a session.
use Rattle.std.proofs.Common.{◌≡◌, ◌≢◌, ◌⊎◌, ℕ, zero, suc, ◌+◌, ◌-◌, ◌*◌, ◌/◌, ◌<◌, ◌≤◌, false, List, take, drop, Some, None, refl, sym, ap, ap₂, ◌∙◌, inl, inr, arith, add-zero, add-suc, add-one}
use Rattle.a2_text.specs.Bytes.{is_among}
use Rattle.a2_asm.specs.Assembled.{Assembled}
use Rattle.a2_machine.specs.declared.causes.Cause.{Cause}
use Rattle.a2_machine.specs.declared.causes.Cause.TheVariants.{Limit}
use Rattle.a2_machine.specs.declared.Stop.{Stop}
use Rattle.a2_machine.specs.declared.Stop.TheVariants as stop
use Rattle.a2_machine.specs.Meaning as run
use Rattle.a2_machine.specs.Meaning.{stuck, next}
use Rattle.a2_machine.specs.Guarded.{HoldsCode}
use Rattle.a2_machine.specs.ProgramGuard.{guard_of_program}
use Rattle.a2_machine.specs.State.{MachineState, Device, world_of_state, code_of, steps_left, raised_by, is_at_breakpoint, AreSteps, EndsBy, IsMachineRun, IsRunTo}
use Rattle.a2_debug_script.specs.Worlds.{guarded_code}
use Rattle.a2_debug_script.specs.declared.Typed.{Typed}
use Rattle.a2_debug_script.specs.declared.Halt.{Halt}
use Rattle.a2_debug_script.specs.declared.Halt.TheVariants.{Stopped, Break}
use Rattle.a2_debug_script.specs.declared.calls.Answer.TheVariants.{Halted}
use Rattle.a2_debug_script.specs.Calls.{ExecutesSteps}
use Rattle.a2_debug_script.specs.Session.{Session, appended, advanced, oldest_after}
use Rattle.a2_debug_script.specs.Session.{Halted as End}
use Rattle.a2_debug_script.specs.Stored.{Stored, world_with_keys, session_of, byte_of_program, IsAt, AreCheckpoints, AreLogged, IsKept, Moves, NoneAbove, NoneBelow, NoneStuck}
use Rattle.a2_debug_script.specs.Held.{unguarded}
use Rattle.a2_debug_script.specs.Kept.{kept_at}
use Rattle.a2_debug_script.specs.declared.debugger.Breaks.{Breaks}
use Rattle.a2_debug_script.specs.Runs.{heeded, halt_by, halted, RunsToCount}
use Rattle.a2_debug_script.proofs.Worlds.{world_at-more}
use Rattle.a2_debug_script.proofs.Steps.{same_stuck, same_next, next_holds, front_free}
use Rattle.a2_debug_script.proofs.Places.{places_run}
use Rattle.a2_debug_script.proofs.Sessions.{at_count, session_next}
use Rattle.a2_debug_script.proofs.GoingOn.{ends, over, to_mark, stops_stuck, stops_last}

-- as long as a machine is not stuck, its worlds are those of the session
module _ (program : Assembled) (log : List Typed) (n : ℕ) (state : MachineState) (at : IsAt program (world_with_keys program log n) n state)
    (past : NoneAbove n log) where
  told : (k : ℕ) → run.world_at (code_of state) (world_of_state state) k ≡ world_with_keys program log (n + k)
      → HoldsCode (guard_of_program program).code (byte_of_program program) (world_with_keys program log (n + k)).memory
      → stuck (code_of state) (run.world_at (code_of state) (world_of_state state) k) ≡ stuck (guarded_code program) (world_with_keys program log (n + k))
  told k same code = rw (same, at.guarded) (same_stuck program at.sound _ code)

  pub along : (k : ℕ) → ((i : ℕ) → i < k → stuck (code_of state) (run.world_at (code_of state) (world_of_state state) i) ≡ None)
      → (run.world_at (code_of state) (world_of_state state) k ≡ world_with_keys program log (n + k))
      × HoldsCode (guard_of_program program).code (byte_of_program program) (world_with_keys program log (n + k)).memory
  unfolding run.world_at
  along zero free = rw add-zero (at.holds, at.code)
  along (suc k) free =
      let (same, code) = along k (λ i l. free i (omega (arith, l))) in
      let unstuck : stuck (guarded_code program) (world_with_keys program log (n + k)) ≡ None = sym (told k same code) ∙ free k (omega arith) in
      let there : world_with_keys program log (n + suc k) ≡ next (guarded_code program) (world_with_keys program log (n + k)) =
      rw (add-suc, ← add-one) (world_at-more program log (n + k) (omega (arith, past))) in
      (rw (there, same, at.guarded) (same_next program at.sound _ code), rw there (next_holds program at.sound _ code unstuck))

  pub stuck_along : (k : ℕ) → ((i : ℕ) → i < k → stuck (code_of state) (run.world_at (code_of state) (world_of_state state) i) ≡ None)
      → stuck (code_of state) (run.world_at (code_of state) (world_of_state state) k) ≡ stuck (guarded_code program) (world_with_keys program log (n + k))
  stuck_along k free = let (same, code) = along k free in told k same code

-- steps from a world of the session
module _ (program : Assembled) (log : List Typed) (n : ℕ) (old new : Device) (count : ℕ) (at : IsAt program (world_with_keys program log n) n old.state)
    (past : NoneAbove n log) (are : AreSteps old new count) where
  pub arrives : IsAt program (world_with_keys program log (n + count)) (n + count) new.state
  arrives =
      let (same, code) = along program log n old.state at past count are.going in
      record { holds = are.reached ∙ same; steps = omega (arith, are.steps, at.steps); guarded = are.guard ∙ at.guarded; sound = at.sound; code = code }

  pub free_at : (i : ℕ) → i < count → stuck (guarded_code program) (world_with_keys program log (n + i)) ≡ None
  free_at i l = sym (stuck_along program log n old.state at past i (λ j m. are.going j (omega (arith, m, l)))) ∙ are.going i l

  pub stuck_there : stuck (code_of old.state) (world_of_state new.state) ≡ stuck (guarded_code program) (world_with_keys program log (n + count))
  stuck_there = ap (stuck (code_of old.state)) are.reached ∙ stuck_along program log n old.state at past count are.going

  pub logged_on : AreLogged program log n → AreLogged program log (n + count)
  logged_on old = record { past = omega (arith, old.past); order = old.order; went = λ k l. went k l; keys = old.keys; codes = old.codes }
    where
      went : (k : ℕ) → k < n + count → stuck (guarded_code program) (world_with_keys program log k) ≡ None
      went k l = let before = old.went k in let later = free_at (k - n) in grind arith

-- a run consists of steps, whatever ended it
pub steps_of_run : (limit : ℕ) (old new : Device) (why : Stop) → EndsBy limit old new (new.state.steps - old.state.steps) why
    → AreSteps old new (new.state.steps - old.state.steps) × (new.state.steps - old.state.steps ≤ limit)
steps_of_run limit old new (stop.Cause cause) ran = (
  record { steps = omega (arith, ran.more); reached = ran.end.reached; going = ran.end.first; guard = ran.guard; picture = ran.picture; made = ran.made },
  omega (arith, ran.end.within),
)
steps_of_run limit old new stop.Breakpoint ran = (ran.2, omega (arith, ran.1))

-- a run through worlds that are not stuck executes all its steps
pub goes_whole_way : (program : Assembled) (log : List Typed) (n limit : ℕ) (old new : Device) (cause : Cause)
    → IsAt program (world_with_keys program log n) n old.state → NoneAbove n log → NoneStuck program log (n + limit) → n + limit ≤ 100_000_000
    → IsMachineRun limit old new cause → IsAt program (world_with_keys program log (n + limit)) (n + limit) new.state × (new.made ≡ raised_by old.made limit)
goes_whole_way program log n limit old new cause at past free few ran = rw (← full) (arrives program log n old new _ at past are, ran.made)
  where
    are : AreSteps old new (new.state.steps - old.state.steps)
    are = (steps_of_run limit old new (stop.Cause cause) ran).0

    full : new.state.steps - old.state.steps ≡ limit
    full =
        let told = stuck_there program log n old new (new.state.steps - old.state.steps) at past are in
        let here = free (n + (new.state.steps - old.state.steps)) in
        let within = ran.end.within in
        let ended = ran.end.cause in
        let steps = at.steps in
        grind arith

-- the same for the front of a log
pub goes_to : (program : Assembled) (log : List Typed) (k n limit to : ℕ) (old new : Device) (cause : Cause)
    → IsAt program (world_with_keys program (take k log) n) n old.state → NoneAbove n (take k log) → NoneBelow to (drop k log) → NoneStuck program log to
    → to ≤ 100_000_000 → n + limit ≡ to → IsMachineRun limit old new cause
    → IsAt program (world_with_keys program (take k log) to) to new.state × (new.made ≡ raised_by old.made limit)
goes_to program log k n limit to old new cause at past later went few end ran =
    rw end at (goes_whole_way program (take k log) n limit old new cause at past
    (λ i l. front_free program log k i to went later (omega (arith, l, end))) (omega (arith, few, end)) ran)

-- a run from the last world of a session, at most up to a count
pub record IsRun (program : Assembled) (log : List Typed) (n oldest : ℕ) (marks : List ℕ) (to : ℕ) (old new : Device) (why : Stop) : Type 0 where
  pub kept : IsKept program log n old.state
  pub held : List MachineState
  pub places : AreCheckpoints program log n oldest held
  pub ran : IsRunTo (is_among marks) (to - n) old new why
  pub ahead : n ≤ to
  pub near : to ≤ 1024 * (n / 1024) + 1024
  pub few : to ≤ 100_000_000

module _ {program : Assembled} {log : List Typed} {n oldest : ℕ} {marks : List ℕ} {to : ℕ} {old new : Device} {why : Stop}
    (r : IsRun program log n oldest marks to old new why) where
  abbrev count : ℕ
  count = new.state.steps - old.state.steps

  are : AreSteps old new count
  are = (steps_of_run (to - n) old new why r.ran.ends).0

  steps_are : (new.state.steps ≡ n + count) × (count ≤ to - n)
  steps_are = (omega (arith, are.steps, r.kept.current.steps), (steps_of_run (to - n) old new why r.ran.ends).1)

  arrived : IsAt program (world_with_keys program log (n + count)) (n + count) new.state
  arrived = arrives program log n old new count r.kept.current r.kept.logged.past are

  pub kept_run : (m : ℕ) → m ≡ new.state.steps → IsKept program log m new.state
  kept_run m e =
      let there : m ≡ n + count = omega (arith, e, steps_are.0) in
      rw there (record {
        current = arrived;
        logged = logged_on program log n old new count r.kept.current r.kept.logged.past are r.kept.logged;
        few = omega (arith, steps_are.1, r.ahead, r.few);
      })

  pub places_kept : (m : ℕ) → m ≡ new.state.steps → AreCheckpoints program log m (oldest_after oldest m) (kept_at n m r.held (unguarded new.state))
  places_kept m e =
      let there : m ≡ n + count = omega (arith, e, steps_are.0) in
      places_run program log n oldest r.held r.places m new.state (omega arith) (omega (arith, steps_are.1, r.near, r.ahead)) r.kept.logged.past (kept_run m e).current

  free : (i : ℕ) → i < count → stuck (guarded_code program) (world_with_keys program log (n + i)) ≡ None
  free i l = free_at program log n old new count r.kept.current r.kept.logged.past are i l

  off : (i : ℕ) → suc i < count → is_among marks (world_with_keys program log (n + suc i)).registers.pc ≡ false
  off i l =
      let there = along program log n old.state r.kept.current r.kept.logged.past (suc i) (λ j m. are.going j (omega (arith, m, l))) in
      rw (← there.0) (r.ran.passed (suc i) (omega arith) l)

  at_end : (i : ℕ) → suc i ≡ count → is_among marks (world_with_keys program log (n + suc i)).registers.pc ≡ is_at_breakpoint (Some why)
  at_end i e = rw (e, ← arrived.holds) (r.ran.last (omega (arith, e)))

  -- why the machine is stuck, if it is
  caused : (cause : Cause) → why ≡ stop.Cause cause → (stuck (guarded_code program) (world_with_keys program log (n + count)) ≡ Some cause)
      ⊎ ((stuck (guarded_code program) (world_with_keys program log (n + count)) ≡ None) × (count ≡ to - n) × (cause ≡ Limit))
  caused cause e =
      let ran = rw e at r.ran.ends in
      let told = stuck_there program log n old new count r.kept.current r.kept.logged.past are in
      let all : steps_left (to - n) old.state ≡ to - n = omega (arith, r.few, r.kept.current.steps) in
      rw (told, all) at ran.end.cause

unmarked : (why : Stop) → halt_by why ≢ Break → is_at_breakpoint (Some why) ≡ false
unmarked (stop.Cause cause) other = refl
unmarked stop.Breakpoint other = absurd (other refl)

-- the session after this many of its steps
abbrev walk : Stored → ℕ → Session
walk s k = session_of (at_count s (s.count + k))

module _ (s : Stored) {marks : List ℕ} {to : ℕ} {old new : Device} {why : Stop}
    (r : IsRun s.program s.log s.count s.oldest marks to old new why) where
  on : (k : ℕ) → walk s (suc k) ≡ appended s.program (walk s k)
  on k = rw (add-suc, ← add-one) (session_next s (s.count + k) _ _ _ _ r.kept.logged.past (omega arith) (omega arith))

  goes : is_at_breakpoint (Some why) ≡ false → (more : ℕ)
      → advanced s.program marks (count r + more) (walk s 0) ≡ advanced s.program marks more (walk s (count r))
  unfolding session_of
  goes none more = over s.program marks (walk s) on (count r) more (free r) (λ i l. (let before = off r i in let last = at_end r i in grind arith))

  ended : (w : Stop) → why ≡ w → (more : ℕ) → (halt_by w ≡ Break) ⊎ (s.count + count r < to) ⊎ (more ≡ 0)
      → advanced s.program marks (to - s.count + more) (walk s 0) ≡ ends (walk s (count r)) (halt_by w)
  unfolding session_of
  ended (stop.Cause cause) e more so = go (caused r cause e) so
    where
      all : to - s.count + more ≡ count r + (to - s.count - count r + more)
      all = omega (arith, steps_are r)

      on_to : (more : ℕ) → advanced s.program marks (count r + more) (walk s 0) ≡ advanced s.program marks more (walk s (count r))
      on_to more = goes (ap (λ w. is_at_breakpoint (Some w)) e) more

      go : (stuck (guarded_code s.program) (walk s (count r)).last ≡ Some cause)
          ⊎ ((stuck (guarded_code s.program) (walk s (count r)).last ≡ None) × (count r ≡ to - s.count) × (cause ≡ Limit))
          → (Stopped cause ≡ Break) ⊎ (s.count + count r < to) ⊎ (more ≡ 0)
          → advanced s.program marks (to - s.count + more) (walk s 0) ≡ ends (walk s (count r)) (Stopped cause)
      go (inl is) _ = rw all (on_to _ ∙ stops_stuck s.program marks _ _ cause is)
      go (inr (none, full, limit)) (inr (inr end)) = rw (end, ← full, limit) (on_to 0 ∙ stops_last s.program marks _ none)
      go (inr (none, full, limit)) (inr (inl less)) = absurd (omega (arith, full, less, r.ahead))
      go (inr (none, full, limit)) (inl broke) = cc
  ended stop.Breakpoint e more so =
      let some : 0 < count r = (rw e at r.ran.ends).0 in
      let last : suc (count r - 1) ≡ count r = omega arith in
      let all : to - s.count + more ≡ count r - 1 + suc (to - s.count - count r + more) = omega (arith, steps_are r, some) in
      rw all (rw last at (to_mark s.program marks (walk s) on (count r - 1) (to - s.count - count r + more) (λ i l. free r i (omega (arith, l)))
      (λ i l. off r i (omega (arith, l))) (at_end r (count r - 1) last ∙ ap (λ w. is_at_breakpoint (Some w)) e)))

  pub runs_are : (m others : ℕ) → m ≡ new.state.steps → s.made ≡ old.made + others
      → RunsToCount marks to s (record s { count = m; oldest = oldest_after s.oldest m; made = new.made + others }) (halt_by why)
  unfolding session_of
  runs_are m others e total =
      let there : m ≡ s.count + count r = omega (arith, e, steps_are r) in
      let high : oldest_after s.oldest s.count ≡ s.oldest = omega (arith, r.places.places, r.places.eight) in
      let start : walk s 0 ≡ session_of s = rw (add-zero, high) in
      let end : walk s (count r) ≡ session_of (record s { count = m; oldest = oldest_after s.oldest m; made = new.made + others }) = rw there in
      record {
        moves = record {
          program = refl;
          log = refl;
          breaks = refl;
          reruns = refl;
          further = omega arith;
          within = omega (arith, steps_are r);
          made = λ small. omega (arith, small, total, there, (are r).made, steps_are r);
        };
        ended = λ more so. rw (start, end) at (ended why refl more (rw there at so));
        on = λ other far more.
            (let all : to - s.count ≡ count r = omega (arith, far, there, steps_are r) in rw (all, ← end) (rw start at (goes (unmarked why other) more)));
      }

-- executing all the steps is the same as executing those that are left
pub record IsOnTheWay (breaks : Breaks) (n : ℕ) (old mid : Stored) : Type 0 where
  pub moves : Moves old n mid
  pub rest : advanced mid.program (heeded breaks mid.breaks) (old.count + n - mid.count) (session_of mid)
      ≡ advanced old.program (heeded breaks old.breaks) n (session_of old)

-- one run after another
module _ {breaks : Breaks} {n to : ℕ} {old mid new : Stored} {halt : Halt} (way : IsOnTheWay breaks n old mid)
    (ran : RunsToCount (heeded breaks mid.breaks) to mid new halt) (ahead : mid.count ≤ to) (fits : to ≤ old.count + n) where
  left : old.count + n - mid.count ≡ to - mid.count + (old.count + n - to)
  left = omega (arith, ahead, fits)

  moved : Moves old n new
  moved =
      let first = way.moves in
      let then = ran.moves in
      record {
        program = then.program ∙ first.program;
        log = then.log ∙ first.log;
        breaks = then.breaks ∙ first.breaks;
        reruns = then.reruns ∙ first.reruns;
        further = omega (arith, first.further, then.further);
        within = omega (arith, then.within, ahead, fits);
        made = λ small. omega (arith, first.made small, then.made (omega (arith, first.made small, small, ahead, fits, first.further)), first.further, then.further);
      }

  pub ends_here : (halt ≡ Break) ⊎ (new.count < to) ⊎ (old.count + n - to ≡ 0) → old.count + n ≤ 100_000_000
      → ExecutesSteps old n (advanced old.program (heeded breaks old.breaks) n (session_of old)) (Halted halt) new
  ends_here so few =
      let end : advanced old.program (heeded breaks old.breaks) n (session_of old) ≡ halted new halt = sym way.rest ∙ rw left (ran.ended (old.count + n - to) so) in
      (few, ap (λ (e : End). e.session) (sym end), ap (λ (e : End). e.halt) (sym end), moved)

  pub goes_on_from : halt ≢ Break → to ≤ new.count → IsOnTheWay breaks n old new
  goes_on_from other far =
      let there : old.count + n - new.count ≡ old.count + n - to = omega (arith, far, ahead, ran.moves.within) in
      record {
        moves = moved;
        rest = rw there (ap₂ (λ (p : Assembled) marks. advanced p (heeded breaks marks) (old.count + n - to) (session_of new)) ran.moves.program ran.moves.breaks
            ∙ sym (ran.on other far (old.count + n - to)) ∙ rw left at way.rest);
      }

pub on_the_way : (breaks : Breaks) (n : ℕ) (s : Stored) → IsOnTheWay breaks n s s
on_the_way breaks n s =
    let all : s.count + n - s.count ≡ n = omega arith in
    record {
      moves = record { program = refl; log = refl; breaks = refl; reruns = refl; further = omega arith; within = omega arith; made = λ small. omega arith };
      rest = rw all;
    }
