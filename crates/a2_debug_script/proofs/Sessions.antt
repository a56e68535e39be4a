-- What the calls do to the session.
use Rattle.std.specs.Prelude.{All, nat_le}
use Rattle.std.proofs.Common.{◌≡◌, ℕ, zero, suc, ◌+◌, ◌<◌, ◌≤◌, List, [], ◌∷◌, ◌++◌, length, Some, refl, arith, length-append, add-one, add-zero, add-suc}
use Rattle.std.proofs.lemmas.List.{length-map}
use Rattle.std.proofs.lemmas.List.Elements.{All-append, All-filter, All-map, All-nil}
use Rattle.std.proofs.lemmas.List.Sums.{count_by-le-length, length-filter}
use Rattle.a2_hex.specs.Images.{held}
use Rattle.a2_asm.specs.Assembled.{Assembled}
use Rattle.a2_asm.specs.Programs.{IsSound}
use Rattle.a2_machine.proofs.Laid.{start-holds}
use Rattle.a2_machine.specs.ProgramGuard.{guard_of_program}
use Rattle.a2_machine.specs.Start.{start_world}
use Rattle.a2_machine.specs.State.{MachineState, Device, world_of_state}
use Rattle.a2_debug_script.specs.Worlds.{start}
use Rattle.a2_debug_script.specs.declared.Typed.{Typed}
use Rattle.a2_debug_script.specs.Session.{start_session, appended, with_keys, stepped_back, oldest_after}
use Rattle.a2_debug_script.specs.Stored.{Stored, world_before_keys, world_with_keys, worlds_below, session_of, debugger_at_start, typed_at, up_to, IsAt, AreLogged, IsKept, NoneAbove}
use Rattle.a2_debug_script.proofs.Keys.{keys_at-up_to, keys_at-not_yet, NoneAbove-up_to, InOrder-up_to, InOrder-typed, typed_then}
use Rattle.a2_debug_script.proofs.Worlds.{typed-nil, world_at-same, worlds_below-same, world_at-more, length-worlds_below, world_at-typed, worlds_below-typed}

-- reading the session

pub last_is : (s : Stored) → (session_of s).last ≡ world_with_keys s.program s.log s.count
unfolding session_of
last_is s = refl

pub count_is : (s : Stored) → length (session_of s).earlier ≡ s.count
unfolding session_of
count_is s = length-worlds_below s.program s.log s.count

pub oldest_is : (s : Stored) → (session_of s).oldest ≡ s.oldest
unfolding session_of
oldest_is s = refl

pub breaks_are : (s : Stored) → (session_of s).breaks ≡ s.breaks
unfolding session_of
breaks_are s = refl

-- stepping forwards

abbrev pub at_count : Stored → ℕ → Stored
at_count s n = record s { count = n; oldest = oldest_after s.oldest n }

pub session_next : (s : Stored) (n oldest oldest' made made' : ℕ) → NoneAbove s.count s.log → s.count ≤ n → oldest' ≡ oldest_after oldest (n + 1)
    → session_of (record s { count = n + 1; oldest = oldest'; made = made' })
    ≡ appended s.program (session_of (record s { count = n; oldest = oldest; made = made }))
unfolding session_of appended worlds_below
session_next s n oldest oldest' made made' past ahead raise =
    let last = world_at-more s.program s.log n (omega arith) in
    let olds : oldest' ≡ oldest_after oldest (length (worlds_below s.program s.log n) + 1) = rw length-worlds_below raise in
    let earlier : worlds_below s.program s.log (n + 1) ≡ world_with_keys s.program s.log n ∷ worlds_below s.program s.log n = rw add-one in
    λ i. record { last = last i; earlier = earlier i; breaks = s.breaks; oldest = olds i }

-- typing

pub session_typed : (s : Stored) (keys : List ℕ) (made : ℕ) → session_of (record s { log = s.log ++ typed_at s.count keys; made = made }) ≡ with_keys keys (session_of s)
unfolding session_of with_keys
session_typed s keys made = rw (world_at-typed, worlds_below-typed)

pub logged_typed : (program : Assembled) (log : List Typed) (n : ℕ) (keys : List ℕ) → AreLogged program log n → length log + length keys ≤ 4096
    → All (λ key. key < 128) keys → AreLogged program (log ++ typed_at n keys) n
logged_typed program log n keys old fits codes = record {
  past = All-append (λ t. t.count ≤ n) log (typed_at n keys) old.past (omega (arith, typed_then n keys));
  order = InOrder-typed log n keys old.order old.past;
  went = λ k l. rw (world_at-same program (log ++ typed_at n keys) log k (λ i m. keys_at-not_yet log n keys i (omega (arith, m, l)))) (old.went k l);
  keys = omega (arith, length-append log (typed_at n keys), length-map keys (λ key. let t : Typed = record { count = n; key = key } in t), fits);
  codes = All-append (λ t. t.key < 128) log (typed_at n keys) old.codes (All-map (λ t. t.key < 128) (λ key. record { count = n; key = key }) keys codes);
}

-- going back

backed_is : (program : Assembled) (log : List Typed) (breaks : List ℕ) (oldest n m : ℕ)
    → stepped_back n (record { last = world_with_keys program log (m + n); earlier = worlds_below program log (m + n); breaks = breaks; oldest = oldest })
    ≡ record { last = world_with_keys program log m; earlier = worlds_below program log m; breaks = breaks; oldest = oldest }
unfolding stepped_back worlds_below
backed_is program log breaks oldest zero m = rw add-zero
backed_is program log breaks oldest (suc n) m = rw add-suc (backed_is program log breaks oldest n m)

pub session_back : (s : Stored) (n m reruns made : ℕ) → s.count ≡ m + n
    → session_of (record s { count = m; log = up_to m s.log; reruns = reruns; made = made }) ≡ stepped_back n (session_of s)
unfolding session_of
session_back s n m reruns made e =
    let same = λ (i : ℕ) (l : i ≤ m). keys_at-up_to s.log m i l in
    rw (
      e,
      backed_is s.program s.log s.breaks s.oldest n m,
      world_at-same s.program (up_to m s.log) s.log m same,
      worlds_below-same s.program (up_to m s.log) s.log m (λ i l. same i (omega (arith, l))),
    )

pub logged_back : (program : Assembled) (log : List Typed) (n m : ℕ) → m ≤ n → AreLogged program log n → AreLogged program (up_to m log) m
logged_back program log n m le old = record {
  past = NoneAbove-up_to log m;
  order = InOrder-up_to log m old.order;
  went = λ k l. rw (world_at-same program (up_to m log) log k (λ i h. keys_at-up_to log m i (omega (arith, h, l)))) (old.went k (omega (arith, l, le)));
  keys = omega (arith, length-filter (λ (t : Typed). nat_le t.count m) log, count_by-le-length (λ (t : Typed). nat_le t.count m) log, old.keys);
  codes = All-filter (λ (t : Typed). nat_le t.count m) (λ t. t.key < 128) log old.codes;
}

-- the start

pub world_at-start : (program : Assembled) → world_with_keys program [] 0 ≡ start program
unfolding world_with_keys world_before_keys
world_at-start program = typed-nil (start program)

pub booted : (program : Assembled) (old new : Device) → IsSound program → world_of_state old.state ≡ start_world (held program.image) program.entry [] → old.state.steps ≡ 0
    → new ≡ (let t = old.state in record old { state = record t { guard = Some (guard_of_program program) } })
    → IsAt program (world_with_keys program [] 0) 0 new.state
unfolding start
booted program old new sound holds steps is =
    rw (is, world_at-start program) (record { holds = holds; steps = steps; guarded = refl; sound = sound; code = start-holds program [] sound })

pub kept_start : (program : Assembled) (state : MachineState) → IsAt program (world_with_keys program [] 0) 0 state → IsKept program [] 0 state
kept_start program state at = record {
  current = at;
  logged = record { past = All-nil _; order = tt; went = λ k l. absurd (omega arith); keys = omega arith; codes = All-nil _ };
  few = omega arith;
}

pub session_start : (program : Assembled) (made : ℕ) → session_of (debugger_at_start program made) ≡ start_session program
unfolding session_of worlds_below
session_start program made = rw (world_at-start program)
