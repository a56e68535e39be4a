-- What an observer sees of a run in which keys are typed.
use Rattle.std.specs.Prelude.{nat_lt, if◌then◌else◌}
use Rattle.std.proofs.Common.{◌≡◌, ℕ, zero, suc, ◌+◌, ◌-◌, ◌<◌, ◌≤◌, List, [], refl, sym, ap, ap₂, ◌∙◌, arith, Option, Some, None}
use Rattle.a2_bus.specs.Memory.{Memory, peek, ram_end}
use Rattle.a2_burst.specs.Shown.{Shown}
use Rattle.a2_services.specs.World.{World}
use Rattle.a2_machine.specs.declared.causes.Cause.{Cause}
use Rattle.a2_machine.specs.Looks.{shown_between, shown_at, observer_after}
use Rattle.a2_machine.specs.Meaning.{Code}
use Rattle.a2_machine.specs.State.{Device, world_of_state, code_of, IsMachineRun}
use Rattle.a2_timed_keys.specs.declared.strokes.Typed.{Typed}
use Rattle.a2_timed_keys.specs.Typed.{keys_at, keys_typed_in, typed, world_before_keys, world_with_keys, IsRunning}
use Rattle.a2_timed_keys.specs.Rerun.{shown_in, shown_from}
use Rattle.a2_timed_keys.proofs.Meant.{same_byte}
use Rattle.a2_timed_keys.proofs.Worlds.{world-typed, before-more, with-more}

-- keys change no byte that is shown
same_bytes : (keys : List ℕ) (memory : Memory) → peek (keys_typed_in keys memory) ≡ peek memory
same_bytes keys memory = λ i a. ap (λ (byte : ℕ). if nat_lt a ram_end then Some byte else None) (same_byte keys memory a) i

-- so a step is shown as if none were typed after it
same_look : (keys : List ℕ) (from to : World) → shown_between from (typed keys to) ≡ shown_between from to
unfolding typed
same_look keys from to =
    let shown : Shown = shown_between from to in
    ap (λ (ram : ℕ → Option ℕ). let s : Shown = record shown { ram = ram } in s) (same_bytes keys to.memory)

-- between steps after which keys are typed, the steps are shown that a machine shows
shown_alike : (code : Code) (start : World) (log : List Typed) (made until j : ℕ) → ((k : ℕ) → made < k → k < until → keys_at log k ≡ [])
    → made + j < until → shown_at code (world_with_keys code start log made) j ≡ shown_in (world_with_keys code start log) (made + j)
shown_alike code start log made until j none low =
    let from : World = world_with_keys code start log (made + j) in
    let next : suc (made + j) ≡ made + suc j = omega arith in
    ap₂ (λ (a b : World). shown_between a b)
    (sym (with-more code start log made j (made + j) refl (λ k l h. none k l (omega (arith, h, low)))))
    (sym (before-more code start log made j (suc (made + j)) next (λ k l h. none k l (omega (arith, h, low)))))
    ∙ sym (same_look (keys_at log (suc (made + j))) from (world_before_keys code start log (suc (made + j))))
    ∙ ap (λ (w : World). shown_between from w) (sym (world-typed code start log (suc (made + j))))

-- steps that are shown after others
following : {O : Type 0} (seen : O → Shown → O) (f g : ℕ → Shown) (o : O) (m n : ℕ) → ((j : ℕ) → j < n → f j ≡ g (m + j))
    → observer_after seen f (observer_after seen g o m) n ≡ observer_after seen g o (m + n)
unfolding observer_after
following seen f g o m zero same = let e : m ≡ m + 0 = omega arith in ap (λ (i : ℕ). observer_after seen g o i) e
following {O} seen f g o m (suc n) same =
    let e : suc (m + n) ≡ m + suc n = omega arith in
    ap₂ (λ (x : O) (s : Shown). seen x s) (following seen f g o m n (λ j l. same j (omega (arith, l)))) (same n (omega arith))
    ∙ ap (λ (i : ℕ). observer_after seen g o i) e

-- the same steps are shown
pub alike : {O : Type 0} (seen : O → Shown → O) (f g : ℕ → Shown) (o : O) (n : ℕ) → ((j : ℕ) → j < n → f j ≡ g j)
    → observer_after seen f o n ≡ observer_after seen g o n
unfolding observer_after
alike seen f g o zero same = refl
alike {O} seen f g o (suc n) same =
    ap₂ (λ (x : O) (s : Shown). seen x s) (alike seen f g o n (λ j l. same j (omega (arith, l)))) (same n (omega arith))

-- before a step is shown
pub none_seen : {O : Type 0} (seen : O → Shown → O) (shown : ℕ → Shown) (o : O) (n : ℕ) → n ≡ 0 → o ≡ observer_after seen shown o n
unfolding observer_after
none_seen seen shown o n e = ap (λ (i : ℕ). observer_after seen shown o i) (sym e)

-- an observer that saw the steps from `begun` on has seen those of the next part of the run too
pub seen_on : {O : Type 0} (seen : O → Shown → O) (code : Code) (start : World) (log : List Typed) (limit begun made until : ℕ) (old new : Device)
    (cause : Cause) → begun ≤ made → ((k : ℕ) → made < k → k < until → keys_at log k ≡ []) → IsMachineRun (until - made) old new cause
    → IsRunning code start log limit made old → (first earlier later : O)
    → earlier ≡ observer_after seen (shown_from (world_with_keys code start log) begun) first (made - begun)
    → later ≡ observer_after seen (shown_at (code_of old.state) (world_of_state old.state)) earlier (new.state.steps - old.state.steps)
    → later ≡ observer_after seen (shown_from (world_with_keys code start log) begun) first (new.state.steps - begun)
seen_on {O} seen code start log limit begun made until old new cause more none run at first earlier later was is =
    let worlds : ℕ → World = world_with_keys code start log in
    let before : ℕ = made - begun in
    let count : ℕ = new.state.steps - old.state.steps in
    let sum : before + count ≡ new.state.steps - begun = omega (arith, more, run.more, at.steps) in
    let few : count ≤ until - made = omega (arith, run.end.within) in
    is
    ∙ ap₂ (λ (c : Code) (w : World). observer_after seen (shown_at c w) earlier count) at.code_is at.reached
    ∙ ap (λ (o : O). observer_after seen (shown_at code (worlds made)) o count) was
    ∙ following seen (shown_at code (worlds made)) (shown_from worlds begun) first before count (λ j l.
    let same : made + j ≡ begun + (before + j) = omega (arith, more) in
    shown_alike code start log made until j none (omega (arith, l, few)) ∙ ap (λ (n : ℕ). shown_in worlds n) same)
    ∙ ap (λ (n : ℕ). observer_after seen (shown_from worlds begun) first n) sum

-- steps that are shown from the first one on
pub shown_whole : {O : Type 0} (seen : O → Shown → O) (worlds : ℕ → World) (o : O) (n : ℕ)
    → observer_after seen (shown_from worlds 0) o (n - 0) ≡ observer_after seen (shown_in worlds) o n
shown_whole seen worlds o n =
    let all : n - 0 ≡ n = omega arith in
    ap (λ (i : ℕ). observer_after seen (shown_from worlds 0) o i) all
    ∙ alike seen (shown_from worlds 0) (shown_in worlds) o n
    (λ j l. let first : 0 + j ≡ j = omega arith in ap (λ (i : ℕ). shown_in worlds i) first)
