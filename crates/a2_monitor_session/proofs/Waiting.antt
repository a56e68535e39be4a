-- A run that waits for keys and continues when they are typed.
use Rattle.std.proofs.Common.{◌≡◌, ◌⊎◌, inl, inr, ℕ, zero, suc, ◌+◌, ◌-◌, ◌<◌, ◌≤◌, min, List, [], ◌∷◌, ◌++◌, map, refl, sym, ap, ap₂, ◌∙◌, subst, arith, append_assoc, Some, None}
use Rattle.std.proofs.lemmas.List.{append-nil}
use Rattle.a2_services.specs.World.{World}
use Rattle.a2_machine.specs.declared.causes.Cause.{Cause}
use Rattle.a2_machine.specs.declared.causes.Cause.TheVariants.{Limit}
use Rattle.a2_machine.specs.ByteRun.{bytes}
use Rattle.a2_machine.specs.Meaning.{Code, End, IsEnd, stuck, next, world_at}
use Rattle.a2_machine.specs.State.{most_steps}
use Rattle.a2_timed_keys.specs.declared.strokes.Typed.{Typed}
use Rattle.a2_timed_keys.specs.Typed.{typed, keys_at, world_before_keys, world_with_keys, IsTypedEnd}
use Rattle.a2_timed_keys.proofs.Keys.{keys_at-append, keys_at-not, keys_at-here}
use Rattle.a2_timed_keys.proofs.Worlds.{typed-typed, typed-nil, world-typed, with-more, world-start}
use Rattle.a2_monitor.specs.SessionStates.{SessionState, IsFreeRun, with_keys}
use Rattle.a2_monitor_session.specs.Waits.{RunsWithWaits, WaitingIsTyping}
use Rattle.a2_monitor_session.proofs.Runs.{run_more}

abbrev code : Code
code = bytes None

-- a world after this many steps of a run with typed keys, none of them typed after more steps
record Reached (start : World) (log : List Typed) (n : ℕ) (world : World) : Type 0 where
  holds : world ≡ world_with_keys code start log n
  went : (k : ℕ) → k < n → stuck code (world_with_keys code start log k) ≡ None
  past : (i : ℕ) → n < i → keys_at log i ≡ []

begun : (start : World) → Reached start [] 0 start
begun start = record {
  holds = sym (typed-nil start) ∙ sym (world-start code start []);
  went = λ k l. absurd (omega (arith, l));
  past = λ i l. refl;
}

-- a key that is typed there
abbrev stroke : ℕ → ℕ → Typed
stroke n key = record { steps = n; key = key }

module _ (start : World) (log : List Typed) (n key : ℕ) where
  earlier-keys : (i : ℕ) → i < n → keys_at (log ++ stroke n key ∷ []) i ≡ keys_at log i
  earlier-keys i l =
      keys_at-append log (stroke n key ∷ []) i
      ∙ ap (λ ks. keys_at log i ++ ks) (keys_at-not (stroke n key) i (λ e. omega (arith, l, e)))
      ∙ append-nil (keys_at log i)

  later-keys : (i : ℕ) → n < i → keys_at log i ≡ [] → keys_at (log ++ stroke n key ∷ []) i ≡ []
  later-keys i l none =
      keys_at-append log (stroke n key ∷ []) i
      ∙ ap₂ (λ (x y : List ℕ). x ++ y) none (keys_at-not (stroke n key) i (λ e. omega (arith, l, e)))

  same-before : (i : ℕ) → i ≤ n → world_before_keys code start (log ++ stroke n key ∷ []) i ≡ world_before_keys code start log i
  unfolding world_before_keys
  same-before zero l = refl
  same-before (suc i) l =
      ap₂ (λ ks w. next code (typed ks w)) (earlier-keys i (omega (arith, l))) (same-before i (omega (arith, l)))

  same-earlier : (i : ℕ) → i < n → world_with_keys code start (log ++ stroke n key ∷ []) i ≡ world_with_keys code start log i
  same-earlier i l =
      world-typed code start (log ++ stroke n key ∷ []) i
      ∙ ap₂ (λ ks w. typed ks w) (earlier-keys i l) (same-before i (omega (arith, l)))
      ∙ sym (world-typed code start log i)

  typed-here : world_with_keys code start (log ++ stroke n key ∷ []) n ≡ typed (key ∷ []) (world_with_keys code start log n)
  typed-here =
      world-typed code start (log ++ stroke n key ∷ []) n
      ∙ ap₂ (λ ks w. typed ks w)
      (keys_at-append log (stroke n key ∷ []) n ∙ ap (λ ks. keys_at log n ++ ks) (keys_at-here (stroke n key) n refl))
      (same-before n (omega arith))
      ∙ sym (typed-typed (keys_at log n) (key ∷ []) (world_before_keys code start log n))
      ∙ ap (λ w. typed (key ∷ []) w) (sym (world-typed code start log n))

  keyed : (world : World) → Reached start log n world → Reached start (log ++ stroke n key ∷ []) n (typed (key ∷ []) world)
  keyed world at = record {
    holds = ap (λ w. typed (key ∷ []) w) at.holds ∙ sym typed-here;
    went = λ k l. ap (λ w. stuck code w) (same-earlier k l) ∙ at.went k l;
    past = λ i l. later-keys i l (at.past i l);
  }

two : (m n : ℕ) → (m < n) ⊎ (n ≤ m)
two m n = grind (arith)

-- the run continues
module _ (start : World) (log : List Typed) (n : ℕ) (world : World) (at : Reached start log n world) where
  more : (k m : ℕ) → m ≡ n + k → world_with_keys code start log m ≡ world_at code world k
  more k m e = with-more code start log n k m e (λ i l h. at.past i l) ∙ ap (λ w. world_at code w k) (sym at.holds)

  ran : (limit : ℕ) (end : End) → IsEnd code world limit end → Reached start log (n + end.steps) end.world
  ran limit end run = record {
    holds = run.reached ∙ sym (more end.steps (n + end.steps) refl);
    went = λ i l. going i (two i n) l;
    past = λ i l. at.past i (omega (arith, l));
  }
    where
      going : (i : ℕ) → (i < n) ⊎ (n ≤ i) → i < n + end.steps → stuck code (world_with_keys code start log i) ≡ None
      going i (inl l) h = at.went i l
      going i (inr l) h =
          let is : i ≡ n + (i - n) = omega (arith, l) in
          let within : i - n < end.steps = omega (arith, l, h) in
          ap (λ w. stuck code w) (more (i - n) i is) ∙ run.first (i - n) within

  ended : (limit all : ℕ) (end : End) → n + limit ≡ all → IsEnd code world limit end
      → IsTypedEnd code start log all (record { world = end.world; steps = n + end.steps; cause = end.cause })
  ended limit all end sum run =
      let reached : Reached start log (n + end.steps) end.world = ran limit end run in
      record { within = omega (arith, sum, run.within); reached = reached.holds; first = reached.went; cause = why run.cause }
    where
      why : (stuck code end.world ≡ Some end.cause) ⊎ ((stuck code end.world ≡ None) × (end.steps ≡ limit) × (end.cause ≡ Limit))
          → (stuck code end.world ≡ Some end.cause) ⊎ ((stuck code end.world ≡ None) × (n + end.steps ≡ all) × (end.cause ≡ Limit))
      why (inl e) = inl e
      why (inr (none, made, is)) = inr (none, ap (λ m. n + m) made ∙ sum, is)

-- the number of steps never goes down
pub goes-more : (keys : List ℕ) (start : World) (limit : ℕ) (old new : SessionState) (cause : Cause) → RunsWithWaits keys start limit old new cause → old.steps ≤ new.steps
goes-more [] start limit old new cause h = run_more start limit old new cause h
goes-more (key ∷ keys) start limit old new cause (wait, run, rest) =
    let first : old.steps ≤ wait.steps = run_more start limit old wait _ run in
    let then : wait.steps ≤ new.steps = goes-more keys _ _ (with_keys (key ∷ []) wait) new cause rest in
    omega (arith, first, then)

-- the end of a run from one session to another, after this many steps
abbrev end_of : ℕ → ℕ → SessionState → Cause → End
end_of n before session_state cause = record { world = session_state.world; steps = n + (session_state.steps - before); cause = cause }

end-is : (start : World) (limit n : ℕ) (old new : SessionState) (cause : Cause) (h : IsFreeRun start limit old new cause)
    → end_of n old.steps new cause ≡ record { world = h.end.world; steps = n + h.end.steps; cause = h.end.cause }
end-is start limit n old new cause h =
    let count : (old.steps + h.end.steps) - old.steps ≡ h.end.steps = omega arith in
    ap₂ (λ (s : SessionState) (c : Cause). end_of n old.steps s c) h.left h.cause_is
    ∙ ap (λ k. let e : End = record { world = h.end.world; steps = n + k; cause = h.end.cause } in e) count

map-append : (xs ys : List Typed) → map (λ (t : Typed). t.key) (xs ++ ys) ≡ map (λ (t : Typed). t.key) xs ++ map (λ (t : Typed). t.key) ys
map-append [] ys = refl
map-append (x ∷ xs) ys = ap (λ ks. x.key ∷ ks) (map-append xs ys)

left-over : (n e limit most all : ℕ) → e ≤ min limit most → n + min limit most ≡ all → (n + e) + min (limit - e) (most - e) ≡ all
left-over n e limit most all within sum = grind (arith)

key-world : (key : ℕ) (wait : SessionState) → (with_keys (key ∷ []) wait).world ≡ typed (key ∷ []) wait.world
unfolding typed
key-world key wait = refl

all-of : (start : World) (keys : List ℕ) (log : List Typed) (n all : ℕ) (world : World) (limit : ℕ) (old new : SessionState) (cause : Cause)
    → Reached start log n world → n + min limit (most_steps - old.steps) ≡ all → RunsWithWaits keys world limit old new cause
    → (whole : List Typed) × (map (λ (t : Typed). t.key) whole ≡ map (λ (t : Typed). t.key) log ++ keys)
    × IsTypedEnd code start whole all (end_of n old.steps new cause)
all-of start [] log n all world limit old new cause at sum h = (
  log,
  sym (append-nil (map (λ (t : Typed). t.key) log)),
  subst (λ (e : End). IsTypedEnd code start log all e) (sym (end-is world limit n old new cause h))
      (ended start log n world at (min limit (most_steps - old.steps)) all h.end sum h.runs),
)
all-of start (key ∷ keys) log n all world limit old new cause at sum (wait, run, rest) =
    let e : ℕ = run.end.steps in
    let steps : wait.steps ≡ old.steps + e = ap (λ (s : SessionState). s.steps) run.left in
    let there : Reached start log (n + e) run.end.world = ran start log n world at (min limit (most_steps - old.steps)) run.end run.runs in
    let waits : Reached start log (n + e) wait.world = subst (λ w. Reached start log (n + e) w) (sym (ap (λ (s : SessionState). s.world) run.left)) there in
    let typed_at : Reached start (log ++ stroke (n + e) key ∷ []) (n + e) (with_keys (key ∷ []) wait).world
    = subst (λ w. Reached start (log ++ stroke (n + e) key ∷ []) (n + e) w) (sym (key-world key wait)) (keyed start log (n + e) key wait.world waits) in
    let made : wait.steps - old.steps ≡ e = omega (arith, steps) in
    let left : most_steps - wait.steps ≡ (most_steps - old.steps) - e = omega (arith, steps) in
    let sums : (n + e) + min (limit - (wait.steps - old.steps)) (most_steps - wait.steps) ≡ all
    = ap₂ (λ a b. (n + e) + min (limit - a) b) made left ∙ left-over n e limit (most_steps - old.steps) all run.runs.within sum in
    let more_steps : wait.steps ≤ new.steps = goes-more keys _ _ (with_keys (key ∷ []) wait) new cause rest in
    let count : (n + e) + (new.steps - wait.steps) ≡ n + (new.steps - old.steps) = omega (arith, steps, more_steps) in
    let (whole, keys_are, end)
    = all-of start keys (log ++ stroke (n + e) key ∷ []) (n + e) all (with_keys (key ∷ []) wait).world (limit - (wait.steps - old.steps)) (with_keys (key ∷ []) wait) new cause typed_at sums rest in (
      whole,
      keys_are
          ∙ ap (λ ks. ks ++ keys) (map-append log (stroke (n + e) key ∷ []))
          ∙ append_assoc (map (λ (t : Typed). t.key) log) (key ∷ []) keys,
      subst (λ k. IsTypedEnd code start whole all (record { world = new.world; steps = k; cause = cause })) count end,
    )

pub waiting-is-typing : WaitingIsTyping
waiting-is-typing keys start limit old new cause h =
    let all : ℕ = min limit (most_steps - old.steps) in
    let (log, keys_are, end) = all-of start keys [] 0 all start limit old new cause (begun start) (omega arith) h in
    let count : 0 + (new.steps - old.steps) ≡ new.steps - old.steps = omega arith in (
      log,
      keys_are,
      subst (λ k. IsTypedEnd code start log all (record { world = new.world; steps = k; cause = cause })) count end,
    )
