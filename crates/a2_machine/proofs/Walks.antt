-- Parts of runs: a number of steps, none of which is stuck. They can be joined, and they lead to a run's end.
use Rattle.std.specs.Prelude.{◌≡◌, ◌≤◌, ℕ, zero, suc, ◌+◌, ◌-◌, ◌*◌, Option, Some, None, refl}
use Rattle.std.proofs.Common.{ap, ◌∙◌, subst, arith}
use Rattle.std.proofs.lemmas.Option.{same_Some}
use Rattle.a2_services.specs.World.{World}
use Rattle.a2_machine.specs.declared.causes.Cause.{Cause}
use Rattle.a2_machine.specs.Meaning.{Code, IsEnd, stuck, next}
use Rattle.a2_machine.proofs.RunFrom.{run_from}
use Rattle.a2_machine.proofs.Runs.{run-is_end}

-- the world after this many steps, if none of them is stuck
unfoldable pub walked : Code → World → ℕ → Option World
walked code world zero = Some world
walked code world (suc n) = elim (stuck code world) [ Some cause ↦ None | None ↦ walked code (next code world) n ]

-- one part after another
pub then : (code : Code) (w v u : World) (m n : ℕ) → walked code w m ≡ Some v → walked code v n ≡ Some u → walked code w (m + n) ≡ Some u
unfolding walked
then code w v u zero n a b = let e : 0 + n ≡ n = omega arith in rw (e, same_Some w v a) b
then code w v u (suc m) n a b =
    let e : suc m + n ≡ suc (m + n) = omega arith in
    ap (walked code w) e ∙ grind (arith, then code (next code w) v u m n, a, b)

-- a run continues where a part of it ends
goes_on : (code : Code) (w v : World) (n done rest : ℕ) → walked code w n ≡ Some v → run_from code w done (n + rest) ≡ run_from code v (done + n) rest
unfolding walked run_from
goes_on code w v zero done rest h =
    let e : 0 + rest ≡ rest = omega arith in let f : done + 0 ≡ done = omega arith in rw (e, f, same_Some w v h)
goes_on code w v (suc n) done rest h =
    let e : suc n + rest ≡ suc (n + rest) = omega arith in
    let f : suc done + n ≡ done + suc n = omega arith in
    ap (run_from code w done) e ∙ grind (arith, goes_on code (next code w) v n (suc done) rest, ap (λ k. run_from code v k rest) f, h)

stopped : (code : Code) (v : World) (cause : Cause) (done rest : ℕ) → stuck code v ≡ Some cause → run_from code v done rest ≡ record { world = v; steps = done; cause = cause }
unfolding run_from
stopped code v cause done zero h = grind (arith, h)
stopped code v cause done _ h = grind (arith, h)

-- a part that leads to a stuck world is a run's end, for each limit that allows its steps
pub ends : (code : Code) (w v : World) (n limit : ℕ) (cause : Cause) → walked code w n ≡ Some v → stuck code v ≡ Some cause → n ≤ limit
    → IsEnd code w limit (record { world = v; steps = n; cause = cause })
ends code w v n limit cause h stops within =
    let all : n + (limit - n) ≡ limit = omega (arith, within) in
    let none : 0 + n ≡ n = omega arith in
    let same = goes_on code w v n 0 (limit - n) h ∙ stopped code v cause (0 + n) (limit - n) stops in
    rw (all, none) at (rw same at (run-is_end code w (n + (limit - n))))

-- Parts of runs described by a property of the world where they end

-- this many steps lead to a world with this property
abbrev pub Leads : Code → World → ℕ → (World → Type 0) → Type 0
Leads code w n Q = (v : World) × (walked code w n ≡ Some v) × Q v

pub and_then : (code : Code) (w : World) (m n : ℕ) (P Q : World → Type 0) → Leads code w m P → ((v : World) → P v → Leads code v n Q) → Leads code w (m + n) Q
and_then code w m n P Q (v, walk, holds) later = let on = later v holds in (on.0, then code w v on.0 m n walk on.1, on.2)

-- a loop: a count goes down by one each round, and every round takes the same number of steps
pub rounds : (code : Code) (P : ℕ → World → Type 0) (round : ℕ) → ((k : ℕ) (w : World) → P (suc k) w → Leads code w round (P k))
    → (n : ℕ) (w : World) → P n w → Leads code w (n * round) (P 0)
unfolding walked
rounds code P round once zero w holds = let e : 0 ≡ 0 * round = omega arith in subst (λ k. Leads code w k (P 0)) e (w, refl, holds)
rounds code P round once (suc n) w holds =
    let e : round + n * round ≡ suc n * round = grind arith in
    subst (λ k. Leads code w k (P 0)) e (and_then code w round (n * round) (P n) (P 0) (once n w holds) (λ v h. rounds code P round once n v h))

pub to_end : (code : Code) (w : World) (n limit : ℕ) (cause : Cause) (Q : World → Type 0) → Leads code w n Q → ((v : World) → Q v → stuck code v ≡ Some cause) → n ≤ limit
    → (v : World) × IsEnd code w limit (record { world = v; steps = n; cause = cause }) × Q v
to_end code w n limit cause Q (v, walk, holds) stops within = (v, ends code w v n limit cause walk (stops v holds) within, holds)
