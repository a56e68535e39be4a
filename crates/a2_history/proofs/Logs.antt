-- What is done by hand, and what a log holds.
use Rattle.std.specs.Prelude.{Result, Ok, Err, IsOk, OnOk, OnErr, ◌↔◌, nat_lt}
use Rattle.std.proofs.Common.{◌≡◌, ℕ, ◌+◌, ◌<◌, ◌≤◌, Bool, true, false, true≢false, List, [], ◌∷◌, ◌++◌, length, drop, refl, sym, ap, ◌∙◌, arith, cond, eqb, leb}
use Rattle.std.proofs.lemmas.Bool.Decides.{nat_tests}
use Rattle.std.proofs.lemmas.Bool.{lt-ltb, eq-eqb, ne_eqb, le-leb, leb-true, leb-false, cond-false, cond-true}
use Rattle.a2_bus.specs.Devices.{keys_typed}
use Rattle.a2_bus.specs.Memory.{Memory, ram_end, with_ram}
use Rattle.a2_bus.specs.View.{memory_of}
use Rattle.a2_effect.specs.declared.Regs.{Regs}
use Rattle.a2_effect.specs.Registers.{Registers as Values}
use Rattle.a2_effect.specs.View.{registers_of}
use Rattle.a2_services.specs.World.{World}
use Rattle.a2_machine.specs.State.{MachineState, Device, world_of_state}
use Rattle.a2_history.specs.declared.actions.Action.{Action}
use Rattle.a2_history.specs.declared.actions.Change.TheVariants.{Registers, Byte}
use Rattle.a2_history.specs.declared.actions.Action.TheVariants.{Keys, Change as Changed}
use Rattle.a2_history.specs.declared.actions.Logged.{Logged}
use Rattle.a2_history.specs.Courses.{Course, typed, with_keys, with_action, with_logged}
use Rattle.a2_history.specs.Going.{up_to, with_done}
use Rattle.a2_history.specs.Acting.{IsActed, IsActedBy}

abbrev pub after_keys : Device → List ℕ → Device
after_keys old keys =
    let s = old.state in
    let b = s.bus in
    record old { state = record s { bus = record b { devices = keys_typed b.devices keys } } }

typed-holds : (old : Device) (keys : List ℕ) → world_of_state (after_keys old keys).state ≡ typed keys (world_of_state old.state)
unfolding memory_of
typed-holds old keys = refl

pub fitting : (keys : List ℕ) (w : World) → length w.memory.devices.keys + length keys ≤ 4096 → with_keys keys w ≡ typed keys w
unfolding with_keys
fitting keys w room = cond-true _ _ _ (le-leb (length w.memory.devices.keys + length keys) 4096 room)

not-fitting : (keys : List ℕ) (w : World) → (length w.memory.devices.keys + length keys ≤ 4096 → ⊥) → with_keys keys w ≡ w
unfolding with_keys
not-fitting keys w full = go (leb (length w.memory.devices.keys + length keys) 4096) refl
  where
    go : (b : Bool) → leb (length w.memory.devices.keys + length keys) 4096 ≡ b → cond b (typed keys w) w ≡ w
    go true e = absurd (full (leb-true (length w.memory.devices.keys + length keys) 4096 e))
    go false e = refl

pub typed-is : {X E : Type 0} (old new : Device) (keys : List ℕ) (r : Result X E)
    → (IsOk r ↔ (length old.state.bus.devices.keys + length keys ≤ 4096)) → OnOk r (new ≡ after_keys old keys) → OnErr r (new ≡ old)
    → IsActed (Keys keys) old.state new.state
unfolding memory_of
typed-is old new keys (Ok x) fits ok err = record {
  world = ap (λ (d : Device). world_of_state d.state) ok ∙ typed-holds old keys ∙ sym (fitting keys (world_of_state old.state) (fits.0 refl));
  steps = ap (λ (d : Device). d.state.steps) ok;
  guard = ap (λ (d : Device). d.state.guard) ok;
}
typed-is old new keys (Err e) fits ok err = record {
  world = ap (λ (d : Device). world_of_state d.state) err ∙ sym (not-fitting keys (world_of_state old.state) (λ room. true≢false (sym (fits.1 room))));
  steps = ap (λ (d : Device). d.state.steps) err;
  guard = ap (λ (d : Device). d.state.guard) err;
}

-- registers that are set
pub registers-set : (old new : Device) (regs : Regs) → registers_of new.state.regs ≡ registers_of regs
    → new ≡ (let s = old.state in record old { state = record s { regs = new.state.regs } })
    → IsActed (Changed (Registers regs)) old.state new.state
registers-set old new regs is left = record {
  world = ap (λ (d : Device). world_of_state d.state) left
      ∙ ap (λ (r : Values). (let w = world_of_state old.state in let v : World = record w { registers = r } in v)) is;
  steps = ap (λ (d : Device). d.state.steps) left;
  guard = ap (λ (d : Device). d.state.guard) left;
}

-- a byte that is stored
pub byte-stored : (old new : Device) (address byte : ℕ) → address < ram_end
    → memory_of new.state.bus ≡ with_ram (memory_of old.state.bus) address byte
    → new ≡ (let s = old.state in let n = new.state in record old { state = record s { bus = n.bus; picture = n.picture } })
    → IsActed (Changed (Byte address byte)) old.state new.state
byte-stored old new address byte low is left = record {
  world = ap (λ (d : Device). world_of_state d.state) left
      ∙ ap (λ (m : Memory). (let w = world_of_state old.state in let v : World = record w { memory = m } in v)) is
      ∙ sym (cond-true _ _ _ (lt-ltb address ram_end low));
  steps = ap (λ (d : Device). d.state.steps) left;
  guard = ap (λ (d : Device). d.state.guard) left;
}

-- above RAM nothing is stored
pub byte_not_stored : (state : MachineState) (address byte : ℕ) → (address < ram_end → ⊥) → IsActed (Changed (Byte address byte)) state state
byte_not_stored state address byte high = record {
  world = sym (cond-false _ _ _ above);
  steps = refl;
  guard = refl;
}
  where
    above : nat_lt address ram_end ≡ false
    above = grind (arith, nat_tests, high)

-- one entry of a log
pub acted-here : (t : Logged) (old new : MachineState) → t.position ≡ old.steps → IsActed t.action old new → IsActedBy (t ∷ []) old new
unfolding with_logged
acted-here t old new e is = record { world = is.world ∙ sym (cond-true _ _ _ (eq-eqb t.position old.steps e)); steps = is.steps; guard = is.guard }

pub acted-elsewhere : (t : Logged) (old : MachineState) → (t.position ≡ old.steps → ⊥) → IsActedBy (t ∷ []) old old
unfolding with_logged
acted-elsewhere t old ne = record { world = sym (cond-false _ _ _ (ne_eqb t.position old.steps ne)); steps = refl; guard = refl }

-- the next entry of a log
pub logged-next : (log : List Logged) (i : ℕ) (t : Logged) (old new : MachineState) → drop i log ≡ t ∷ drop (i + 1) log → IsActedBy (t ∷ []) old new
    → with_logged (drop (i + 1) log) new.steps (world_of_state new) ≡ with_logged (drop i log) old.steps (world_of_state old)
unfolding with_logged
logged-next log i t old new split is =
    ap (λ n. with_logged (drop (i + 1) log) n (world_of_state new)) is.steps
    ∙ ap (λ w. with_logged (drop (i + 1) log) old.steps w) is.world
    ∙ sym (ap (λ xs. with_logged xs old.steps (world_of_state old)) split)

pub logged-none : (n : ℕ) (w : World) → with_logged [] n w ≡ w
unfolding with_logged
logged-none n w = refl

-- What is appended to a log is done after the rest.
pub logged-append : (xs ys : List Logged) (n : ℕ) (w : World) → with_logged (xs ++ ys) n w ≡ with_logged ys n (with_logged xs n w)
unfolding with_logged
logged-append [] ys n w = refl
logged-append (t ∷ ts) ys n w = logged-append ts ys n _

-- What comes later does not matter.
pub logged-up_to : (log : List Logged) (m n : ℕ) (w : World) → n ≤ m → with_logged (up_to m log) n w ≡ with_logged log n w
unfolding with_logged
logged-up_to [] m n w l = refl
logged-up_to (t ∷ ts) m n w l = go (leb t.position m) refl (λ v. logged-up_to ts m n v l)
  where
    go : (b : Bool) → leb t.position m ≡ b → ((v : World) → with_logged (up_to m ts) n v ≡ with_logged ts n v)
        → with_logged (cond b (t ∷ up_to m ts) (up_to m ts)) n w ≡ with_logged ts n (cond (eqb t.position n) (with_action t.action w) w)
    go true e rest = rest (cond (eqb t.position n) (with_action t.action w) w)
    go false e rest =
        let above : m < t.position = leb-false t.position m e in
        let ne : t.position ≡ n → ⊥ = λ bad. omega (arith, above, bad, l) in
        rest w ∙ ap (λ v. with_logged ts n v) (sym (cond-false _ _ _ (ne_eqb t.position n ne)))

-- what is done at a position, as an entry of a log
pub logged-here : (action : Action) (n : ℕ) (w : World) → with_logged (record { position = n; action = action } ∷ []) n w ≡ with_action action w
unfolding with_logged
logged-here action n w = cond-true _ _ _ (eq-eqb n n refl)

pub logged-not_yet : (action : Action) (m n : ℕ) (w : World) → n < m → with_logged (record { position = m; action = action } ∷ []) n w ≡ w
unfolding with_logged
logged-not_yet action m n w l = cond-false _ _ _ (ne_eqb m n (λ e. omega (arith, e, l)))

pub logged-past : (action : Action) (m n : ℕ) (w : World) → m < n → with_logged (record { position = m; action = action } ∷ []) n w ≡ w
unfolding with_logged
logged-past action m n w l = cond-false _ _ _ (ne_eqb m n (λ e. omega (arith, e, l)))

-- the log after an entry was added
pub noted : (course : Course) (origin : MachineState) (log kept new : List Logged) (p n : ℕ) (action : Action)
    → (let seen : Course = record { origin = origin; log = log } in seen) ≡ course
    → kept ≡ up_to p log → new ≡ kept ++ record { position = p; action = action } ∷ [] → p ≡ n
    → (let seen : Course = record { origin = origin; log = new } in seen) ≡ with_done n action course
noted course origin log kept new p n action view filtered is at =
    ap (λ (xs : List Logged). (let seen : Course = record { origin = origin; log = xs } in seen))
    (is ∙ ap (λ (xs : List Logged). xs ++ record { position = p; action = action } ∷ []) filtered
    ∙ ap (λ (m : ℕ). up_to m log ++ record { position = m; action = action } ∷ []) at)
    ∙ ap (λ (k : Course). with_done n action k) view
