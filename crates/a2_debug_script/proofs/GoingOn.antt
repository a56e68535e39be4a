-- Steps towards a halt.
use Rattle.std.proofs.Common.{◌≡◌, ℕ, zero, suc, ◌+◌, ◌<◌, ◌≤◌, Bool, true, false, List, Option, Some, None, refl, arith, ◌∙◌, zero-add, suc-add, add-zero, add-suc, add-one}
use Rattle.a2_text.specs.Bytes.{is_among}
use Rattle.a2_asm.specs.Assembled.{Assembled}
use Rattle.a2_machine.specs.declared.causes.Cause.{Cause}
use Rattle.a2_machine.specs.declared.causes.Cause.TheVariants.{Limit}
use Rattle.a2_machine.specs.Meaning.{stuck}
use Rattle.a2_debug_script.specs.Worlds.{guarded_code}
use Rattle.a2_debug_script.specs.declared.Halt.{Halt}
use Rattle.a2_debug_script.specs.declared.Halt.TheVariants.{Stopped, Break}
use Rattle.a2_debug_script.specs.Session.{Session, Halted, appended, advanced}

abbrev pub ends : Session → Halt → Halted
ends session halt = record { session = session; halt = halt }

module _ (program : Assembled) (marks : List ℕ) where
  pub goes_on : (m : ℕ) (s : Session) → stuck (guarded_code program) s.last ≡ None → is_among marks (appended program s).last.registers.pc ≡ false
      → advanced program marks (suc m) s ≡ advanced program marks m (appended program s)
  unfolding advanced
  goes_on m s free unmarked = grind arith

  pub stops_marked : (m : ℕ) (s : Session) → stuck (guarded_code program) s.last ≡ None → is_among marks (appended program s).last.registers.pc ≡ true
      → advanced program marks (suc m) s ≡ ends (appended program s) Break
  unfolding advanced
  stops_marked m s free marked = grind arith

  pub stops_stuck : (m : ℕ) (s : Session) (cause : Cause) → stuck (guarded_code program) s.last ≡ Some cause
      → advanced program marks m s ≡ ends s (Stopped cause)
  unfolding advanced
  stops_stuck zero s cause found = grind arith
  stops_stuck (suc m) s cause found = grind arith

  pub stops_last : (s : Session) → stuck (guarded_code program) s.last ≡ None → advanced program marks 0 s ≡ ends s (Stopped Limit)
  unfolding advanced
  stops_last s free = grind arith

  -- steps through sessions, each of which is the one before with one more world
  module _ (at : ℕ → Session) (on : (k : ℕ) → at (suc k) ≡ appended program (at k)) where
    -- no world is stuck or at a mark
    pub over : (k more : ℕ) → ((i : ℕ) → i < k → stuck (guarded_code program) (at i).last ≡ None)
        → ((i : ℕ) → i < k → is_among marks (at (suc i)).last.registers.pc ≡ false)
        → advanced program marks (k + more) (at 0) ≡ advanced program marks more (at k)
    over zero more free off = rw zero-add
    over (suc k) more free off =
        let before = over k (suc more) (λ i l. free i (omega (arith, l))) (λ i l. off i (omega (arith, l))) in
        let step = goes_on more (at k) (free k (omega arith)) (rw on at (off k (omega arith))) in
        rw (suc-add, on) (rw add-suc at before ∙ step)

    -- after some number of steps, the session is the one that all the steps lead to
    pub reached : (m j : ℕ) → (k : ℕ) × (k ≤ m) × ((advanced program marks m (at j)).session ≡ at (j + k))
    unfolding advanced
    reached zero j = (0, omega arith, rw add-zero)
    reached (suc m) j = go (stuck (guarded_code program) (at j).last) refl (is_among marks (at (suc j)).last.registers.pc) refl (reached m (suc j))
      where
        go : (o : Option Cause) → stuck (guarded_code program) (at j).last ≡ o → (b : Bool) → is_among marks (at (suc j)).last.registers.pc ≡ b
            → (k : ℕ) × (k ≤ m) × ((advanced program marks m (at (suc j))).session ≡ at (suc j + k))
            → (k : ℕ) × (k ≤ suc m) × ((advanced program marks (suc m) (at j)).session ≡ at (j + k))
        go (Some cause) e b f _ = (0, omega arith, rw (stops_stuck (suc m) (at j) cause e, add-zero))
        go None e true f _ = (1, omega arith, rw (stops_marked m (at j) e (rw on at f), add-one, on))
        go None e false f (k, le, is) = (suc k, omega (arith, le), rw (goes_on m (at j) e (rw on at f), ← on, add-suc) (rw suc-add at is))

    -- the last world is at a mark
    pub to_mark : (k more : ℕ) → ((i : ℕ) → i < suc k → stuck (guarded_code program) (at i).last ≡ None)
        → ((i : ℕ) → i < k → is_among marks (at (suc i)).last.registers.pc ≡ false)
        → is_among marks (at (suc k)).last.registers.pc ≡ true → advanced program marks (k + suc more) (at 0) ≡ ends (at (suc k)) Break
    to_mark k more free off marked =
        rw on (over k (suc more) (λ i l. free i (omega (arith, l))) off ∙ stops_marked more (at k) (free k (omega arith)) (rw on at marked))
