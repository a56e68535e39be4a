-- Calls of subroutines, either the author's or services: each call is one part of a run.
use Rattle.std.specs.Prelude.{◌≡◌, ℕ, ◌+◌, ◌*◌, ◌%◌, ◌==◌, Bool, true, false, List, Some, None, refl}
use Rattle.std.specs.List.{list_all}
use Rattle.std.proofs.Common.{◌∙◌, subst}
use Rattle.a2_text.specs.Bytes.{is_among}
use Rattle.a2_bus.specs.Memory.{Memory, ram_byte}
use Rattle.a2_services.specs.declared.rows.Service.{Service}
use Rattle.a2_services.specs.Services.{service_at, served}
use Rattle.a2_services.specs.World.{World}
use Rattle.a2_machine.specs.Meaning.{Code, return_address, service_cause}
use Rattle.a2_machine.proofs.Walks.{walked, Leads, and_then}
use Rattle.a2_theorems.specs.Routines.{Keeps, entered}
use Rattle.a2_theorems.proofs.Keeping.{after_stores, keeps_on, keeps_stores}
use Rattle.a2_theorems.proofs.Places.{At, put, from, along}
use Rattle.a2_theorems.proofs.Stepping.{serve}

-- the address to which the RTS of a subroutine returns if it was entered with this S: after the call, given by the two
-- bytes above S
abbrev pub return_of : (s : ℕ) → World → ℕ
return_of s w = (ram_byte w.memory (0x101 + s) + 256 * ram_byte w.memory (0x102 + s) + 1) % 65536

-- back at that address, with S as before the call
abbrev pub Back : (s : ℕ) (entered w : World) → Type 0
Back s entered w = (w.registers.pc ≡ return_of s entered) × (w.registers.s ≡ s + 2) × (w.registers.flags.d ≡ false)

-- The effect of a subroutine at an address: if it is entered with this S in a world in which `Before` holds, it returns
-- after this many steps, and then `After` holds
abbrev pub Subroutine : Code → (to s steps : ℕ) → (Before : World → Type 0) → (After : World → World → Type 0) → Type 0
Subroutine code to s steps Before After =
    (entered : World) (z : Bool) → Before entered → Leads code (put to s z entered) steps (λ w. Back s entered w × After entered w)

-- A call: a part that ends with a JSR, the subroutine, and what follows after the call
pub calls : (code : Code) (to s steps : ℕ) (Before : World → Type 0) (After : World → World → Type 0)
    → Subroutine code to s steps Before After → (w entered : World) (next m n all : ℕ) (Q : World → Type 0) → m + (steps + n) ≡ all
    → walked code w m ≡ Some entered → At to s entered.registers.flags.z entered → return_of s entered ≡ next → Before entered
    → ((v : World) (z : Bool) → After entered v → Leads code (put next (s + 2) z v) n Q) → Leads code w all Q
calls code to s steps Before After does w entered next m n all Q are walk at home before later =
    subst (λ k. Leads code w k Q) are
    (along code w entered m (steps + n) Q walk
    (and_then code entered steps n (λ v. Back s entered v × After entered v) Q
    (from code to s entered.registers.flags.z entered steps _ at (does entered entered.registers.flags.z before)) (λ v h. following v h)))
  where
    following : (v : World) → Back s entered v × After entered v → Leads code v n Q
    following v ((pc, is_s, d), after) =
        from code next (s + 2) v.registers.flags.z v n Q (pc ∙ home, is_s, d, refl) (later v v.registers.flags.z after)

-- what is unchanged after a call, given the stores before it, those of its JSR, and those of the subroutine
pub keeps_call : (stores : List (ℕ × ℕ)) (ns : List ℕ) (memory middle : Memory) (changed : ℕ → Bool) (w v : World)
    → Keeps middle (is_among ns) v → middle ≡ after_stores stores w.memory
    → list_all (λ s. changed s.0) stores ≡ true → list_all changed ns ≡ true
    → Keeps memory changed w → Keeps memory changed v
keeps_call stores ns memory middle changed w v own is stored all rest =
    keeps_on memory middle changed ns v own all (keeps_stores stores memory changed w (entered 0 middle) stored is rest)

-- A service is a subroutine of one step, if it is not stuck
pub serves : (code : Code) (service : Service) (to s : ℕ) (Before : World → Type 0) (After : World → World → Type 0)
    → service_at to ≡ Some service → (to == return_address) ≡ false
    → ((entered : World) (z : Bool) → Before entered → service_cause code.protected service (put to s z entered) ≡ None)
    → ((entered : World) (z : Bool) → Before entered
    → Back s entered (served service (put to s z entered)) × After entered (served service (put to s z entered)))
    → Subroutine code to s 1 Before After
serves code service to s Before After here away free done entered z before =
    (_, serve code (put to s z entered) service here away (free entered z before), done entered z before)
