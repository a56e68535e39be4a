-- A part of a run may need only the address, S and Z of its world; and parts can be put together.
use Rattle.std.specs.Prelude.{◌≡◌, ℕ, suc, ◌+◌, ◌*◌, Bool, false, Some}
use Rattle.std.proofs.Common.{sym, subst}
use Rattle.a2_bus.specs.Memory.{Memory}
use Rattle.a2_services.specs.World.{World}
use Rattle.a2_machine.specs.Meaning.{Code}
use Rattle.a2_machine.proofs.Walks.{walked, Leads, then, and_then, rounds}

-- the world is at an address, with this S and this Z, and D is clear
abbrev pub At : (pc s : ℕ) (z : Bool) → World → Type 0
At pc s z w = (w.registers.pc ≡ pc) × (w.registers.s ≡ s) × (w.registers.flags.d ≡ false) × (w.registers.flags.z ≡ z)

-- a world with this address, S and Z
abbrev pub put : (pc s : ℕ) (z : Bool) → World → World
put pc s z w = record w { registers = record w.registers { pc = pc; s = s; flags = record w.registers.flags { d = false; z = z } } }

-- if a world with this address, S and Z leads somewhere, so does a world that already has them
pub from : (code : Code) (pc s : ℕ) (z : Bool) (w : World) (n : ℕ) (Q : World → Type 0) → At pc s z w → Leads code (put pc s z w) n Q
    → Leads code w n Q
from code pc s z w n Q (at, is_s, d, is_z) leads = subst (λ v. Leads code v n Q) same leads
  where
    same : put pc s z w ≡ w
    same = λ i. record w {
      registers = record w.registers {
        pc = sym at i;
        s = sym is_s i;
        flags = record w.registers.flags { d = sym d i; z = sym is_z i };
      };
    }

-- a memory that is known can replace the world's
pub in_memory : (code : Code) (memory : Memory) (w : World) (n : ℕ) (Q : World → Type 0) → w.memory ≡ memory
    → Leads code (record w { memory = memory }) n Q → Leads code w n Q
in_memory code memory w n Q same leads = subst (λ v. Leads code v n Q) (λ i. record w { memory = sym same i }) leads

-- a part that is computed: the world in which it ends, and what holds there, as two facts
pub ends : (code : Code) (w v : World) (n : ℕ) (P Q : World → Type 0) → walked code w n ≡ Some v → P v → Q v
    → Leads code w n (λ u. P u × Q u)
ends code w v n P Q walk at holds = (v, walk, (at, holds))

-- one part after another, with the world between them
pub along : (code : Code) (w v : World) (m n : ℕ) (Q : World → Type 0) → walked code w m ≡ Some v → Leads code v n Q
    → Leads code w (m + n) Q
along code w v m n Q walk (u, more, holds) = (u, then code w v u m n walk more, holds)

-- a part, a step for which a rule gives the next world, and what follows
pub stepping : (code : Code) (w v u : World) (m n : ℕ) (Q : World → Type 0) → walked code w m ≡ Some v → walked code v 1 ≡ Some u
    → Leads code u n Q → Leads code w (m + (1 + n)) Q
stepping code w v u m n Q walk step leads = along code w v m (1 + n) Q walk (along code v u 1 n Q step leads)

-- what holds at the end of a part, derived from what is known about it
pub so : (code : Code) (w : World) (n : ℕ) (P Q : World → Type 0) → Leads code w n P → ((v : World) → P v → Q v) → Leads code w n Q
so code w n P Q (v, walk, holds) then = (v, walk, then v holds)

-- a loop: its beginning, rounds that count down to 0, and its end
pub counted : (code : Code) (P : ℕ → World → Type 0) (Q : World → Type 0) (n begin round end steps : ℕ) (w : World)
    → begin + (n * round + end) ≡ steps → Leads code w begin (P n) → ((k : ℕ) (v : World) → P (suc k) v → Leads code v round (P k))
    → ((v : World) → P 0 v → Leads code v end Q) → Leads code w steps Q
counted code P Q n begin round end steps w are first once last =
    subst (λ k. Leads code w k Q) are
    (and_then code w begin (n * round + end) (P n) Q first
    (λ v h. and_then code v (n * round) end (P 0) Q (rounds code P round once n v h) last))
