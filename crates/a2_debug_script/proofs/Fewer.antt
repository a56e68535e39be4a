-- No step makes more keys wait.
use Rattle.std.specs.Prelude.{◌≡◌, ℕ, ◌≤◌, length, refl}
use Rattle.std.proofs.Common.{ap, arith}
use Rattle.a2_opcode.specs.declared.Row.{Row}
use Rattle.a2_bus.proofs.Relating.{IsSimulation}
use Rattle.a2_bus.specs.Devices.{Devices, after_access}
use Rattle.a2_bus.specs.Memory.{Memory, memory_access}
use Rattle.a2_effect.specs.Instruction.{Alike, performed}
use Rattle.a2_cpu.proofs.Simulation.{performed-alike}
use Rattle.a2_services.specs.declared.rows.Service.{Service}
use Rattle.a2_services.specs.World.{World}
use Rattle.a2_services.proofs.Effects.{served_fewer}
use Rattle.a2_services.proofs.Lines.{ram_devices}
use Rattle.a2_machine.specs.Meaning.{Code, Decoded, next_at, next}

-- the number of keys that are waiting
abbrev pub waiting : Memory → ℕ
waiting memory = length memory.devices.keys

access_fewer : (d : Devices) (a : ℕ) → length (after_access d a).keys ≤ length d.keys
access_fewer d a = grind arith

read_fewer : (m : Memory) (a : ℕ) → waiting (memory_access.after_read m a) ≤ waiting m
unfolding memory_access
read_fewer m a = let access = access_fewer m.devices a in grind arith

write_fewer : (m : Memory) (a b : ℕ) → waiting (memory_access.after_write m a b) ≤ waiting m
unfolding memory_access
write_fewer m a b =
    let access = access_fewer m.devices a in
    let stored = ap (λ (d : Devices). length d.keys) (ram_devices m a b) in
    grind arith

-- two equal memories, with at most this many keys waiting
record Same (most : ℕ) (m n : Memory) : Type 0 where
  same : m ≡ n
  few : waiting m ≤ most

same_simulation : (most : ℕ) → IsSimulation (Same most) memory_access memory_access
same_simulation most = record {
  same_byte = λ m n a h. ap (λ x. memory_access.byte_at x a) h.same;
  kept_by_read = λ m n a h. record { same = ap (λ x. memory_access.after_read x a) h.same; few = omega (arith, read_fewer m a, h.few) };
  kept_by_write = λ m n a b h. record { same = ap (λ x. memory_access.after_write x a b) h.same; few = omega (arith, write_fewer m a b, h.few) };
}

performed_fewer : (row : Row) (value : ℕ) (w : World) → waiting (performed memory_access row value w).memory ≤ waiting w.memory
performed_fewer row value w =
    let start : Alike (Same (waiting w.memory)) w w =
    record { registers = refl; cycles = refl; memory = record { same = refl; few = omega arith } } in
    (performed-alike (Same (waiting w.memory)) memory_access memory_access (same_simulation (waiting w.memory)) row value w w start).memory.few

pub next_fewer : (code : Code) (w : World) → waiting (next code w).memory ≤ waiting w.memory
unfolding next next_at
next_fewer code w =
    let serve = λ (service : Service). served_fewer service w in
    let perform = λ (d : Decoded). performed_fewer d.row d.value w in
    grind arith
