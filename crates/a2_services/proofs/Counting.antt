-- No service adds a key.
use Rattle.std.specs.Prelude.{◌≡◌, ℕ, ◌+◌, ◌≤◌, ◌==◌, Bool, true, false, if◌then◌else◌, List, [], ◌∷◌, length, refl}
use Rattle.std.proofs.Common.{ap, ◌∙◌, arith}
use Rattle.a2_bus.specs.Devices.{Devices, key_taken}
use Rattle.a2_bus.specs.Memory.{Memory, with_ram, memory_access}
use Rattle.a2_effect.specs.Instruction.{returned}
use Rattle.a2_services.specs.World.{World}
use Rattle.a2_services.specs.Put.{after_put, with_base_address}
use Rattle.a2_services.specs.Services.{Reading, byte_of_key, after_byte, line_read, with_key_taken, cleared_to_end, back, output, with_memory}
use Rattle.a2_services.specs.Reading.{reading, kept}
use Rattle.a2_services.proofs.Lines.{ram_devices, put_devices, after_byte_devices}
use Rattle.a2_services.proofs.Returning.{returned_is}

pub fewer_taken : (d : Devices) → length (key_taken d).keys ≤ length d.keys
fewer_taken d = go d.keys refl
  where
    go : (keys : List ℕ) → d.keys ≡ keys → length (elim keys as (λ _. Devices) [ [] ↦ d | k ∷ rest ↦ record d { keys = rest; last_key = k } ]).keys ≤ length d.keys
    go [] e = omega arith
    go (k ∷ rest) e = omega (arith, ap (λ (l : List ℕ). length l) e)

fewer_kept : (m : Memory) (len byte : ℕ) → length (kept m len byte).devices.keys ≤ length m.devices.keys
fewer_kept m len byte = omega (arith, ap (λ (d : Devices). length d.keys) (ram_devices (with_key_taken m) (0x200 + len) byte), fewer_taken m.devices)

pub cleared_devices : (m : Memory) → (cleared_to_end m).devices ≡ m.devices
unfolding cleared_to_end
cleared_devices m = refl

-- a line that leaves no more keys than there were
pub record Fewer (n : ℕ) (line : Reading) : Type 0 where
  pub is : length line.memory.devices.keys ≤ n

pub fewer_read : (n : ℕ) (keys : List ℕ) (line : Reading) → length line.memory.devices.keys ≤ n → Fewer n (line_read keys line)
unfolding line_read
fewer_read n [] line h = record { is = h }
fewer_read n (key ∷ keys) line h = go (byte == 0x8D) (λ next. fewer_read n keys next)
  where
    byte : ℕ
    byte = byte_of_key line.memory key

    noted : Memory
    noted = kept line.memory line.len byte

    stored : length noted.devices.keys ≤ n
    stored = omega (arith, fewer_kept line.memory line.len byte, h)

    go : (v : Bool) → ((next : Reading) → length next.memory.devices.keys ≤ n → Fewer n (line_read keys next))
        → Fewer n (if v then reading (after_put 0x8D (cleared_to_end noted)) line.len else line_read keys (after_byte byte (reading noted line.len)))
    go true rest = record { is = omega (arith, ap (λ (d : Devices). length d.keys) (put_devices 0x8D (cleared_to_end noted) ∙ cleared_devices noted), stored) }
    go false rest =
        rest (after_byte byte (reading noted line.len))
        (omega (arith, ap (λ (d : Devices). length d.keys) (after_byte_devices byte (reading noted line.len)), stored))

pub base_devices : (m : Memory) → (with_base_address m).devices ≡ m.devices
unfolding with_base_address
base_devices m = ram_devices (with_ram m 0x28 _) 0x29 _ ∙ ram_devices m 0x28 _

pub returned_devices : (w : World) → (returned memory_access w).memory ≡ w.memory
returned_devices w = ap (λ (x : World). x.memory) (returned_is w)

pub same_fewer : (d e : Devices) → d ≡ e → length d.keys ≤ length e.keys
same_fewer d e h = omega (arith, ap (λ (x : Devices). length x.keys) h)

pub output_devices : (m : Memory) (w : World) → (back (output m w)).memory.devices ≡ m.devices
output_devices m w = ap (λ (x : Memory). x.devices) (returned_devices (output m w)) ∙ base_devices m

-- a service that leaves a memory and returns
pub left_devices : (m : Memory) (w : World) → (back (with_memory m w)).memory.devices ≡ m.devices
left_devices m w = ap (λ (x : Memory). x.devices) (returned_devices (with_memory m w))
