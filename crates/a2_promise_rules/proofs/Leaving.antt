-- The bytes that routines and services leave unchanged, and the keys that they take.
use Rattle.std.specs.Prelude.{◌≡◌, ℕ, Bool, true, false, List, [], ◌∷◌, ◌++◌, refl}
use Rattle.std.specs.List.{list_all}
use Rattle.std.proofs.Common.{sym, ap, ◌∙◌, append_assoc, append-nil}
use Rattle.a2_bus.specs.Devices.{Devices}
use Rattle.a2_bus.specs.Memory.{Memory, ram_byte}
use Rattle.a2_services.specs.World.{World}
use Rattle.a2_theorems.specs.Routines.{Keeps, entered}
use Rattle.a2_theorems.proofs.Keeping.{after_stores, kept}

-- each byte of RAM is unchanged, except at these addresses; and these keys were taken, in this order
pub record Leaves (memory : Memory) (changed : ℕ → Bool) (taken : List ℕ) (last : World) : Type 0 where
  pub bytes : (a : ℕ) → changed a ≡ false → ram_byte last.memory a ≡ ram_byte memory a
  pub keys : memory.devices.keys ≡ taken ++ last.memory.devices.keys

-- at its entry a routine has changed nothing
pub leaves_all : (memory : Memory) (changed : ℕ → Bool) → Leaves memory changed [] (entered 0 memory)
leaves_all memory changed = record { bytes = λ a h. refl; keys = refl }

-- the bytes that later stores leave unchanged, of those that were unchanged until then
pub leaves_stores : (stores : List (ℕ × ℕ)) (memory : Memory) (changed : ℕ → Bool) (taken : List ℕ) (w v : World)
    → list_all (λ s. changed s.0) stores ≡ true → v.memory ≡ after_stores stores w.memory → Leaves memory changed taken w
    → Leaves memory changed taken v
leaves_stores stores memory changed taken w v all is rest =
    let same : Keeps w.memory changed v = kept stores w.memory changed v all is in
    record {
      bytes = λ a h. same.bytes a h ∙ rest.bytes a h;
      keys = rest.keys ∙ ap (λ (d : Devices). taken ++ d.keys) (sym same.devices);
    }

-- the bytes that the stores of a routine leave unchanged
pub leaves : (stores : List (ℕ × ℕ)) (memory : Memory) (changed : ℕ → Bool) (v : World) → list_all (λ s. changed s.0) stores ≡ true
    → v.memory ≡ after_stores stores memory → Leaves memory changed [] v
leaves stores memory changed v all is = leaves_stores stores memory changed [] (entered 0 memory) v all is (leaves_all memory changed)

-- the same for other names of what may change and of the keys
pub leaves_as : (memory : Memory) (changed : ℕ → Bool) (taken : List ℕ) (v : World) → Leaves memory changed taken v
    → Leaves memory changed taken v
leaves_as memory changed taken v it = it

-- Keys that wait

-- these keys wait first
abbrev pub Waits : List ℕ → World → Type 0
Waits keys w = (rest : List ℕ) × (w.memory.devices.keys ≡ keys ++ rest)

-- the keys after the first one
abbrev keys_after_first : List ℕ → List ℕ
keys_after_first [] = []
keys_after_first (key ∷ keys) = keys

-- the keys that wait after those that were taken
same_behind : (taken one other : List ℕ) → taken ++ one ≡ taken ++ other → one ≡ other
same_behind [] one other same = same
same_behind (key ∷ taken) one other same = same_behind taken one other (ap keys_after_first same)

pub still : (taken first more : List ℕ) (memory : Memory) (changed : ℕ → Bool) (v : World)
    → (rest : List ℕ) × (memory.devices.keys ≡ (taken ++ (first ++ more)) ++ rest) → Leaves memory changed taken v → Waits first v
still taken first more memory changed v (rest, waits) it = (
  more ++ rest,
  same_behind taken v.memory.devices.keys (first ++ (more ++ rest))
      (sym it.keys ∙ waits ∙ append_assoc taken (first ++ more) rest ∙ ap (λ keys. taken ++ keys) (append_assoc first more rest)),
)

-- if exactly these keys wait
pub waits_all : (keys : List ℕ) (w : World) → w.memory.devices.keys ≡ keys → Waits keys w
waits_all keys w is = ([], is ∙ sym (append-nil keys))

-- if all keys were taken, none waits
pub none_waits : (keys : List ℕ) (memory : Memory) (changed : ℕ → Bool) (v : World) → memory.devices.keys ≡ keys
    → Leaves memory changed keys v → v.memory.devices.keys ≡ []
none_waits keys memory changed v is it =
    same_behind keys v.memory.devices.keys [] (sym it.keys ∙ is ∙ sym (append-nil keys))
