-- The memories that services leave in two worlds that agree in everything the services use.
use Rattle.std.specs.Prelude.{◌≡◌, ℕ, Bool, true, List, [], refl}
use Rattle.std.proofs.Common.{sym, ◌∙◌, subst₂}
use Rattle.a2_bus.specs.Memory.{Memory}
use Rattle.a2_services.specs.declared.rows.Service.{Service}
use Rattle.a2_services.specs.declared.rows.Service.TheVariants.{Cout, Crout, Rdkey, Wait}
use Rattle.a2_services.specs.Services.{fits, effect, back, with_memory, with_a}
use Rattle.a2_services.specs.World.{World}
use Rattle.a2_services.proofs.Counting.{returned_devices}
use Rattle.a2_footprint.specs.declared.Part.{Part}
use Rattle.a2_footprint.specs.Reads.{AgreeOn, Knows}
use Rattle.a2_footprint.specs.Services.{service_needs, service_reads, service_stores}
use Rattle.a2_footprint.specs.Uses.{Near}
use Rattle.a2_footprint.proofs.Storing.{Stored, stored_none}

-- The effect of a service in two worlds that agree in everything it uses. It fits in the second world too, it stores at
-- the same addresses in both, and the memories then agree at those addresses.
abbrev pub StoresAlike : Service → Type 0
StoresAlike service =
    (parts : Part → Bool) (known : ℕ → Bool) (s t : World) → Near parts (AgreeOn known) s t
    → fits service s.registers s.memory ≡ true → Knows parts (service_needs service) → Knows known (service_reads service s)
    → (fits service t.registers t.memory ≡ true)
    × Stored known (service_stores service s) s.memory t.memory (effect service s).memory (effect service t).memory
    × (service_stores service s ≡ service_stores service t)

-- the return keeps the memories that a service left
pub left_alike : (known : ℕ → Bool) (stores : List ℕ) (s t : World) (m n k : Memory) → Stored known stores s.memory t.memory m n → n ≡ k
    → Stored known stores s.memory t.memory (back (with_memory m s)).memory (back (with_memory k t)).memory
left_alike known stores s t m n k h same =
    let P : Memory → Memory → Type 0 = λ x y. Stored known stores s.memory t.memory x y in
    subst₂ P (sym (returned_devices (with_memory m s))) (same ∙ sym (returned_devices (with_memory k t))) h

-- the same for worlds in which a service also changed the registers
pub back_alike : (known : ℕ → Bool) (stores : List ℕ) (s t v w : World) → Stored known stores s.memory t.memory v.memory w.memory
    → Stored known stores s.memory t.memory (back v).memory (back w).memory
back_alike known stores s t v w h =
    let P : Memory → Memory → Type 0 = λ x y. Stored known stores s.memory t.memory x y in
    subst₂ P (sym (returned_devices v)) (sym (returned_devices w)) h

-- Services that store nothing

pub wait_law : StoresAlike Wait
unfolding effect service_stores
wait_law parts known s t h fit looks reads =
    (refl, back_alike known [] s t (with_a 0 s) (with_a 0 t) (stored_none known s.memory t.memory h.memory), refl)

-- hooks are jumps

pub cout_law : StoresAlike Cout
unfolding effect service_stores
cout_law parts known s t h fit looks reads = (refl, stored_none known s.memory t.memory h.memory, refl)

pub crout_law : StoresAlike Crout
unfolding effect service_stores
crout_law parts known s t h fit looks reads = (refl, stored_none known s.memory t.memory h.memory, refl)

pub rdkey_law : StoresAlike Rdkey
unfolding effect service_stores
rdkey_law parts known s t h fit looks reads = (refl, stored_none known s.memory t.memory h.memory, refl)
