-- If all parts are known, states that are near are alike; this gives the laws for reads only.
use Rattle.std.specs.Prelude.{◌≡◌, ℕ, zero, suc, Bool, true, IsTrue, List, [], ◌∷◌, refl}
use Rattle.std.specs.List.{list_any}
use Rattle.std.proofs.Common.{ap}
use Rattle.a2_effect.specs.Instruction.{Alike}
use Rattle.a2_effect.specs.Registers.{Registers}
use Rattle.a2_services.specs.World.{World}
use Rattle.a2_machine.specs.Meaning.{Code, world_at}
use Rattle.a2_footprint.specs.Reads.{AgreeOn, Knows}
use Rattle.a2_footprint.specs.declared.Part.{Part}
use Rattle.a2_footprint.specs.declared.Part.TheVariants.{A as part_a, X as part_x, Y as part_y, N as part_n, V as part_v, D as part_d, I as part_i, Z as part_z, C as part_c}
use Rattle.a2_footprint.specs.Parts.{held, is_part, MatchAt, with_parts}
use Rattle.a2_footprint.specs.Runs.{InstructionsDependOnReads, StepsDependOnReads, RunsDependOnReads}
use Rattle.a2_footprint.specs.Uses.{Near, step_sets, parts_known_after}
use Rattle.a2_footprint.proofs.Agreeing.{among_or}
use Rattle.a2_footprint.proofs.Running.{instruction, step, runs}

-- all parts are known
abbrev All : (Part → Bool) → Type 0
All k = (p : Part) → IsTrue (k p)

every : Part → Bool
every p = true

every-all : All every
unfolding every
every-all p = refl

knows : (k : Part → Bool) (ps : List Part) → All k → Knows k ps
knows k [] all = tt
knows k (p ∷ ps) all = (all p, knows k ps all)

with_parts-all : (more : List Part) (k : Part → Bool) → All k → All (with_parts more k)
with_parts-all more k all p = among_or (list_any (is_part p) more) (k p) (all p)

following-all : (code : Code) (k : Part → Bool) (s : World) (n : ℕ) → All k → All (parts_known_after code k s n)
unfolding parts_known_after
following-all code k s zero all = all
following-all code k s (suc n) all = with_parts-all (step_sets code (world_at code s n)) (parts_known_after code k s n) (following-all code k s n all)

near : (known : ℕ → Bool) (s t : World) → Alike (AgreeOn known) s t → Near every (AgreeOn known) s t
near known s t h = record {
  registers = record { s = ap (λ r. r.s) h.registers; pc = ap (λ r. r.pc) h.registers; parts = λ p _. ap (λ r. held p r) h.registers };
  cycles = h.cycles;
  memory = h.memory;
}

same_registers : (k : Part → Bool) (r q : Registers) → All k → MatchAt k r q → r ≡ q
same_registers k r q all h = λ j. record {
  a = h.parts part_a (all part_a) j;
  x = h.parts part_x (all part_x) j;
  y = h.parts part_y (all part_y) j;
  s = h.s j;
  pc = h.pc j;
  flags = record {
    n = h.parts part_n (all part_n) j;
    v = h.parts part_v (all part_v) j;
    d = h.parts part_d (all part_d) j;
    i = h.parts part_i (all part_i) j;
    z = h.parts part_z (all part_z) j;
    c = h.parts part_c (all part_c) j;
  };
}

alike : (k : Part → Bool) (known : ℕ → Bool) (s t : World) → All k → Near k (AgreeOn known) s t → Alike (AgreeOn known) s t
alike k known s t all h = record { registers = same_registers k s.registers t.registers all h.registers; cycles = h.cycles; memory = h.memory }

pub instructions : InstructionsDependOnReads
instructions row value known s t h reads =
    let law =
    instruction row value every known s t (near known s t h) (knows every _ every-all) (knows every _ every-all) reads in
    (alike _ _ _ _ (with_parts-all _ every every-all) law.0, law.1)

pub steps : StepsDependOnReads
steps code known s t h reads =
    let law = step code every known s t (near known s t h) reads (knows every _ every-all) in
    (law.0, alike _ _ _ _ (with_parts-all _ every every-all) law.1, law.2)

pub runs_by_reads : RunsDependOnReads
runs_by_reads code known s t n h reads =
    let law =
    runs code every known s t n (near known s t h) reads (λ m lt. knows (parts_known_after code every s m) _ (following-all code every s m every-all)) in
    (alike _ _ _ _ (following-all code every s n every-all) law.0, law.1)
