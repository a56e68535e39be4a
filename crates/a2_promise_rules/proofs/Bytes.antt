-- A walk over the statements of a program is the run of the bytes in memory, if these are the program's bytes.
use Rattle.std.specs.Prelude.{◌≡◌, ◌<◌, ℕ, zero, suc, ◌==◌, Bool, true, false, List, [], ◌∷◌, if◌then◌else◌, Option, Some, None, Result, Ok, Err, is_some, unwrap_or, refl}
use Rattle.std.specs.List.{list_any}
use Rattle.std.proofs.Common.{sym, ap, ap₂, ◌∙◌, arith, true≢false}
use Rattle.a2_text.specs.Bytes.{is_among}
use Rattle.a2_bus.specs.Memory.{memory_access, peek}
use Rattle.a2_opcode.specs.Encoding.{fetched}
use Rattle.a2_asm.specs.Assembled.{Assembled}
use Rattle.a2_asm.specs.Programs.{instr_at, IsSound}
use Rattle.a2_cpu.specs.BusStep.{Refusal, refusal_of}
use Rattle.a2_effect.specs.Instruction.{performed}
use Rattle.a2_cpu.specs.Stores.{stores_of}
use Rattle.a2_services.specs.declared.rows.Service.{Service}
use Rattle.a2_services.specs.World.{World}
use Rattle.a2_services.specs.Services.{service_at, reach, served}
use Rattle.a2_machine.specs.declared.causes.Cause.{Cause}
use Rattle.a2_machine.specs.declared.causes.Cause.TheVariants.{Returned, CodeWrite, OffStatement}
use Rattle.a2_machine.specs.Meaning.{Code, Decoded, cause_of_cpu_error, found_at_pc, instruction_cause, next, next_at, service_cause, statements, stuck, stuck_at, world_at}
use Rattle.a2_machine.specs.ByteRun.{bytes, decoded_or_cause}
use Rattle.a2_machine.specs.Guarded.{HoldsCode}
use Rattle.a2_machine.specs.ProgramGuard.{guard_of_program}
use Rattle.a2_machine.proofs.GuardedRuns.{next-keeps_code}
use Rattle.a2_machine.proofs.Laid.{laid_by, same-code}
use Rattle.a2_machine.proofs.Walks.{walked}

-- A step

never : {X Y : Type 0} (x : X) → Some x ≡ None → Y
never x e = absurd (true≢false (ap is_some e))

-- a step that is not stuck when code is protected is not stuck without the protection
otherwise : (forbidden : Bool) (cause : Cause) (rest : Option Cause) → (if forbidden then Some cause else rest) ≡ None → rest ≡ None
otherwise true cause rest h = never cause h
otherwise false cause rest h = h

unstored : (why : Option Refusal) (forbidden : Bool)
    → (let c : Option Cause = elim why [ Some w ↦ Some (cause_of_cpu_error w) | None ↦ if forbidden then Some CodeWrite else None ] in c) ≡ None
    → why ≡ None
unstored (Some w) forbidden h = never (cause_of_cpu_error w) h
unstored None forbidden h = refl

nothing_stored : (ns : List ℕ) → list_any (is_among []) ns ≡ false
nothing_stored [] = refl
nothing_stored (n ∷ ns) = nothing_stored ns

free_instruction : (protected : List ℕ) (decoded : Decoded) (w : World) → instruction_cause protected decoded w ≡ None
    → instruction_cause [] decoded w ≡ None
free_instruction protected decoded w h =
    ap₂ (λ why stored. let c : Option Cause = elim why [ Some r ↦ Some (cause_of_cpu_error r) | None ↦ if stored then Some CodeWrite else None ] in c)
    (unstored (refusal_of decoded.row.mnemonic w.registers.flags) (list_any (is_among protected) (stores_of memory_access decoded.row decoded.value w)) h)
    (nothing_stored (stores_of memory_access decoded.row decoded.value w))

-- a step of what is found at an address where an instruction may begin
record SameStep (protected : List ℕ) (guarded found : Result Decoded Cause) (w : World) : Type 0 where
  free : stuck_at [] found w ≡ None
  next : next_at found w ≡ next_at guarded w

same_step : (protected : List ℕ) (begins : Bool) (found : Result Decoded Cause) (w : World)
    → stuck_at protected (if begins then found else Err OffStatement) w ≡ None
    → SameStep protected (if begins then found else Err OffStatement) found w
unfolding stuck_at next_at
same_step protected begins found w h = record {
  free = free (w.registers.pc == 0xFF69) (service_at w.registers.pc) begins found h;
  next = same (w.registers.pc == 0xFF69) (service_at w.registers.pc) begins found h;
}
  where
    cause : List ℕ → Option Service → Result Decoded Cause → Option Cause
    cause p service found = elim service [
      | Some s ↦ service_cause p s w
      | None ↦ elim found [ Err why ↦ Some why | Ok decoded ↦ instruction_cause p decoded w ]
    ]

    after : Option Service → Result Decoded Cause → World
    after service found = elim service as (λ _. World) [
      | Some s ↦ served s w
      | None ↦ elim found as (λ _. World) [ Err why ↦ w | Ok decoded ↦ performed memory_access decoded.row decoded.value w ]
    ]

    free : (home : Bool) (service : Option Service) (begins : Bool) (found : Result Decoded Cause)
        → (if home then Some Returned else cause protected service (if begins then found else Err OffStatement)) ≡ None
        → (if home then Some Returned else cause [] service found) ≡ None
    free true service begins found h = never Returned h
    free false (Some s) begins found h = otherwise (list_any (reach s) protected) CodeWrite _ h
    free false None true (Err why) h = never why h
    free false None true (Ok decoded) h = free_instruction protected decoded w h
    free false None false found h = never OffStatement h

    same : (home : Bool) (service : Option Service) (begins : Bool) (found : Result Decoded Cause)
        → (if home then Some Returned else cause protected service (if begins then found else Err OffStatement)) ≡ None
        → after service found ≡ after service (if begins then found else Err OffStatement)
    same true service begins found h = never Returned h
    same false (Some s) begins found h = refl
    same false None true found h = refl
    same false None false found h = never OffStatement h

-- A walk

module _ (program : Assembled) (sound : IsSound program) where
  abbrev pub code : Code
  code = statements (instr_at program.statements) (guard_of_program program).code

  abbrev pub Laid : World → Type 0
  Laid w = HoldsCode (guard_of_program program).code (laid_by program) w.memory

  record Step (w : World) : Type 0 where
    free : stuck (bytes None) w ≡ None
    next : next (bytes None) w ≡ next code w

  step : (w : World) → Laid w → stuck code w ≡ None → Step w
  unfolding stuck next statements bytes
  step w laid h = record { free = it.free; next = it.next ∙ ap (λ found. next_at found w) (sym says) }
    where
      says : found_at_pc code w ≡ (if is_among (guard_of_program program).starts w.registers.pc
          then decoded_or_cause (fetched (peek w.memory) w.registers.pc) else Err OffStatement)
      says = same-code program sound w.memory laid w.registers.pc

      it : SameStep (guard_of_program program).code
          (if is_among (guard_of_program program).starts w.registers.pc
          then decoded_or_cause (fetched (peek w.memory) w.registers.pc) else Err OffStatement)
          (decoded_or_cause (fetched (peek w.memory) w.registers.pc)) w
      it =
          same_step (guard_of_program program).code (is_among (guard_of_program program).starts w.registers.pc)
          (decoded_or_cause (fetched (peek w.memory) w.registers.pc)) w
          (ap (λ found. stuck_at (guard_of_program program).code found w) (sym says) ∙ h)

  -- none of this many steps of the bytes is stuck, and they lead to this world
  pub record Runs (w v : World) (n : ℕ) : Type 0 where
    pub going : (k : ℕ) → k < n → stuck (bytes None) (world_at (bytes None) w k) ≡ None
    pub there : world_at (bytes None) w n ≡ v

  shifted : (w : World) (n : ℕ) → world_at (bytes None) (next (bytes None) w) n ≡ world_at (bytes None) w (suc n)
  unfolding world_at
  shifted w zero = refl
  shifted w (suc n) = ap (λ u. next (bytes None) u) (shifted w n)

  some_one : (v u : World) → Some v ≡ Some u → v ≡ u
  some_one v u e = ap (λ o. unwrap_or o v) e

  -- a step keeps the program's bytes
  keeps_laid : (w : World) → Laid w → stuck code w ≡ None → Laid (next code w)
  unfolding statements
  keeps_laid w laid free = next-keeps_code code (laid_by program) w laid free

  pub goes : (n : ℕ) (w v : World) → Laid w → walked code w n ≡ Some v → Runs w v n
  unfolding walked world_at
  goes zero w v laid walk = record { going = λ k h. (let bad : ⊥ = omega (arith, h) in absurd bad); there = some_one w v walk }
  goes (suc n) w v laid walk = by (stuck code w) refl walk (λ free h. goes n (next code w) v (keeps_laid w laid free) h)
    where
      by : (o : Option Cause) → stuck code w ≡ o
          → (let r : Option World = elim o [ Some cause ↦ None | None ↦ walked code (next code w) n ] in r) ≡ Some v
          → (stuck code w ≡ None → walked code (next code w) n ≡ Some v → Runs (next code w) v n) → Runs w v (suc n)
      by (Some cause) is h later = absurd (true≢false (sym (ap is_some h)))
      by None is h later = record { going = going; there = sym (shifted w n) ∙ ap (λ u. world_at (bytes None) u n) first.next ∙ rest.there }
        where
          first : Step w
          first = step w laid is

          rest : Runs (next code w) v n
          rest = later is h

          going : (k : ℕ) → k < suc n → stuck (bytes None) (world_at (bytes None) w k) ≡ None
          going zero lt = first.free
          going (suc k) lt =
              ap (λ u. stuck (bytes None) u) (sym (shifted w k) ∙ ap (λ u. world_at (bytes None) u k) first.next)
              ∙ rest.going k (omega (arith, lt))
