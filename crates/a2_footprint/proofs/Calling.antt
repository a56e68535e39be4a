-- An RTS returns to the caller, whatever is on the stack.
use Rattle.std.specs.Prelude.{◌≡◌, ◌<◌, ◌==◌, ℕ, ◌+◌, ◌*◌, ◌%◌, false, if◌then◌else◌, List, [], Some, None, Ok}
use Rattle.std.specs.List.{list_any}
use Rattle.std.proofs.Common.{sym, ap, ap₂, ◌∙◌, subst, arith, below_more}
use Rattle.a2_text.specs.Bytes.{is_among}
use Rattle.a2_opcode.specs.declared.Mnemonic.TheVariants.{Rts}
use Rattle.a2_bus.specs.Memory.{memory_access, ram_byte}
use Rattle.a2_cpu.specs.BusStep.{refusal_of}
use Rattle.a2_effect.specs.Effect.{effect_of}
use Rattle.a2_effect.specs.Place.{place_of}
use Rattle.a2_effect.specs.Instruction.{after_effect, next_address, performed, returned, with_pc}
use Rattle.a2_effect.specs.Registers.{Registers}
use Rattle.a2_cpu.specs.Stores.{IsNotIn, logged, with_empty_log, stores_of}
use Rattle.a2_services.specs.World.{World}
use Rattle.a2_services.specs.Services.{service_at}
use Rattle.a2_machine.specs.declared.causes.Cause.TheVariants.{CodeWrite}
use Rattle.a2_machine.specs.Meaning.{Decoded, cause_of_cpu_error, found_at_pc, next, return_address, stuck, world_at}
use Rattle.a2_services.proofs.Counting.{returned_devices}
use Rattle.a2_footprint.specs.InstructionReads.{pull_address}
use Rattle.a2_footprint.specs.Reads.{AgreeOn}
use Rattle.a2_footprint.specs.Runs.{bytes_known_after}
use Rattle.a2_footprint.specs.Uses.{Near, parts_known_after}
use Rattle.a2_footprint.specs.Calls.{GoesBack, CallPasses, CallsGoBack, CallPromisesHoldEverywhere, caller}
use Rattle.a2_footprint.specs.Promises.{known_bytes, known_parts, selected, with_inputs}
use Rattle.a2_footprint.proofs.Promising.{near, same-selected}
use Rattle.a2_footprint.proofs.Ways.{called_from, returned_registers}
use Rattle.a2_footprint.proofs.Running.{runs, cause_at, done_at, not_home, stuck_is, next_is}

-- The effect of an RTS

stores_none : (d : Decoded) (w : World) → d.row.mnemonic ≡ Rts → stores_of memory_access d.row d.value w ≡ []
unfolding stores_of performed after_effect returned effect_of
stores_none d w e =
    ap (λ m. (after_effect (logged memory_access)
    (place_of (logged memory_access) (with_empty_log w).memory w.registers d.row.mode d.value) (effect_of m)
    (with_pc (next_address d.row w.registers.pc) (with_empty_log w))).memory.log) e

memory_stays : (d : Decoded) (w : World) → d.row.mnemonic ≡ Rts → (performed memory_access d.row d.value w).memory ≡ w.memory
unfolding performed after_effect effect_of
memory_stays d w e =
    ap (λ m. (after_effect memory_access (place_of memory_access w.memory w.registers d.row.mode d.value) (effect_of m)
    (with_pc (next_address d.row w.registers.pc) w)).memory) e
    ∙ returned_devices (with_pc (next_address d.row w.registers.pc) w)

registers_back : (d : Decoded) (w : World) → d.row.mnemonic ≡ Rts → (performed memory_access d.row d.value w).registers ≡ called_from w
unfolding performed after_effect effect_of
registers_back d w e =
    ap (λ m. (after_effect memory_access (place_of memory_access w.memory w.registers d.row.mode d.value) (effect_of m)
    (with_pc (next_address d.row w.registers.pc) w)).registers) e
    ∙ returned_registers (with_pc (next_address d.row w.registers.pc) w)

pub not_refused : (protected : List ℕ) (d : Decoded) (w : World) → d.row.mnemonic ≡ Rts → cause_at protected (Ok d) w ≡ None
unfolding refusal_of
not_refused protected d w e = λ i.
    elim (refusal_of (e i) w.registers.flags) [
      | Some why ↦ Some (cause_of_cpu_error why)
      | None ↦ if list_any (is_among protected) (stores_none d w e i) then Some CodeWrite else None
    ]

pub calls : CallsGoBack
unfolding world_at
calls code parts bytes s t n h to =
    let law = runs code parts bytes s t n h to.reads to.needs in
    let w : World = world_at code t n in
    let found : found_at_pc code w ≡ Ok to.rts =
    ap (λ pc. code.instruction_at w.memory pc) (sym law.0.registers.pc) ∙ to.found w.memory law.0.memory in
    let free : service_at w.registers.pc ≡ None = ap (λ pc. service_at pc) (sym law.0.registers.pc) ∙ to.no_service in
    let away : (w.registers.pc == return_address) ≡ false =
    ap (λ pc. pc == return_address) (sym law.0.registers.pc) ∙ not_home code (world_at code s n) to.going in
    let last : stuck code w ≡ None =
    stuck_is code w (Ok to.rts) away free found ∙ not_refused code.protected to.rts w to.is_rts in
    let done : next code w ≡ done_at (Ok to.rts) w = next_is code w (Ok to.rts) free found in
    let same_s : w.registers.s ≡ t.registers.s = sym law.0.registers.s ∙ to.s ∙ h.registers.s in
    let Q : ℕ → Type 0 = λ v. (ram_byte w.memory (pull_address v 1) ≡ ram_byte t.memory (pull_address v 1))
    × (ram_byte w.memory (pull_address v 2) ≡ ram_byte t.memory (pull_address v 2)) in
    let both : Q t.registers.s = subst Q h.registers.s (law.1.rest _ to.low, law.1.rest _ to.high) in
    let same_caller : caller w ≡ caller t =
    ap (λ v. (ram_byte w.memory (pull_address v 1) + 256 * ram_byte w.memory (pull_address v 2) + 1) % 65536) same_s
    ∙ ap₂ (λ low high. (low + 256 * high + 1) % 65536) both.0 both.1 in
    record {
      going = λ k lt. let below : k < n + 1 = omega (arith, lt) in
          below_more (λ j. stuck code (world_at code t j) ≡ None) n law.1.going last k below;
      registers = ap (λ v. v.registers) done ∙ registers_back to.rts w to.is_rts
          ∙ ap₂ (λ stack pc. let r : Registers = w.registers in let q : Registers = record r { s = (stack + 2) % 256; pc = pc } in q) same_s same_caller;
      memory = ap (λ v. v.memory) done ∙ memory_stays to.rts w to.is_rts;
    }

pub call_promises : CallPromisesHoldEverywhere
call_promises promise limit holds world meets =
    let start : World = with_inputs promise world in
    let here : Near (known_parts promise) (AgreeOn (known_bytes promise)) start world =
    near promise (CallPasses promise limit) world holds meets in
    let before : selected promise.before start ≡ selected promise.before world =
    same-selected (known_parts promise) (known_bytes promise) promise.before start world here holds.shown in
    let passes : CallPasses promise limit start =
    holds.every world meets.inputs (ap (λ now. promise.required now) before ∙ meets.required) in
    let law =
    runs promise.code (known_parts promise) (known_bytes promise) start world passes.steps here passes.comes.reads passes.comes.needs in
    let back : GoesBack promise.code world passes.steps =
    calls promise.code (known_parts promise) (known_bytes promise) start world passes.steps here passes.comes in
    record {
      steps = passes.steps;
      within = passes.within;
      back = back;
      passed = ap₂ (λ before following. promise.test before following) (sym before)
          (sym (same-selected (parts_known_after promise.code (known_parts promise) start passes.steps) (bytes_known_after promise.code (known_bytes promise) start passes.steps)
          promise.following (world_at promise.code start passes.steps) (world_at promise.code world passes.steps) law.0 passes.shown))
          ∙ passes.passed;
      rest = λ b stays. ap (λ m. ram_byte m b) back.memory ∙ law.1.rest b (subst (λ ns. IsNotIn b ns) (sym law.1.stores) stays);
    }
