-- A promise that is kept in each state of its inputs is kept in every world.
use Rattle.std.specs.Prelude.{◌≡◌, ◌⊎◌, ◌<◌, ℕ, zero, suc, ◌+◌, ◌-◌, ◌%◌, ◌&&◌, Bool, true, false, not, IsTrue, map, MatchOption, None, Ok, refl}
use Rattle.std.specs.List.{list_any}
use Rattle.std.proofs.Common.{sym, ap, ap₂, ◌∙◌, subst, arith, below_more, inl, inr, true≢false}
use Rattle.a2_text.specs.Bytes.{is_among}
use Rattle.a2_opcode.specs.declared.Mode.TheVariants.{Implied}
use Rattle.a2_opcode.specs.declared.Mnemonic.TheVariants.{Rts}
use Rattle.a2_opcode.specs.declared.Row.{Row}
use Rattle.a2_bus.specs.Memory.{memory_access, ram_byte, ram_end}
use Rattle.a2_effect.specs.Effect.{effect_of}
use Rattle.a2_effect.specs.Instruction.{branch_cycles, next_address, performed}
use Rattle.a2_effect.specs.Place.{base_address, crosses_page, place_of}
use Rattle.a2_effect.specs.Registers.{Registers, one_if}
use Rattle.a2_cpu.specs.Stores.{IsNotIn}
use Rattle.a2_services.specs.World.{World}
use Rattle.a2_services.specs.Services.{service_at}
use Rattle.a2_machine.specs.Meaning.{Code, Decoded, found_at_pc, stuck, world_at}
use Rattle.a2_promise.specs.declared.promises.Changes.{Changes}
use Rattle.a2_promise.specs.declared.promises.Promise.{Promise}
use Rattle.a2_promise.specs.ReadsOfValues.{AgreeAt, ValuesDependOnlyOnReads}
use Rattle.a2_footprint.specs.declared.Part.{Part}
use Rattle.a2_footprint.specs.declared.Part.TheVariants.{A as part_a, X as part_x, Y as part_y}
use Rattle.a2_footprint.specs.Calls.{ReachesRts, GoesBack, caller}
use Rattle.a2_footprint.specs.Counting.{HasNumber}
use Rattle.a2_footprint.specs.Parts.{held, is_part}
use Rattle.a2_footprint.specs.Reads.{AgreeOn}
use Rattle.a2_footprint.specs.Runs.{RunsAlike, bytes_known_after, stores_in, step_stores}
use Rattle.a2_footprint.specs.Stays.{is_register}
use Rattle.a2_footprint.specs.Fetches.{addresses_from}
use Rattle.a2_footprint.specs.Services.{is_keyless}
use Rattle.a2_footprint.specs.RotatedStack.{FoundOffStack, IsOffStack, IsRotated, RunIsOffStack, StepIsOffStack, in_stack, moves_s, operand_uses, rotated_address, rotated_memory}
use Rattle.a2_footprint.specs.Uses.{Near, step_sets, parts_known_after}
use Rattle.a2_footprint.specs.InstructionReads.{pointer_reads}
use Rattle.a2_footprint.proofs.Agreeing.{among_or}
use Rattle.a2_footprint.proofs.Calling.{calls}
use Rattle.a2_footprint.proofs.Counting.{counted}
use Rattle.a2_footprint.proofs.Running.{next_is, runs}
use Rattle.a2_footprint.proofs.Staying.{staying}
use Rattle.a2_footprint.proofs.RotatedMemory.{not_in_stack, turned_byte}
use Rattle.a2_footprint.proofs.Turning.{staying_off, turning}
use Rattle.a2_promise_certify.specs.States.{Trial, Enters, known_bytes, known_parts, value_in, values_of, with_values}
use Rattle.a2_promise_certify.specs.Kept.{IsEnsured, IsKept, IsRequired, Keeps, code, is_own, known_by, may_change, may_store, moment}
use Rattle.a2_promise_certify.specs.Everywhere.{IsTried, PromisesHoldEverywhere}
use Rattle.a2_promise_certify.proofs.Moments.{AreAlike, agree, same_hold}
use Rattle.a2_promise_certify.proofs.Turned.{entered_there, is_turned_from, same_own, still_stacked, turn_to, turned_alike, turned_back, turned_from, turned_part}
use Rattle.a2_promise_certify.proofs.States.{near, with_inputs}

-- What is known stays known.

pub known_later : (program : Code) (known : ℕ → Bool) (start : World) (n a : ℕ) → IsTrue (known a) → IsTrue (bytes_known_after program known start n a)
unfolding bytes_known_after
known_later program known start zero a is = is
known_later program known start (suc n) a is =
    among_or (is_among (step_stores program (world_at program start n)) a) (bytes_known_after program known start n a)
    (known_later program known start n a is)

pub part_later : (program : Code) (known : Part → Bool) (start : World) (n : ℕ) (part : Part) → IsTrue (known part)
    → IsTrue (parts_known_after program known start n part)
unfolding parts_known_after
part_later program known start zero part is = is
part_later program known start (suc n) part is =
    among_or (list_any (is_part part) (step_sets program (world_at program start n))) (parts_known_after program known start n part)
    (part_later program known start n part is)

-- The cycles of an RTS

cost : Row → ℕ
cost row = row.cycles + one_if (row.crosses && false) + 0

rts_cost : (d : Decoded) (w : World) → d.row.mnemonic ≡ Rts → d.row.mode ≡ Implied
    → (performed memory_access d.row d.value w).cycles ≡ w.cycles + cost d.row
unfolding performed effect_of cost
rts_cost d w rts implied =
    ap₂ (λ mode mnemonic. w.cycles + (d.row.cycles
    + one_if (d.row.crosses && crosses_page (base_address memory_access w.memory mode d.value) (place_of memory_access w.memory w.registers mode d.value))
    + branch_cycles (effect_of mnemonic) w.registers.flags (next_address d.row w.registers.pc) (place_of memory_access w.memory w.registers mode d.value)))
    implied rts

-- A world near the first one of a run to an RTS takes the same cycles, including those of the RTS.
last_cycles : (program : Code) (parts : Part → Bool) (bytes : ℕ → Bool) (s t : World) (n : ℕ) (h : Near parts (AgreeOn bytes) s t)
    (to : ReachesRts program parts bytes s n) → to.rts.row.mode ≡ Implied
    → (world_at program t (suc n)).cycles ≡ (world_at program t n).cycles + cost to.rts.row
unfolding world_at
last_cycles program parts bytes s t n h to implied =
    let law = runs program parts bytes s t n h to.reads to.needs in
    let w : World = world_at program t n in
    let found : found_at_pc program w ≡ Ok to.rts =
    ap (λ pc. program.instruction_at w.memory pc) (sym law.0.registers.pc) ∙ to.found w.memory law.0.memory in
    let free : service_at w.registers.pc ≡ None = ap (λ pc. service_at pc) (sym law.0.registers.pc) ∙ to.no_service in
    ap (λ (v : World). v.cycles) (next_is program w (Ok to.rts) free found) ∙ rts_cost to.rts w to.is_rts implied

-- A world is near itself.
self : (parts : Part → Bool) (bytes : ℕ → Bool) (s t : World) → Near parts (AgreeOn bytes) s t → Near parts (AgreeOn bytes) s s
self parts bytes s t h = record {
  registers = record { s = refl; pc = refl; parts = λ part known. refl };
  cycles = refl;
  memory = record { left_pages = h.memory.left_pages; right_pages = h.memory.left_pages; devices = refl; bytes = λ a low known. refl };
}

moved : (part : Part) (r : Registers) (s pc : ℕ) → held part (record r { s = s; pc = pc }) ≡ held part r
moved part_a r s pc = refl
moved part r s pc = refl

back_registers : (program : Code) (t : World) (n : ℕ) → GoesBack program t n → (part : Part)
    → held part (world_at program t (suc n)).registers ≡ held part (world_at program t n).registers
back_registers program t n back part =
    ap (λ r. held part r) back.registers ∙ moved part (world_at program t n).registers ((t.registers.s + 2) % 256) (caller t)

-- After both have executed the RTS, the two worlds are alike in what is known, except for PC
module _ (program : Code) (parts : Part → Bool) (bytes : ℕ → Bool) (s t : World) (n : ℕ) (h : Near parts (AgreeOn bytes) s t)
    (to : ReachesRts program parts bytes s n) (implied : to.rts.row.mode ≡ Implied) where
  mid : Near (parts_known_after program parts s n) (AgreeOn (bytes_known_after program bytes s n)) (world_at program s n) (world_at program t n)
  mid = (runs program parts bytes s t n h to.reads to.needs).0

  first : GoesBack program s n
  first = calls program parts bytes s s n (self parts bytes s t h) to

  second : GoesBack program t n
  second = calls program parts bytes s t n h to

  pub following : AreAlike (bytes_known_after program bytes s n) (parts_known_after program parts s n) s (world_at program s (suc n)) t (world_at program t (suc n))
  following = record {
    parts = λ part known. back_registers program s n first part ∙ mid.registers.parts part known ∙ sym (back_registers program t n second part);
    bytes = λ a low off known. ap (λ m. ram_byte m a) first.memory ∙ mid.memory.bytes a low known ∙ sym (ap (λ m. ram_byte m a) second.memory);
    cycles = ap₂ (λ following before. following - before)
        (last_cycles program parts bytes s s n (self parts bytes s t h) to implied ∙ ap (λ c. c + cost to.rts.row) mid.cycles
        ∙ sym (last_cycles program parts bytes s t n h to implied)) h.cycles;
  }

-- They are also alike at the entry.
entered : (parts : Part → Bool) (bytes : ℕ → Bool) (s t : World) → Near parts (AgreeOn bytes) s t → AreAlike bytes parts s s t t
entered parts bytes s t h = record {
  parts = h.registers.parts;
  bytes = λ a low off known. h.memory.bytes a low known;
  cycles = ap₂ (λ following before. following - before) h.cycles h.cycles;
}

is_kept_register : (changes : Changes) (part : Part) → may_change changes part ≡ false → is_register part ≡ true
is_kept_register changes part_a is = refl
is_kept_register changes part_x is = refl
is_kept_register changes part_y is = refl
is_kept_register changes part bad = absurd (true≢false bad)

unknown : (b : Bool) → b ≡ false → IsTrue (not b)
unknown true bad = absurd (true≢false bad)
unknown false is = refl

-- The last step, an RTS, also uses the stack only through S.
rts_off_stack : (d : Decoded) (w : World) → d.row.mnemonic ≡ Rts → d.row.mode ≡ Implied → IsOffStack d w
unfolding effect_of
rts_off_stack d w rts implied = record {
  mnemonic = ap (λ m. moves_s m) rts;
  pointer = ap (λ m. list_any in_stack (pointer_reads m d.value w.registers)) implied;
  operand = ap (λ m. list_any in_stack (operand_uses (effect_of m) (place_of memory_access w.memory w.registers d.row.mode d.value))) rts;
}

-- from one state to the worlds that have its inputs, and then to those with a rotated stack
module _ (law : ValuesDependOnlyOnReads) (trial : Trial) (promise : Promise) (limit : ℕ) (s t : World)
    (h : Near (known_parts trial) (AgreeOn (known_bytes trial)) s t) (kept : IsKept (known_bytes trial) (known_parts trial) promise limit s)
    (turn : ℕ) (w : World) (turned : IsRotated turn t w) where
  run : Near (parts_known_after code (known_parts trial) s kept.steps) (AgreeOn (bytes_known_after code (known_bytes trial) s kept.steps))
      (world_at code s kept.steps) (world_at code t kept.steps)
  run = (runs code (known_parts trial) (known_bytes trial) s t kept.steps h kept.comes.reads kept.comes.needs).0

  left : RunsAlike code s t kept.steps
  left = (runs code (known_parts trial) (known_bytes trial) s t kept.steps h kept.comes.reads kept.comes.needs).1

  back : GoesBack code t kept.steps
  back = calls code (known_parts trial) (known_bytes trial) s t kept.steps h kept.comes

  off : RunIsOffStack t kept.steps
  off = staying_off (known_parts trial) (known_bytes trial) s t kept.steps h kept.comes.reads kept.comes.needs kept.off_stack

  at_home : StepIsOffStack (world_at code t kept.steps)
  at_home =
      let v : World = world_at code t kept.steps in
      let free : service_at v.registers.pc ≡ None = ap (λ pc. service_at pc) (sym run.registers.pc) ∙ kept.comes.no_service in
      let found : found_at_pc code v ≡ Ok kept.comes.rts =
      ap (λ pc. code.instruction_at v.memory pc) (sym run.registers.pc) ∙ kept.comes.found v.memory run.memory in
      subst (λ o. MatchOption o ((list_any in_stack (addresses_from v.registers.pc 3) ≡ false) × FoundOffStack (found_at_pc code v) v)
      (λ service. is_keyless service ≡ true)) (sym free) (
        ap (λ pc. list_any in_stack (addresses_from pc 3)) (sym run.registers.pc) ∙ kept.home_off_stack,
        subst (λ f. FoundOffStack f v) (sym found) (rts_off_stack kept.comes.rts v kept.comes.is_rts kept.implied),
      )

  all_off : RunIsOffStack t (suc kept.steps)
  all_off = λ k lt. let below : k < kept.steps + 1 = omega (arith, lt) in below_more (λ j. StepIsOffStack (world_at code t j)) kept.steps off at_home k below

  midway : IsRotated turn (world_at code t kept.steps) (world_at code w kept.steps)
  midway = (turning turn t w kept.steps turned left.going off).1

  last : ((k : ℕ) → k < suc kept.steps → stuck code (world_at code w k) ≡ None)
      × IsRotated turn (world_at code t (suc kept.steps)) (world_at code w (suc kept.steps))
  last = turning turn t w (suc kept.steps) turned back.going all_off

  goes_back : GoesBack code w kept.steps
  goes_back = record {
    going = last.0;
    registers = turned_back turn t w turned (world_at code t kept.steps) (world_at code w kept.steps)
        (world_at code t (suc kept.steps)) (world_at code w (suc kept.steps)) midway last.1 back.registers;
    memory = last.1.memory ∙ ap (λ m. rotated_memory turn m) back.memory ∙ sym midway.memory;
  }

  ensured : IsEnsured promise w (suc kept.steps)
  ensured =
      let n : ℕ = kept.steps in
      let parts : Part → Bool = known_parts trial in
      let bytes : ℕ → Bool = known_bytes trial in
      sym (same_hold law promise.promised.items (known_by bytes parts) (known_by (bytes_known_after code bytes s n) (parts_known_after code parts s n))
      (moment s s 0) (moment s (world_at code s (suc n)) (suc n)) (moment w w 0) (moment w (world_at code w (suc n)) (suc n))
      (agree bytes parts s s w w 0 (turned_alike bytes parts s s t t w w turn turn turned turned (entered parts bytes s t h)))
      (agree (bytes_known_after code bytes s n) (parts_known_after code parts s n) s (world_at code s (suc n)) w (world_at code w (suc n)) (suc n)
      (turned_alike (bytes_known_after code bytes s n) (parts_known_after code parts s n) s (world_at code s (suc n)) t (world_at code t (suc n)) w (world_at code w (suc n))
      turn turn turned last.1 (following code parts bytes s t n h kept.comes kept.implied))) kept.looks)
      ∙ kept.ensured

  stayed : (part : Part) → may_change promise.changes part ≡ false
      → (parts_known_after code (known_parts trial) s kept.steps part ≡ false)
      ⊎ (IsTrue (known_parts trial part) × (held part (world_at code s kept.steps).registers ≡ held part s.registers))
      → held part (world_at code t kept.steps).registers ≡ held part t.registers
  stayed part may (inl is) =
      staying code (known_parts trial) (known_bytes trial) s t kept.steps h kept.comes.reads kept.comes.needs part
      (is_kept_register promise.changes part may) (unknown (parts_known_after code (known_parts trial) s kept.steps part) is)
  stayed part may (inr same) =
      sym (run.registers.parts part (part_later code (known_parts trial) s kept.steps part same.0)) ∙ same.1 ∙ h.registers.parts part same.0

  outside : (a : ℕ) → a < ram_end
      → IsNotIn a (stores_in code s kept.steps)
      ⊎ (IsTrue (known_bytes trial a) × (ram_byte (world_at code s kept.steps).memory a ≡ ram_byte s.memory a))
      → ram_byte (world_at code t kept.steps).memory a ≡ ram_byte t.memory a
  outside a low (inl free) = left.rest a free
  outside a low (inr same) =
      sym (run.memory.bytes a low (known_later code (known_bytes trial) s kept.steps a same.0)) ∙ same.1 ∙ h.memory.bytes a low same.0

  -- What a byte of the rotated world holds is in the other world, too.
  shown : (v : World) (other : World) → IsRotated turn v other → (a : ℕ) → ram_byte other.memory a ≡ ram_byte v.memory (rotated_address turn a)
  shown v other is a = ap (λ m. ram_byte m a) is.memory ∙ turned_byte turn v.memory a

  rest : (a : ℕ) → a < ram_end → is_own w.registers.s a ≡ false → may_store promise.changes a ≡ false
      → ram_byte (world_at code w kept.steps).memory a ≡ ram_byte w.memory a
  rest a low own may = shown _ _ midway a ∙ go (in_stack a) refl ∙ sym (shown _ _ turned a)
    where
      go : (stacked : Bool) → in_stack a ≡ stacked
          → ram_byte (world_at code t kept.steps).memory (rotated_address turn a) ≡ ram_byte t.memory (rotated_address turn a)
      go false e =
          subst (λ b. ram_byte (world_at code t kept.steps).memory b ≡ ram_byte t.memory b) (sym (not_in_stack turn a e))
          (outside a low (kept.rest a low e may))
      go true e =
          left.rest (rotated_address turn a)
          (kept.own (rotated_address turn a) (still_stacked turn a e)
          (ap (λ x. is_own x (rotated_address turn a)) h.registers.s ∙ same_own turn t w turned a e ∙ own))

  pub lifted : Keeps promise limit w
  lifted = record {
    steps = kept.steps;
    within = kept.within;
    back = goes_back;
    ensured = ensured;
    registers = λ part may.
        back_registers code w kept.steps goes_back part ∙ sym (turned_part turn _ _ midway part)
        ∙ stayed part may (kept.registers part may) ∙ turned_part turn t w turned part;
    rest = λ a low own may. ap (λ m. ram_byte m a) goes_back.memory ∙ rest a low own may;
  }

pub everywhere : ValuesDependOnlyOnReads → PromisesHoldEverywhere
everywhere law trial promise limit holds s w low enters required =
    let turn : ℕ = turn_to s trial.base.registers.s in
    let u : World = turned_from turn trial.base.registers.s w in
    let turned : IsRotated turn u w = is_turned_from s trial.base.registers.s w (sym enters.registers.s) low holds.s in
    let there : Enters trial u = entered_there trial s w low holds.s enters holds.off_stack in
    let number : HasNumber (map values_of trial.inputs) (map (value_in u) trial.inputs) =
    counted (map values_of trial.inputs) (map (value_in u) trial.inputs) there.inputs in
    let tried : IsTried trial promise limit (with_inputs trial u) =
    subst (λ values. IsTried trial promise limit (with_values trial.inputs values trial.base)) number.is
    (holds.every number.number number.below) in
    let h : Near (known_parts trial) (AgreeOn (known_bytes trial)) (with_inputs trial u) u = near trial u holds.pages there in
    let here : AgreeAt (known_by (known_bytes trial) (known_parts trial)) (moment (with_inputs trial u) (with_inputs trial u) 0) (moment w w 0) =
    agree (known_bytes trial) (known_parts trial) (with_inputs trial u) (with_inputs trial u) w w 0
    (turned_alike (known_bytes trial) (known_parts trial) (with_inputs trial u) (with_inputs trial u) u u w w turn turn turned turned
    (entered (known_parts trial) (known_bytes trial) (with_inputs trial u) u h)) in
    let start_required : IsRequired promise (with_inputs trial u) =
    same_hold law promise.wanted.items (known_by (known_bytes trial) (known_parts trial)) (known_by (known_bytes trial) (known_parts trial))
    (moment (with_inputs trial u) (with_inputs trial u) 0) (moment (with_inputs trial u) (with_inputs trial u) 0) (moment w w 0) (moment w w 0)
    here here tried.looks ∙ required in
    lifted law trial promise limit (with_inputs trial u) u h (tried.kept start_required) turn w turned
