-- An instruction, a step and a run depend only on the bytes that they read and the parts that they use.
use Rattle.std.specs.Prelude.{◌≡◌, ◌<◌, ◌==◌, ℕ, zero, suc, ◌+◌, Bool, true, false, if◌then◌else◌, List, ◌++◌, Option, Some, None, Result, Ok, Err, MatchOption, not, refl, is_some}
use Rattle.std.specs.List.{list_any}
use Rattle.std.proofs.Common.{sym, ap, ap₂, ◌∙◌, subst, arith, true≢false, inl, below_more}
use Rattle.a2_text.specs.Bytes.{is_among}
use Rattle.a2_opcode.specs.declared.Mnemonic.{Mnemonic}
use Rattle.a2_opcode.specs.declared.Mnemonic.TheVariants.{Adc, Sbc}
use Rattle.a2_opcode.specs.declared.Row.{Row}
use Rattle.a2_bus.specs.Memory.{Memory, memory_access, ram_byte}
use Rattle.a2_bus.proofs.Frame.{changed_by_writes}
use Rattle.a2_cpu.specs.BusStep.{decimal, refusal_of}
use Rattle.a2_effect.specs.Effect.{effect_of}
use Rattle.a2_effect.specs.Instruction.{Alike, performed}
use Rattle.a2_effect.specs.Registers.{Registers}
use Rattle.a2_cpu.specs.Stores.{logged, with_empty_log, stores_of, IsNotIn}
use Rattle.a2_cpu.proofs.Simulation.{performed-alike, place-alike}
use Rattle.a2_cpu.proofs.StoresLemmas.{performed-stores}
use Rattle.a2_services.specs.World.{World}
use Rattle.a2_services.specs.Services.{service_at, served, fits, lacks_keys, reach}
use Rattle.a2_services.specs.declared.rows.Service.{Service}
use Rattle.a2_services.specs.declared.rows.Service.TheVariants.{Keyin, Getln}
use Rattle.a2_machine.specs.declared.causes.Cause.{Cause}
use Rattle.a2_machine.specs.declared.causes.Cause.TheVariants.{Returned, CodeWrite, Window, Keys}
use Rattle.a2_machine.specs.Meaning.{Code, Decoded, found_at_pc, return_address, stuck, stuck_at, next, next_at, world_at, service_cause, instruction_cause, cause_of_cpu_error}
use Rattle.a2_machine.proofs.Computing.{returns_there}
use Rattle.a2_footprint.specs.InstructionReads.{reads_of, effect_reads, pointer_reads}
use Rattle.a2_footprint.specs.Reads.{AgreeOn, Knows, with_bytes}
use Rattle.a2_footprint.specs.declared.Part.{Part}
use Rattle.a2_footprint.specs.declared.Part.TheVariants.{D as part_d}
use Rattle.a2_footprint.specs.InstructionParts.{needs, mode_needs, sets_parts}
use Rattle.a2_footprint.specs.Parts.{MatchAt, with_parts}
use Rattle.a2_footprint.specs.Runs.{StepReads, RunReads, RunsAlike, found_reads, found_stores, step_reads, step_stores, stores_in, bytes_known_after}
use Rattle.a2_footprint.specs.Uses.{Near, RunNeeds, found_needs, found_sets, step_needs, step_sets, parts_known_after}
use Rattle.a2_footprint.specs.Services.{is_keyless, service_needs, service_sets, service_reads, service_stores}
use Rattle.a2_footprint.proofs.Agreeing.{Noted, noting, Pages, Same, logging}
use Rattle.a2_footprint.proofs.Nearing.{performed-near, knows-append}
use Rattle.a2_footprint.proofs.Serving.{serving, keeping}
use Rattle.a2_footprint.proofs.Storing.{not_in-append}

-- An instruction

-- a state with an empty log is like the state without a log
unlogged : (s : World) → Alike Same (with_empty_log s) s
unlogged s = record { registers = refl; cycles = refl; memory = refl }

-- it reads the same addresses with a log as without
reads-logged : (row : Row) (value : ℕ) (s : World)
    → reads_of (logged memory_access) row value (with_empty_log s) ≡ reads_of memory_access row value s
unfolding reads_of
reads-logged row value s =
    ap (λ place. pointer_reads row.mode value s.registers ++ effect_reads (effect_of row.mnemonic) place s.registers.s)
    (place-alike Same (logged memory_access) memory_access logging (with_empty_log s) s row.mode value (unlogged s))

after_log : (row : Row) (value : ℕ) (s : World)
    → Alike Same (performed (logged memory_access) row value (with_empty_log s)) (performed memory_access row value s)
after_log row value s =
    performed-alike Same (logged memory_access) memory_access logging row value (with_empty_log s) s (unlogged s)

start : (k : Part → Bool) (known : ℕ → Bool) (s t : World) → Near k (AgreeOn known) s t
    → Near k (Noted known) (with_empty_log s) (with_empty_log t)
start k known s t h = record {
  registers = h.registers;
  cycles = h.cycles;
  memory = record {
    log = refl;
    agree = record {
      left_pages = h.memory.left_pages;
      right_pages = h.memory.right_pages;
      devices = h.memory.devices;
      bytes = h.memory.bytes;
    };
  };
}

pub instruction : (row : Row) (value : ℕ) (k : Part → Bool) (known : ℕ → Bool) (s t : World) → Near k (AgreeOn known) s t
    → Knows k (needs row.mnemonic) → Knows k (mode_needs row.mode) → Knows known (reads_of memory_access row value s)
    → Near (with_parts (sets_parts row.mnemonic) k) (AgreeOn (with_bytes (stores_of memory_access row value s) known))
    (performed memory_access row value s) (performed memory_access row value t)
    × (stores_of memory_access row value s ≡ stores_of memory_access row value t)
unfolding stores_of
instruction row value k known s t h mnemonic mode reads =
    let left : Alike Same (performed (logged memory_access) row value (with_empty_log s)) (performed memory_access row value s) =
    after_log row value s in
    let right : Alike Same (performed (logged memory_access) row value (with_empty_log t)) (performed memory_access row value t) =
    after_log row value t in
    let both : Near (with_parts (sets_parts row.mnemonic) k) (Noted known)
    (performed (logged memory_access) row value (with_empty_log s)) (performed (logged memory_access) row value (with_empty_log t)) =
    performed-near (Noted known) known (logged memory_access) (logged memory_access) (noting known) k row value (with_empty_log s) (with_empty_log t)
    (start k known s t h) mnemonic mode (subst (λ ns. Knows known ns) (sym (reads-logged row value s)) reads) in
    let P : Memory → Type 0 = λ m. AgreeOn (with_bytes (performed (logged memory_access) row value (with_empty_log s)).memory.log known)
    m (performed (logged memory_access) row value (with_empty_log t)).memory.memory in
    let Q : Memory → Type 0 = λ m. AgreeOn (with_bytes (performed (logged memory_access) row value (with_empty_log s)).memory.log known)
    (performed memory_access row value s).memory m in
    let A : Registers → Type 0 = λ r. MatchAt (with_parts (sets_parts row.mnemonic) k) r (performed (logged memory_access) row value (with_empty_log t)).registers in
    let B : Registers → Type 0 = λ r. MatchAt (with_parts (sets_parts row.mnemonic) k) (performed memory_access row value s).registers r in (
      record {
        registers = subst B right.registers (subst A left.registers both.registers);
        cycles = sym left.cycles ∙ both.cycles ∙ right.cycles;
        memory = subst Q right.memory (subst P left.memory both.memory.agree);
      },
      both.memory.log,
    )

-- A step

pub some≢none : {X : Type 0} (x : X) → Some x ≡ None → ⊥
some≢none x e = true≢false (ap is_some e)

-- why the instruction found at PC is stuck, given the state after it
abbrev pub cause_at : List ℕ → Result Decoded Cause → World → Option Cause
cause_at protected found world = elim found [ Err cause ↦ Some cause | Ok decoded ↦ instruction_cause protected decoded world ]

abbrev pub done_at : Result Decoded Cause → World → World
done_at found world =
    elim found as (λ _. World) [ Err cause ↦ world | Ok decoded ↦ performed memory_access decoded.row decoded.value world ]

pub not_home : (code : Code) (w : World) → stuck code w ≡ None → (w.registers.pc == return_address) ≡ false
unfolding stuck stuck_at
not_home code w free = go (w.registers.pc == return_address) free
  where
    go : (home : Bool) → (let c : Option Cause = if home then Some Returned else elim (service_at w.registers.pc) [
      | Some service ↦ service_cause code.protected service w
      | None ↦ cause_at code.protected (found_at_pc code w) w
    ] in c) ≡ None → home ≡ false
    go true bad = absurd (some≢none Returned bad)
    go false _ = refl

pub stuck_is : (code : Code) (w : World) (found : Result Decoded Cause) → (w.registers.pc == return_address) ≡ false
    → service_at w.registers.pc ≡ None
    → found_at_pc code w ≡ found → stuck code w ≡ cause_at code.protected found w
unfolding stuck stuck_at
stuck_is code w found away free is = λ i.
    if away i then Some Returned
    else elim (free i) [
      | Some service ↦ service_cause code.protected service w
      | None ↦ cause_at code.protected (is i) w
    ]

pub next_is : (code : Code) (w : World) (found : Result Decoded Cause) → service_at w.registers.pc ≡ None → found_at_pc code w ≡ found
    → next code w ≡ done_at found w
unfolding next next_at
next_is code w found free is = λ i.
    elim (free i) as (λ _. World) [ Some service ↦ served service w | None ↦ done_at (is i) w ]

pub stuck_served : (code : Code) (w : World) (service : Service) → (w.registers.pc == return_address) ≡ false
    → service_at w.registers.pc ≡ Some service → stuck code w ≡ service_cause code.protected service w
unfolding stuck stuck_at
stuck_served code w service away is = λ i.
    if away i then Some Returned
    else elim (is i) [
      | Some service ↦ service_cause code.protected service w
      | None ↦ cause_at code.protected (found_at_pc code w) w
    ]

pub next_served : (code : Code) (w : World) (service : Service) → service_at w.registers.pc ≡ Some service → next code w ≡ served service w
unfolding next next_at
next_served code w service is = λ i.
    elim (is i) as (λ _. World) [ Some service ↦ served service w | None ↦ done_at (found_at_pc code w) w ]

-- the addresses that a step reads and stores at and the parts it uses and sets, given what is at PC
pub reads_at : (code : Code) (w : World) (o : Option Service) → service_at w.registers.pc ≡ o
    → step_reads code w ≡ (elim o [ Some service ↦ service_reads service w | None ↦ found_reads (found_at_pc code w) w ])
unfolding step_reads
reads_at code w o is = λ i. elim (is i) [ Some service ↦ service_reads service w | None ↦ found_reads (found_at_pc code w) w ]

pub stores_at : (code : Code) (w : World) (o : Option Service) → service_at w.registers.pc ≡ o
    → step_stores code w ≡ (elim o [ Some service ↦ service_stores service w | None ↦ found_stores (found_at_pc code w) w ])
unfolding step_stores
stores_at code w o is = λ i. elim (is i) [ Some service ↦ service_stores service w | None ↦ found_stores (found_at_pc code w) w ]

pub needs_at : (code : Code) (w : World) (o : Option Service) → service_at w.registers.pc ≡ o
    → step_needs code w ≡ (elim o [ Some service ↦ service_needs service | None ↦ found_needs (found_at_pc code w) ])
unfolding step_needs
needs_at code w o is = λ i. elim (is i) [ Some service ↦ service_needs service | None ↦ found_needs (found_at_pc code w) ]

pub sets_at : (code : Code) (w : World) (o : Option Service) → service_at w.registers.pc ≡ o
    → step_sets code w ≡ (elim o [ Some service ↦ service_sets service | None ↦ found_sets (found_at_pc code w) ])
unfolding step_sets
sets_at code w o is = λ i. elim (is i) [ Some service ↦ service_sets service | None ↦ found_sets (found_at_pc code w) ]

-- what is found there
abbrev pub IsFoundBy : Code → (ℕ → Bool) → World → Option Service → Type 0
IsFoundBy code known w o =
    MatchOption o
    ((other : Memory) → AgreeOn known w.memory other → code.instruction_at other w.registers.pc ≡ found_at_pc code w)
    (λ service. is_keyless service ≡ true)

pub found_there : (code : Code) (known : ℕ → Bool) (w : World) → StepReads code known w → service_at w.registers.pc ≡ None
    → (other : Memory) → AgreeOn known w.memory other → code.instruction_at other w.registers.pc ≡ found_at_pc code w
found_there code known w reads free = subst (λ o. IsFoundBy code known w o) free reads.found

pub keyless_there : (code : Code) (known : ℕ → Bool) (w : World) (service : Service) → StepReads code known w
    → service_at w.registers.pc ≡ Some service → is_keyless service ≡ true
keyless_there code known w service reads is = subst (λ o. IsFoundBy code known w o) is reads.found

-- a service that is not stuck reaches no code, and fits
pub not_stuck : (protected : List ℕ) (service : Service) (w : World) → service_cause protected service w ≡ None
    → (list_any (reach service) protected ≡ false) × (fits service w.registers w.memory ≡ true)
not_stuck protected service w free = go (list_any (reach service) protected) (fits service w.registers w.memory) free
  where
    go : (reached fitting : Bool)
        → (let c : Option Cause = if reached then Some CodeWrite else if not fitting then Some Window
        else if lacks_keys service w.memory then Some Keys else None in c) ≡ None
        → (reached ≡ false) × (fitting ≡ true)
    go true fitting bad = absurd (some≢none CodeWrite bad)
    go false true free = (refl, refl)
    go false false bad = absurd (some≢none Window bad)

lacks_none : (service : Service) (memory : Memory) → is_keyless service ≡ true → lacks_keys service memory ≡ false
lacks_none Keyin memory bad = absurd (true≢false (sym bad))
lacks_none Getln memory bad = absurd (true≢false (sym bad))
lacks_none service memory is = refl

pub calm_cause : (protected : List ℕ) (service : Service) (w : World) → is_keyless service ≡ true
    → list_any (reach service) protected ≡ false → fits service w.registers w.memory ≡ true → service_cause protected service w ≡ None
calm_cause protected service w keyless away fitting = λ i.
    if away i then Some CodeWrite
    else if not (fitting i) then Some Window
    else if lacks_none service w.memory keyless i then Some Keys
    else None

-- ADC and SBC, which stop the run in decimal mode, use D
same_refusal : (mnemonic : Mnemonic) (k : Part → Bool) (r q : Registers) → Knows k (needs mnemonic) → MatchAt k r q
    → refusal_of mnemonic r.flags ≡ refusal_of mnemonic q.flags
unfolding refusal_of needs
same_refusal Adc k r q known h = ap (λ d. if d then Some decimal else None) (h.parts part_d known.1.0)
same_refusal Sbc k r q known h = ap (λ d. if d then Some decimal else None) (h.parts part_d known.1.0)
same_refusal mnemonic k r q known h = refl

-- the results of the same instruction in two worlds
Same_step : List ℕ → (Part → Bool) → (ℕ → Bool) → Result Decoded Cause → World → World → Type 0
Same_step protected k known found s t =
    (cause_at protected found t ≡ None)
    × Near (with_parts (found_sets found) k) (AgreeOn (with_bytes (found_stores found s) known)) (done_at found s) (done_at found t)
    × (found_stores found s ≡ found_stores found t)

same_step : (protected : List ℕ) (k : Part → Bool) (known : ℕ → Bool) (found : Result Decoded Cause) (s t : World)
    → Near k (AgreeOn known) s t
    → cause_at protected found s ≡ None → Knows k (found_needs found) → Knows known (found_reads found s)
    → Same_step protected k known found s t
unfolding Same_step
same_step protected k known (Err cause) s t h free looks reads = absurd (some≢none cause free)
same_step protected k known (Ok d) s t h free looks reads =
    let both : Knows k (needs d.row.mnemonic) × Knows k (mode_needs d.row.mode) =
    knows-append k (needs d.row.mnemonic) (mode_needs d.row.mode) looks in
    let law : Near (with_parts (sets_parts d.row.mnemonic) k) (AgreeOn (with_bytes (stores_of memory_access d.row d.value s) known))
    (performed memory_access d.row d.value s) (performed memory_access d.row d.value t)
    × (stores_of memory_access d.row d.value s ≡ stores_of memory_access d.row d.value t) =
    instruction d.row d.value k known s t h both.0 both.1 reads in
    let same : cause_at protected (Ok d) s ≡ cause_at protected (Ok d) t = λ i.
    elim (same_refusal d.row.mnemonic k s.registers t.registers both.0 h.registers i) [
      | Some why ↦ Some (cause_of_cpu_error why)
      | None ↦ if list_any (is_among protected) (law.1 i) then Some CodeWrite else None
    ] in
    (sym same ∙ free, law.0, law.1)

moved : (k : Part → Bool) (known : ℕ → Bool) {ps qs : List Part} {ns ms : List ℕ} {v w x y : World} → ps ≡ qs → ns ≡ ms → v ≡ x → w ≡ y
    → Near (with_parts ps k) (AgreeOn (with_bytes ns known)) v w → Near (with_parts qs k) (AgreeOn (with_bytes ms known)) x y
moved k known {ps} {qs} {ns} {ms} {v} {w} {x} {y} parts bytes left right h =
    subst (λ z. Near (with_parts qs k) (AgreeOn (with_bytes ms known)) x z) right
    (subst (λ z. Near (with_parts qs k) (AgreeOn (with_bytes ms known)) z w) left
    (subst (λ ls. Near (with_parts qs k) (AgreeOn (with_bytes ls known)) v w) bytes
    (subst (λ rs. Near (with_parts rs k) (AgreeOn (with_bytes ns known)) v w) parts h)))

-- The step from the second of two worlds that agree in everything the first one reads and uses
abbrev pub Step_alike : Code → (Part → Bool) → (ℕ → Bool) → World → World → Type 0
Step_alike code k known s t =
    (stuck code t ≡ None)
    × Near (with_parts (step_sets code s) k) (AgreeOn (with_bytes (step_stores code s) known)) (next code s) (next code t)
    × (step_stores code s ≡ step_stores code t)

module _ (code : Code) (k : Part → Bool) (known : ℕ → Bool) (s t : World) (h : Near k (AgreeOn known) s t)
    (reads : StepReads code known s) (looks : Knows k (step_needs code s)) where
  away : (s.registers.pc == return_address) ≡ false
  away = not_home code s reads.going

  away_too : (t.registers.pc == return_address) ≡ false
  away_too = ap (λ pc. pc == return_address) (sym h.registers.pc) ∙ away

  there : (o : Option Service) → service_at s.registers.pc ≡ o → service_at t.registers.pc ≡ o
  there o is = ap (λ pc. service_at pc) (sym h.registers.pc) ∙ is

  by_instruction : service_at s.registers.pc ≡ None → Step_alike code k known s t
  unfolding Same_step
  by_instruction free =
      let found : found_at_pc code t ≡ found_at_pc code s =
      ap (λ pc. code.instruction_at t.memory pc) (sym h.registers.pc) ∙ found_there code known s reads free t.memory h.memory in
      let same : Same_step code.protected k known (found_at_pc code s) s t =
      same_step code.protected k known (found_at_pc code s) s t h (sym (stuck_is code s _ away free refl) ∙ reads.going)
      (subst (λ ps. Knows k ps) (needs_at code s None free) looks) (subst (λ ns. Knows known ns) (reads_at code s None free) reads.reads) in (
        stuck_is code t _ away_too (there None free) found ∙ same.0,
        moved k known (sym (sets_at code s None free)) (sym (stores_at code s None free)) (sym (next_is code s _ free refl))
            (sym (next_is code t _ (there None free) found)) same.1,
        stores_at code s None free ∙ same.2 ∙ ap (λ f. found_stores f t) (sym found) ∙ sym (stores_at code t None (there None free)),
      )

  by_service : (service : Service) → service_at s.registers.pc ≡ Some service → Step_alike code k known s t
  by_service service is =
      let keyless : is_keyless service ≡ true = keyless_there code known s service reads is in
      let calm : (list_any (reach service) code.protected ≡ false) × (fits service s.registers s.memory ≡ true) =
      not_stuck code.protected service s (sym (stuck_served code s service away is) ∙ reads.going) in
      let law : (fits service t.registers t.memory ≡ true)
      × Near (with_parts (service_sets service) k) (AgreeOn (with_bytes (service_stores service s) known)) (served service s) (served service t)
      × (service_stores service s ≡ service_stores service t) =
      serving service k known s t h keyless calm.1 (subst (λ ps. Knows k ps) (needs_at code s (Some service) is) looks)
      (subst (λ ns. Knows known ns) (reads_at code s (Some service) is) reads.reads) in (
        stuck_served code t service away_too (there (Some service) is) ∙ calm_cause code.protected service t keyless calm.0 law.0,
        moved k known (sym (sets_at code s (Some service) is)) (sym (stores_at code s (Some service) is)) (sym (next_served code s service is))
            (sym (next_served code t service (there (Some service) is))) law.1,
        stores_at code s (Some service) is ∙ law.2 ∙ sym (stores_at code t (Some service) (there (Some service) is)),
      )

pub step : (code : Code) (k : Part → Bool) (known : ℕ → Bool) (s t : World) → Near k (AgreeOn known) s t → StepReads code known s
    → Knows k (step_needs code s) → Step_alike code k known s t
step code k known s t h reads looks = go (service_at s.registers.pc) refl
  where
    go : (o : Option Service) → service_at s.registers.pc ≡ o → Step_alike code k known s t
    go None free = by_instruction code k known s t h reads looks free
    go (Some service) is = by_service code k known s t h reads looks service is

-- a step changes only bytes at which it stores: an instruction always, a service if it fits
step_keeps : (code : Code) (w : World) (b : ℕ) → Pages w.memory → stuck code w ≡ None
    → MatchOption (service_at w.registers.pc) (Unit {0}) (λ service. is_keyless service ≡ true)
    → IsNotIn b (step_stores code w) → ram_byte (next code w).memory b ≡ ram_byte w.memory b
step_keeps code w b pages free keyless stays = at_pc (service_at w.registers.pc) refl keyless
  where
    go : (found : Result Decoded Cause) → IsNotIn b (found_stores found w)
        → ram_byte (done_at found w).memory b ≡ ram_byte w.memory b
    go (Err cause) _ = refl
    go (Ok d) stays = performed-stores memory_access ram_byte changed_by_writes d.row d.value w b stays

    at_pc : (o : Option Service) → service_at w.registers.pc ≡ o → MatchOption o (Unit {0}) (λ service. is_keyless service ≡ true)
        → ram_byte (next code w).memory b ≡ ram_byte w.memory b
    at_pc None is _ =
        ap (λ v. ram_byte v.memory b) (next_is code w _ is refl)
        ∙ go (found_at_pc code w) (subst (λ ns. IsNotIn b ns) (stores_at code w None is) stays)
    at_pc (Some service) is keyless =
        ap (λ v. ram_byte v.memory b) (next_served code w service is)
        ∙ (keeping service w keyless (not_stuck code.protected service w (sym (stuck_served code w service (not_home code w free) is) ∙ free)).1 pages).0
        b (subst (λ ns. IsNotIn b ns) (stores_at code w (Some service) is) stays)

-- the service in the other world needs no key either
keyless_at : (code : Code) (known : ℕ → Bool) (s t : World) → s.registers.pc ≡ t.registers.pc → StepReads code known s
    → MatchOption (service_at t.registers.pc) (Unit {0}) (λ service. is_keyless service ≡ true)
keyless_at code known s t same reads = go (service_at t.registers.pc) refl
  where
    go : (o : Option Service) → service_at t.registers.pc ≡ o → MatchOption o (Unit {0}) (λ service. is_keyless service ≡ true)
    go None _ = tt
    go (Some service) is = keyless_there code known s service reads (ap (λ pc. service_at pc) same ∙ is)

-- A run

-- the results of this many steps from two worlds
record IsRun (code : Code) (k : Part → Bool) (known : ℕ → Bool) (s t : World) (n : ℕ) : Type 0 where
  near : Near (parts_known_after code k s n) (AgreeOn (bytes_known_after code known s n)) (world_at code s n) (world_at code t n)
  going : (m : ℕ) → m < n → stuck code (world_at code t m) ≡ None
  stores : stores_in code s n ≡ stores_in code t n
  rest : (b : ℕ) → IsNotIn b (stores_in code t n) → ram_byte (world_at code t n).memory b ≡ ram_byte t.memory b

run : (code : Code) (k : Part → Bool) (known : ℕ → Bool) (s t : World) (n : ℕ) → Near k (AgreeOn known) s t
    → RunReads code known s n → RunNeeds code k s n → IsRun code k known s t n
unfolding parts_known_after bytes_known_after stores_in world_at
run code k known s t zero h reads looks = record { near = h; going = λ m lt. let bad : ⊥ = omega (arith, lt) in absurd bad; stores = refl; rest = λ b _. refl }
run code k known s t (suc n) h reads looks =
    let so_far : IsRun code k known s t n =
    run code k known s t n h (λ m lt. let below : m < suc n = omega (arith, lt) in reads m below) (λ m lt. let below : m < suc n = omega (arith, lt) in looks m below) in
    let last : n < suc n = omega arith in
    let one : Step_alike code (parts_known_after code k s n) (bytes_known_after code known s n) (world_at code s n) (world_at code t n) =
    step code (parts_known_after code k s n) (bytes_known_after code known s n) (world_at code s n) (world_at code t n) so_far.near (reads n last) (looks n last) in
    record {
      near = one.1;
      going = λ m lt. let below : m < n + 1 = omega (arith, lt) in below_more (λ j. stuck code (world_at code t j) ≡ None) n so_far.going one.0 m below;
      stores = ap₂ (λ ns ms. ns ++ ms) so_far.stores one.2;
      rest = λ b stays. step_keeps code (world_at code t n) b so_far.near.memory.right_pages one.0
          (keyless_at code (bytes_known_after code known s n) (world_at code s n) (world_at code t n) so_far.near.registers.pc (reads n last)) (not_in-append b (stores_in code t n) _ stays).1
          ∙ so_far.rest b (not_in-append b (stores_in code t n) _ stays).0;
    }

pub runs : (code : Code) (k : Part → Bool) (known : ℕ → Bool) (s t : World) (n : ℕ) → Near k (AgreeOn known) s t
    → RunReads code known s n → RunNeeds code k s n
    → Near (parts_known_after code k s n) (AgreeOn (bytes_known_after code known s n)) (world_at code s n) (world_at code t n) × RunsAlike code s t n
runs code k known s t n h reads looks =
    let same : IsRun code k known s t n = run code k known s t n h reads looks in (
      same.near,
      record {
        going = same.going;
        stores = same.stores;
        rest = λ b stays. same.rest b (subst (λ ns. IsNotIn b ns) same.stores stays);
        returns = λ limit within home. record {
          within = within;
          reached = refl;
          first = same.going;
          cause = inl (returns_there code (world_at code t n) (sym same.near.registers.pc ∙ home));
        };
      },
    )
