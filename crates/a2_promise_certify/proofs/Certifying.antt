-- A state that is tried: what promises see of a board, and a promise that is kept after the routine's own RTS.
use Rattle.std.specs.Prelude.{◌≡◌, ◌⊎◌, ◌<◌, ◌≤◌, ℕ, suc, ◌+◌, ◌-◌, ◌||◌, Bool, true, false, IsTrue, List, [], length, Some, None, slice_get, slice_index, if◌then◌else◌, refl}
use Rattle.std.proofs.Common.{sym, ap, ◌∙◌, subst, arith, inl, inr, true≢false}
use Rattle.std.proofs.lemmas.Bool.{cases_lt}
use Rattle.std.proofs.lemmas.List.{get_or_past}
use Rattle.std.proofs.lemmas.List.FromFn.{fill_by_all}
use Rattle.std.proofs.lemmas.Option.{slice_get_within}
use Rattle.a2_text.specs.Bytes.{is_among}
use Rattle.a2_bus.specs.BusState.{BusState, board_access}
use Rattle.a2_bus.specs.Memory.{ram_byte, ram_end}
use Rattle.a2_bus.specs.View.{memory_of}
use Rattle.a2_bus.proofs.Viewing.{byte_seen, memory_of-agrees}
use Rattle.a2_cpu.specs.GuardedBusStep.{guarded_bus_step}
use Rattle.a2_effect.specs.Registers.{Registers}
use Rattle.a2_cpu.specs.View.{guarded_answer_of, state_left_by}
use Rattle.a2_effect.specs.Instruction.{state_of}
use Rattle.a2_cpu.specs.declared.GuardedStep.TheVariants as answer
use Rattle.a2_services.specs.World.{World, world_of}
use Rattle.a2_machine.specs.Meaning.{next, world_at}
use Rattle.a2_machine.specs.Outcome.{IsStepExecuted}
use Rattle.a2_machine.proofs.Outcomes.{instruction_step}
use Rattle.a2_promise.specs.declared.promises.Changes.{Changes}
use Rattle.a2_promise.specs.declared.promises.Clause.{Clause}
use Rattle.a2_promise.specs.declared.promises.Promise.{Promise}
use Rattle.a2_promise.specs.ReadsOfValues.{Known}
use Rattle.a2_promise.specs.Values.{Moment}
use Rattle.a2_footprint.specs.declared.Part.{Part}
use Rattle.a2_footprint.specs.declared.Part.TheVariants.{A as part_a, X as part_x, Y as part_y}
use Rattle.a2_footprint.specs.Calls.{GoesBack}
use Rattle.a2_footprint.specs.Parts.{held}
use Rattle.a2_footprint.specs.Reads.{AgreeOn}
use Rattle.a2_cpu.specs.Stores.{IsNotIn}
use Rattle.a2_footprint.specs.Runs.{bytes_known_after, stores_in}
use Rattle.a2_footprint.specs.RotatedStack.{in_stack}
use Rattle.a2_footprint.specs.Uses.{Near, parts_known_after}
use Rattle.a2_footprint.proofs.Calling.{calls}
use Rattle.a2_footprint.proofs.Running.{runs}
use Rattle.a2_promise_certify.specs.declared.known_parts.KnownParts.{KnownParts}
use Rattle.a2_promise_certify.specs.But.{IsEqualExcept}
use Rattle.a2_promise_certify.specs.Certifying.{AreRegistersKept, IsStateTried}
use Rattle.a2_promise_certify.specs.Judging.{all_hold}
use Rattle.a2_promise_certify.specs.Kept.{IsKept, AreClausesKnown, bytes_of, code, is_own, known_by, may_change, may_store, moment}
use Rattle.a2_promise_certify.specs.Walking.{ReachesOwnRts, is_allowed, is_set, known_now, knows_part}
use Rattle.a2_promise_certify.proofs.Home.{known_split, not_stored}

-- The bytes of a board are those that promises see.
pub board_bytes : (bus : BusState) → length bus.bytes ≡ ram_end → bus.bytes ≡ bytes_of (memory_of bus)
unfolding bytes_of
board_bytes bus size = fill_by_all (ram_byte (memory_of bus)) bus.bytes ram_end 0 size (λ k low. byte_seen bus k size low)

-- A step that is executed is a step of the world.
pub stepped : (registers : Registers) (bus : BusState) → length bus.bytes ≡ ram_end → (opcode : ℕ) → slice_get bus.bytes registers.pc ≡ Some opcode
    → (new_registers : Registers) (new_bus : BusState) (cycles before : ℕ)
    → answer.Next cycles ≡ guarded_answer_of (guarded_bus_step (is_among []) board_access (state_of registers bus))
    → new_registers ≡ (state_left_by (guarded_bus_step (is_among []) board_access (state_of registers bus)) (state_of registers bus)).registers
    → new_bus ≡ (state_left_by (guarded_bus_step (is_among []) board_access (state_of registers bus)) (state_of registers bus)).memory
    → world_of new_registers new_bus (before + cycles) ≡ next code (world_of registers bus before)
stepped registers bus size opcode there new_registers new_bus cycles before told left_registers left_bus =
    let low : registers.pc < ram_end = omega (arith, slice_get_within bus.bytes registers.pc opcode there, size) in
    let made : IsStepExecuted None registers bus new_registers new_bus cycles =
    instruction_step None registers bus size low refl new_registers new_bus cycles told left_registers left_bus in
    made.world before

not_allowed : (changes : Changes) (a : ℕ) → in_stack a ≡ false → may_store changes a ≡ false → is_allowed changes a ≡ false
not_allowed changes a off may = ap (λ v. if v then is_own 0xFD a else may_store changes a) off ∙ may

not_own : (changes : Changes) (a : ℕ) → in_stack a ≡ true → is_own 0xFD a ≡ false → is_allowed changes a ≡ false
not_own changes a stacked own = ap (λ v. if v then is_own 0xFD a else may_store changes a) stacked ∙ own

module _ (known marks : List Bool) (parts last : KnownParts) (promise : Promise) (first : Registers) (first_bus : BusState)
    (registers : Registers) (bus : BusState) (cycles n : ℕ)
    (home : ReachesOwnRts known marks parts last promise.changes first first_bus registers bus cycles n) where
  start : World
  start = world_of first first_bus 0

  known_same : known_now known marks ≡ bytes_known_after code (is_set known) (world_of first first_bus 0) n
  known_same = λ i a.
      (ap (λ v. v || is_set known a) (home.walk.stored a) ∙ sym (known_split code (is_set known) (world_of first first_bus 0) n a)) i

  parts_same : knows_part last ≡ parts_known_after code (knows_part parts) (world_of first first_bus 0) n
  parts_same = λ i part. home.walk.parts part i

  unmarked : (a : ℕ) → is_allowed promise.changes a ≡ false → is_set marks a ≡ false
  unmarked a not_allowed = go (is_set marks a) refl
    where
      go : (set : Bool) → is_set marks a ≡ set → is_set marks a ≡ false
      go true is = absurd (true≢false (sym (home.walk.allowed a is).0 ∙ not_allowed))
      go false is = is

  unstored : (a : ℕ) → is_allowed promise.changes a ≡ false → IsNotIn a (stores_in code (world_of first first_bus 0) n)
  unstored a out = not_stored code (world_of first first_bus 0) n a (sym (home.walk.stored a) ∙ unmarked a out)

  module _ (following : Registers) (behind_bus : BusState) (total : ℕ)
      (made : world_of following behind_bus total ≡ next code (world_of registers bus cycles)) where
    abbrev entry : Moment
    entry = record { registers = first; bytes = bytes_of (memory_of first_bus); cycles = 0; steps = 0 }

    abbrev exit : Moment
    exit = record { registers = following; bytes = bytes_of (memory_of behind_bus); cycles = total; steps = n + 1 }

    abbrev behind_moment : Moment
    behind_moment = moment (world_of first first_bus 0) (world_at code (world_of first first_bus 0) (suc n)) (suc n)

    at_end : world_of following behind_bus total ≡ world_at code (world_of first first_bus 0) (suc n)
    unfolding world_at
    at_end = made ∙ ap (λ w. next code w) home.walk.world

    end_seen : exit ≡ behind_moment
    end_seen =
        let all : total ≡ total - 0 = omega arith in
        let more : n + 1 ≡ suc n = omega arith in
        (λ i. record { registers = following; bytes = bytes_of (memory_of behind_bus); cycles = all i; steps = more i })
        ∙ ap (λ w. moment (world_of first first_bus 0) w (suc n)) at_end

    stayed : (part : Part)
        → (knows_part last part ≡ false) ⊎ (IsTrue (knows_part parts part) × (held part registers ≡ held part first))
        → (parts_known_after code (knows_part parts) (world_of first first_bus 0) n part ≡ false)
        ⊎ (IsTrue (knows_part parts part) × (held part (world_at code (world_of first first_bus 0) n).registers ≡ held part first))
    stayed part (inl unknown) = inl (sym (home.walk.parts part) ∙ unknown)
    stayed part (inr was) = inr (was.0, sym (ap (λ (w : World). held part w.registers) home.walk.world) ∙ was.1)

    pub kept : (most : ℕ) → n < most → AreRegistersKept promise.changes parts last first registers
        → AreClausesKnown promise.promised.items (known_by (is_set known) (knows_part parts)) (known_by (known_now known marks) (knows_part last)) entry exit
        → IsTrue (all_hold promise.promised.items entry exit)
        → IsKept (is_set known) (knows_part parts) promise most (world_of first first_bus 0)
    kept most within same looks hold = record {
      steps = n;
      within = omega (arith, within);
      comes = home.comes;
      implied = home.implied;
      off_stack = home.walk.off_stack;
      home_off_stack = home.home_off_stack;
      own = λ a stacked own. unstored a (not_own promise.changes a stacked (ap (λ s. is_own s a) (sym home.s) ∙ own));
      looks =
          subst (λ (bytes : ℕ → Bool). AreClausesKnown promise.promised.items (known_by (is_set known) (knows_part parts))
          (known_by bytes (parts_known_after code (knows_part parts) (world_of first first_bus 0) n)) entry behind_moment) known_same
          (subst (λ (some : Part → Bool). AreClausesKnown promise.promised.items (known_by (is_set known) (knows_part parts))
          (known_by (known_now known marks) some) entry behind_moment) parts_same
          (subst (λ (m : Moment). AreClausesKnown promise.promised.items (known_by (is_set known) (knows_part parts))
          (known_by (known_now known marks) (knows_part last)) entry m) end_seen looks));
      ensured = sym (ap (λ m. all_hold promise.promised.items entry m) end_seen) ∙ hold;
      registers = λ part may. stayed part (same part may);
      rest = λ a low off may. inl (unstored a (not_allowed promise.changes a off may));
    }

    -- After the RTS each byte that is not marked as stored is unchanged.
    module _ (first_size : length first_bus.bytes ≡ ram_end) (size : length behind_bus.bytes ≡ ram_end) where
      near : Near (knows_part parts) (AgreeOn (is_set known)) (world_of first first_bus 0) (world_of first first_bus 0)
      near =
          let board = memory_of-agrees first_bus first_size in
          record {
            registers = record { s = refl; pc = refl; parts = λ part known. refl };
            cycles = refl;
            memory = record {
              left_pages = (board.first_page, board.second_page);
              right_pages = (board.first_page, board.second_page);
              devices = refl;
              bytes = λ a low known. refl;
            };
          }

      back : GoesBack code (world_of first first_bus 0) n
      back = calls code (knows_part parts) (is_set known) (world_of first first_bus 0) (world_of first first_bus 0) n near home.comes

      stays : (a : ℕ) → is_set marks a ≡ false → ram_byte (world_at code (world_of first first_bus 0) n).memory a ≡ ram_byte (memory_of first_bus) a
      stays a out =
          (runs code (knows_part parts) (is_set known) (world_of first first_bus 0) (world_of first first_bus 0) n near home.comes.reads home.comes.needs).1.rest a
          (not_stored code (world_of first first_bus 0) n a (sym (home.walk.stored a) ∙ out))

      same_byte : (a : ℕ) → is_set marks a ≡ false → (a < ram_end) ⊎ (ram_end ≤ a) → slice_index behind_bus.bytes a ≡ slice_index first_bus.bytes a
      same_byte a out (inl low) =
          byte_seen behind_bus a size low ∙ ap (λ (w : World). ram_byte w.memory a) at_end ∙ ap (λ m. ram_byte m a) back.memory ∙ stays a out
          ∙ sym (byte_seen first_bus a first_size low)
      same_byte a out (inr past) =
          get_or_past behind_bus.bytes a 0 (subst (λ k. k ≤ a) (sym size) past)
          ∙ sym (get_or_past first_bus.bytes a 0 (subst (λ k. k ≤ a) (sym first_size) past))

      pub left_by_walk : behind_bus.devices ≡ first_bus.devices → IsEqualExcept (is_set marks) behind_bus first_bus
      left_by_walk devices = record {
        size = size ∙ sym first_size;
        bytes = λ a out. same_byte a out (cases_lt a ram_end);
        devices = devices;
      }

-- So the promise is kept if it is checked as the program does.
pub kept_by : (known marks : List Bool) (parts first_parts last last_parts : KnownParts) (promise : Promise) (most : ℕ) (first : Registers)
    (first_bus before : BusState) (registers : Registers) (bus : BusState) (cycles n : ℕ) → first_parts ≡ parts → before ≡ first_bus → last_parts ≡ last
    → n < most → ReachesOwnRts known marks first_parts last promise.changes first first_bus registers bus cycles n
    → AreRegistersKept promise.changes parts last first registers
    → (following : Registers) (behind_bus : BusState) (total : ℕ)
    → world_of following behind_bus total ≡ next code (world_of registers bus cycles)
    → (clauses : List Clause) → clauses ≡ promise.promised.items → (sure : Known) → sure ≡ known_by (is_set known) (knows_part parts)
    → (m n' : Moment)
    → m ≡ (let entry : Moment = record { registers = first; bytes = bytes_of (memory_of before); cycles = 0; steps = 0 } in entry)
    → n' ≡ (let exit : Moment = record { registers = following; bytes = bytes_of (memory_of behind_bus); cycles = total; steps = n + 1 } in exit)
    → AreClausesKnown clauses sure (known_by (known_now known marks) (knows_part last_parts)) m n'
    → IsTrue (all_hold clauses m n')
    → IsKept (is_set known) (knows_part parts) promise most (world_of first first_bus 0)
kept_by known marks parts first_parts last last_parts promise most first first_bus before registers bus cycles n same_parts same_bus same_last within home
    same following behind_bus total made clauses same_clauses sure is_sure m n' entry_is exit_is looks hold =
    let entry : Moment = record { registers = first; bytes = bytes_of (memory_of first_bus); cycles = 0; steps = 0 } in
    let exit : Moment = record { registers = following; bytes = bytes_of (memory_of behind_bus); cycles = total; steps = n + 1 } in
    let from_board : m ≡ entry =
    entry_is ∙ (λ i. record { registers = first; bytes = bytes_of (memory_of (same_bus i)); cycles = 0; steps = 0 }) in
    let own : ReachesOwnRts known marks parts last promise.changes first first_bus registers bus cycles n =
    subst (λ (p : KnownParts). ReachesOwnRts known marks p last promise.changes first first_bus registers bus cycles n) same_parts home in
    let looked : AreClausesKnown promise.promised.items (known_by (is_set known) (knows_part parts)) (known_by (known_now known marks) (knows_part last)) entry exit =
    subst (λ (p : KnownParts). AreClausesKnown promise.promised.items (known_by (is_set known) (knows_part parts))
    (known_by (known_now known marks) (knows_part p)) entry exit) same_last
    (subst (λ (s : Known). AreClausesKnown promise.promised.items s (known_by (known_now known marks) (knows_part last_parts)) entry exit) is_sure
    (subst (λ (c : List Clause). AreClausesKnown c sure (known_by (known_now known marks) (knows_part last_parts)) entry exit) same_clauses
    (subst (λ (k : Moment). AreClausesKnown clauses sure (known_by (known_now known marks) (knows_part last_parts)) entry k) exit_is
    (subst (λ (k : Moment). AreClausesKnown clauses sure (known_by (known_now known marks) (knows_part last_parts)) k n') from_board looks)))) in
    let holds : IsTrue (all_hold promise.promised.items entry exit) =
    subst (λ (c : List Clause). IsTrue (all_hold c entry exit)) same_clauses
    (subst (λ (k : Moment). IsTrue (all_hold clauses entry k)) exit_is
    (subst (λ (k : Moment). IsTrue (all_hold clauses k n')) from_board hold)) in
    kept known marks parts last promise first first_bus registers bus cycles n own following behind_bus total made most within same looked holds

-- So a state is tried.
pub tried_by : (known : List Bool) (parts : KnownParts) (promise : Promise) (most : ℕ) (start : World) (clauses : List Clause) → clauses ≡ promise.wanted.items
    → (sure : Known) → sure ≡ known_by (is_set known) (knows_part parts) → (m : Moment) → m ≡ moment start start 0
    → AreClausesKnown clauses sure sure m m
    → (IsTrue (all_hold clauses m m) → IsKept (is_set known) (knows_part parts) promise most start)
    → IsStateTried known parts promise most start
tried_by known parts promise most start clauses same_clauses sure is_sure m is_start looks kept = record {
  looks =
      subst (λ (s : Known). AreClausesKnown promise.wanted.items s s (moment start start 0) (moment start start 0)) is_sure
      (subst (λ (c : List Clause). AreClausesKnown c sure sure (moment start start 0) (moment start start 0)) same_clauses
      (subst (λ (k : Moment). AreClausesKnown clauses sure sure k k) is_start looks));
  kept = λ required.
      kept (subst (λ (k : Moment). IsTrue (all_hold clauses k k)) (sym is_start)
      (subst (λ (c : List Clause). IsTrue (all_hold c (moment start start 0) (moment start start 0))) (sym same_clauses) required));
}

-- the registers that are kept, one by one
pub registers_kept : (changes : Changes) (parts last : KnownParts) (before following : Registers)
    → (changes.a ≡ false → (knows_part last part_a ≡ false) ⊎ (IsTrue (knows_part parts part_a) × (following.a ≡ before.a)))
    → (changes.x ≡ false → (knows_part last part_x ≡ false) ⊎ (IsTrue (knows_part parts part_x) × (following.x ≡ before.x)))
    → (changes.y ≡ false → (knows_part last part_y ≡ false) ⊎ (IsTrue (knows_part parts part_y) × (following.y ≡ before.y)))
    → AreRegistersKept changes parts last before following
registers_kept changes parts last before following a x y = each
  where
    each : (part : Part) → may_change changes part ≡ false
        → (knows_part last part ≡ false) ⊎ (IsTrue (knows_part parts part) × (held part following ≡ held part before))
    each part_a may = a may
    each part_x may = x may
    each part_y may = y may
    each part bad = absurd (true≢false bad)
