-- What a routine meets is what its promise says about the bytes that run, so the promise is kept.
use Rattle.std.specs.Prelude.{◌≡◌, ◌<◌, ℕ, suc, ◌+◌, ◌*◌, ◌%◌, ◌&&◌, ◌||◌, Bool, true, false, nat_le, nat_lt, IsTrue, List, [], ◌∷◌, map, Some, None, is_some, refl}
use Rattle.std.specs.List.{list_all, list_any}
use Rattle.std.proofs.Common.{sym, ap, ap₂, ◌∙◌, subst, arith, true≢false}
use Rattle.a2_text.specs.Bytes.{is_among}
use Rattle.a2_hex.specs.Images.{held}
use Rattle.a2_bus.specs.Memory.{ram_byte, ram_end}
use Rattle.a2_bus.specs.Devices.{Devices}
use Rattle.a2_bus.specs.PowerOn.{start_memory}
use Rattle.a2_syntax.proofs.OneReading.{one-source}
use Rattle.a2_asm.specs.Assembled.{Assembled}
use Rattle.a2_asm.specs.Layout.{names}
use Rattle.a2_asm.specs.Pass.{source_rows}
use Rattle.a2_asm.specs.Programs.{IsProgram, IsSound, instr_at, is_code}
use Rattle.a2_asm.specs.Values.{Names}
use Rattle.a2_asm.specs.declared.program.Statement.{Statement}
use Rattle.a2_asm.proofs.MadeLaws.{IsMade, made-of}
use Rattle.a2_asm.proofs.RunLaws.{program-sound}
use Rattle.a2_effect.specs.Registers.{Registers}
use Rattle.a2_services.specs.World.{World}
use Rattle.a2_machine.specs.Guarded.{HoldsCode}
use Rattle.a2_machine.specs.Meaning.{Code, statements, world_at}
use Rattle.a2_machine.specs.ByteRun.{bytes}
use Rattle.a2_machine.specs.ProgramGuard.{guard_of_program}
use Rattle.a2_machine.proofs.Laid.{laid_by, start-holds}
use Rattle.a2_machine.proofs.Protected.{code-bytes, code_bytes, guarded, same_walk}
use Rattle.a2_machine.proofs.Walks.{walked, then}
use Rattle.a2_run.specs.Meaning.{IsProgramOf}
use Rattle.a2_promise.specs.declared.promises.Clause.{Clause}
use Rattle.a2_promise.specs.declared.promises.Promise.{Promise}
use Rattle.a2_promise.specs.declared.promises.Range.{Range}
use Rattle.a2_footprint.specs.declared.Part.{Part}
use Rattle.a2_footprint.specs.declared.Part.TheVariants.{A as part_a, X as part_x, Y as part_y, N as part_n, V as part_v, D as part_d, I as part_i, Z as part_z, C as part_c}
use Rattle.a2_footprint.specs.InstructionReads.{pull_address}
use Rattle.a2_footprint.specs.Calls.{GoesBack}
use Rattle.a2_footprint.specs.Parts.{held as part_held}
use Rattle.a2_promise.specs.Values.{value_of}
use Rattle.a2_promise_certify.specs.Judging.{all_hold, holds, no_names}
use Rattle.a2_promise_certify.specs.Kept.{is_own, may_change, may_store, moment}
use Rattle.a2_promise_certify.specs.States.{Enters}
use Rattle.a2_theorems.proofs.TextRunProofs.{IsAccepted, accepted, entry_of, not_refused, source_of, statements_of}
use Rattle.a2_promise.specs.Phrases.{Phrase, phrase_of}
use Rattle.a2_promise.specs.PromisedTerms.{Terms, IsPromisedBy, IsPromise}
use Rattle.a2_promise_rules.specs.Promised.{lines_of_routines, KeepsPromise, IsProved}
use Rattle.a2_promise_rules.specs.Typed.{KeepsWithKeys, keys_of, laid_with_keys}
use Rattle.a2_promise_rules.specs.Worlds.{OnlyBytes}
use Rattle.a2_promise_rules.proofs.Bytes as run
use Rattle.a2_promise_rules.proofs.Entered.{Laid, State, are_bytes, entered, is_met, keys_stated, laid_of, same_keys, world_of}
use Rattle.a2_promise_rules.proofs.Leaving.{Leaves, Waits, none_waits, waits_all}
use Rattle.a2_promise_rules.proofs.Ranges.{all_pass, both, is_in, passes_not}
use Rattle.a2_promise_rules.proofs.Meeting.{IsWhole, only_bytes, enter, Back, Meets, Reaches}
use Rattle.a2_promise_rules.proofs.PhraseMeanings.{all_say, all_tell, tells, unnamed}
use Rattle.a2_promise_rules.proofs.Claims.{said_holds, holds_said}

neither : (x y : Bool) → (x || y) ≡ false → (x ≡ false) × (y ≡ false)
neither true y h = absurd (true≢false h)
neither false y h = (refl, h)

-- the code of statements
abbrev pub code_of : List Statement → Code
code_of all = statements (instr_at all) (code_bytes all)

-- Clauses

abbrev phrases : List Clause → List Phrase
phrases clauses = map (λ clause. phrase_of clause.expr) clauses

module _ (w v : World) (steps : ℕ) (bw : OnlyBytes w) (bv : OnlyBytes v) where
  all_said : (clauses : List Clause) → all_tell (phrases clauses) ≡ true → all_say (phrases clauses) w v
      → IsTrue (all_hold clauses (moment w w 0) (moment w v steps))
  all_said [] tell says = refl
  all_said (clause ∷ more) tell says =
      let two = both (tells (phrase_of clause.expr) unnamed) (all_tell (phrases more)) tell in
      ap₂ (λ a b. a && b) (said_holds clause.expr w v steps bw bv two.0 says.0) (all_said more two.1 says.1)

  all_required : (clauses : List Clause) → all_tell (phrases clauses) ≡ true
      → IsTrue (all_hold clauses (moment w w 0) (moment w v steps)) → all_say (phrases clauses) w v
  all_required [] tell h = tt
  all_required (clause ∷ more) tell h =
      let two = both (tells (phrase_of clause.expr) unnamed) (all_tell (phrases more)) tell in
      let is = both (holds (value_of clause.expr (moment w w 0) (moment w v steps) no_names)) (all_hold more (moment w w 0) (moment w v steps)) h in
      (holds_said clause.expr w v steps bw bv two.0 is.0, all_required more two.1 is.1)

-- Bytes that may change

-- an address that `changes` names, or one in the routine's own part of the stack, with S equal to $FD
abbrev pub may_be_stored : Terms → ℕ → Bool
may_be_stored terms a = is_in terms.ranges a || is_own 0xFD a

same_ranges : (ranges : List Range) (a : ℕ)
    → list_any (λ range. nat_le range.first a && nat_le a range.last) ranges ≡ is_in (map (λ range. (range.first, range.last)) ranges) a
same_ranges [] a = refl
same_ranges (range ∷ more) a = ap (λ v. (nat_le range.first a && nat_le a range.last) || v) (same_ranges more a)

-- what is known at the entry
pub record Before (terms : Terms) (w : World) : Type 0 where
  pub says : all_say terms.wanted w w
  pub waits : Waits (keys_stated terms) w

-- what is known after the routine
pub record After (terms : Terms) (changed : List (ℕ × ℕ)) (w v : World) : Type 0 where
  pub says : all_say terms.promised w v
  pub a : terms.a ≡ false → v.registers.a ≡ w.registers.a
  pub x : terms.x ≡ false → v.registers.x ≡ w.registers.x
  pub y : terms.y ≡ false → v.registers.y ≡ w.registers.y
  pub rest : Leaves w.memory (is_in changed) (keys_stated terms) v
  pub bytes : IsWhole v

-- A world at the entry

module _ (program : Assembled) (sound : IsSound program) (promise : Promise) (world : World)
    (enters : Enters (laid_with_keys (held program.image) promise.address (keys_of promise)) world) where
  entered_there : enter promise.address 0xFD world ≡ world
  entered_there = λ i. record world {
    registers = record world.registers {
      pc = enters.registers.pc i;
      s = enters.registers.s i;
      flags = record world.registers.flags { d = enters.registers.parts part_d refl i };
    };
  }

  in_code : (a : ℕ) → list_all (λ n. nat_lt n ram_end) (code_bytes program.statements) ≡ true
      → IsTrue (is_among (guard_of_program program).code a) → is_code program.statements a ≡ true
  unfolding guard_of_program
  in_code a low among = sym (code-bytes program.statements a) ∙ sym (guarded program.statements low a) ∙ among

  holds_code : list_all (λ n. nat_lt n ram_end) (code_bytes program.statements) ≡ true
      → HoldsCode (guard_of_program program).code (laid_by program) world.memory
  holds_code low a among = sym (enters.bytes a fixed) ∙ start-holds program (keys_of promise) sound a among
    where
      fixed : (is_some (held program.image a) && true) ≡ true
      fixed = ap (λ o. is_some o && true) (sound.is_held a (in_code a low among)).1

  keys_wait : world.memory.devices.keys ≡ keys_of promise
  unfolding start_memory
  keys_wait = ap (λ (d : Devices). d.keys) (sym enters.devices)

-- THE PROMISE IS KEPT, given what the routine meets

module _ (all : List Statement) (program : Assembled) (sound : IsSound program) (stated : program.statements ≡ all)
    (low : list_all (λ n. nat_lt n ram_end) (code_bytes all) ≡ true) (terms : Terms) (promise : Promise) (says : IsPromise promise terms) (changed : List (ℕ × ℕ))
    (promised : all_tell terms.promised ≡ true) (stored : all_pass (may_be_stored terms) changed ≡ true) where
  low_program : list_all (λ n. nat_lt n ram_end) (code_bytes program.statements) ≡ true
  low_program = subst (λ l. list_all (λ n. nat_lt n ram_end) (code_bytes l) ≡ true) (sym stated) low

  -- a walk over the statements is a walk over the program's statements
  walk_of : (w v : World) (n : ℕ) → walked (code_of all) w n ≡ Some v → walked (run.code program sound) w n ≡ Some v
  unfolding guard_of_program
  walk_of w v n walk =
      same_walk (instr_at program.statements) (guard_of_program program).code (code_bytes program.statements) (guarded program.statements low_program) w n
      ∙ subst (λ l. walked (code_of l) w n ≡ Some v) (sym stated) walk

  one_more : (n : ℕ) → n + 1 ≡ suc n
  one_more n = omega arith

  module _ (w : World) (enters : Enters (laid_with_keys (held program.image) promise.address (keys_of promise)) w) (bytes_w : OnlyBytes w)
      (n : ℕ) (u v : World)
      (walk : walked (code_of all) w n ≡ Some u) (back : Back (code_of all) 0xFD w u v) (after : After terms changed w v) where
    laid_there : HoldsCode (guard_of_program program).code (laid_by program) w.memory
    laid_there = holds_code program sound promise w enters low_program

    runs : run.Runs program sound w u n
    runs = run.goes program sound n w u laid_there (walk_of w u n walk)

    whole : run.Runs program sound w v (suc n)
    whole =
        run.goes program sound (suc n) w v laid_there
        (walk_of w v (suc n) (subst (λ k. walked (code_of all) w k ≡ Some v) (one_more n) (then (code_of all) w u v n 1 walk back.step)))

    -- after the RTS, given the S at the entry
    returned : World → ℕ → Registers
    returned x s = record x.registers {
      s = (s + 2) % 256;
      pc = (ram_byte w.memory (pull_address s 1) + 256 * ram_byte w.memory (pull_address s 2) + 1) % 65536;
    }

    goes_back : GoesBack (bytes None) w n
    unfolding returned
    goes_back = record {
      going = whole.going;
      registers = ap (λ (x : World). x.registers) whole.there ∙ back.registers
          ∙ ap (λ pc. let r : Registers = record u.registers { s = 0xFF; pc = pc } in r) back.home
          ∙ ap (λ (x : World). returned x 0xFD) (sym runs.there) ∙ ap (λ s. returned (world_at (bytes None) w n) s) enters.registers.s;
      memory = ap (λ (x : World). x.memory) whole.there ∙ back.memory ∙ ap (λ (x : World). x.memory) (sym runs.there);
    }

    tell : all_tell (phrases promise.promised.items) ≡ true
    tell = subst (λ l. all_tell l ≡ true) (sym says.promised) promised

    ensured : IsTrue (all_hold promise.promised.items (moment w w 0) (moment w (world_at (bytes None) w (suc n)) (suc n)))
    ensured =
        subst (λ x. IsTrue (all_hold promise.promised.items (moment w w 0) (moment w x (suc n)))) (sym whole.there)
        (all_said w v (suc n) bytes_w (only_bytes v after.bytes) promise.promised.items tell
        (subst (λ l. all_say l w v) (sym says.promised) after.says))

    registers : (part : Part) → may_change promise.changes part ≡ false
        → part_held part (world_at (bytes None) w (suc n)).registers ≡ part_held part w.registers
    registers part_a h = ap (λ (x : World). x.registers.a) whole.there ∙ after.a (sym says.a ∙ h)
    registers part_x h = ap (λ (x : World). x.registers.x) whole.there ∙ after.x (sym says.x ∙ h)
    registers part_y h = ap (λ (x : World). x.registers.y) whole.there ∙ after.y (sym says.y ∙ h)
    registers part_n h = absurd (true≢false h)
    registers part_v h = absurd (true≢false h)
    registers part_d h = absurd (true≢false h)
    registers part_i h = absurd (true≢false h)
    registers part_z h = absurd (true≢false h)
    registers part_c h = absurd (true≢false h)

    not_stored : (a : ℕ) → is_own 0xFD a ≡ false → may_store promise.changes a ≡ false → may_be_stored terms a ≡ false
    not_stored a own may =
        ap₂ (λ x y. x || y)
        (sym (same_ranges promise.changes.ranges.items a ∙ ap (λ l. is_in l a) says.ranges) ∙ may) own

    rest : (a : ℕ) → a < ram_end → is_own w.registers.s a ≡ false → may_store promise.changes a ≡ false
        → ram_byte (world_at (bytes None) w (suc n)).memory a ≡ ram_byte w.memory a
    rest a here own may =
        ap (λ (x : World). ram_byte x.memory a) whole.there
        ∙ after.rest.bytes a (passes_not (may_be_stored terms) changed a stored (not_stored a (ap (λ s. is_own s a) enters.registers.s ∙ own) may))

    all_taken : (world_at (bytes None) w (suc n)).memory.devices.keys ≡ []
    all_taken =
        ap (λ (x : World). x.memory.devices.keys) whole.there
        ∙ none_waits (keys_stated terms) w.memory (is_in changed) v
        (keys_wait program sound promise w enters ∙ same_keys promise terms says) after.rest

    kept : KeepsWithKeys promise (suc n) w
    kept = record {
      keeps = record {
        steps = n;
        within = omega arith;
        back = goes_back;
        ensured = ensured;
        registers = registers;
        rest = rest;
      };
      taken = all_taken;
    }

-- what a routine that is entered with S = $FD meets
abbrev MeetsPromise : List Statement → Terms → List (ℕ × ℕ) → Type 0
MeetsPromise all terms changed = Meets (code_of all) terms.address 0xFD (Before terms) (After terms changed)

-- the names of a text, with their values
abbrev pub names_of : List ℕ → Names
names_of text = names (source_rows (source_of text))

-- what lines and names state is stated by the text that has them
pub stated_by_text : (text label : List ℕ) (lines : List (List ℕ)) (known : Names) (above : ℕ) (terms : Terms) → lines_of_routines text ≡ lines
    → names_of text ≡ known → IsPromisedBy lines known above label terms → IsPromisedBy (lines_of_routines text) (names_of text) above label terms
stated_by_text text label lines known above terms cut named told =
    subst (λ l. IsPromisedBy l (names_of text) above label terms) (sym cut)
    (subst (λ names. IsPromisedBy lines names above label terms) (sym named) told)

-- THE THEOREM: suppose a text is read, these are its statements and bytes, and its lines state these terms. If its
-- routine meets the terms, and some state meets the requirements, the promise is proved.
pub proved : (text label : List ℕ) (all : List Statement) (laid : Laid) (entry above : ℕ) (terms : Terms) (state : State)
    → (changed : List (ℕ × ℕ))
    → entry_of text ≡ Some entry → statements_of text ≡ all → IsPromisedBy (lines_of_routines text) (names_of text) above label terms
    → terms.prints ≡ [] → laid_of text ≡ laid → are_bytes laid ≡ true → is_met terms laid state ≡ true
    → all_tell terms.wanted ≡ true → all_tell terms.promised ≡ true
    → all_pass (may_be_stored terms) changed ≡ true → MeetsPromise all terms changed → IsProved text label
proved text label all laid entry above terms state changed read stated told prints lays small met wanted promised stored meets = record {
  accepted = λ fault refused. not_refused text entry is fault refused;
  kept = λ program program_is. record {
    above = above;
    terms = terms;
    told = subst (λ names. IsPromisedBy (lines_of_routines text) names above label terms) (sym (made program program_is).named) told;
    prints = prints;
    met = λ promise says. (
      world_of terms laid state,
      entered text laid terms state lays small met program (made program program_is)
          (program-sound program_is.source program program_is.is_program) promise says,
    );
    kept = kept_of program program_is;
  };
}
  where
    is : IsAccepted text entry
    is = accepted text entry read

    made : (program : Assembled) → IsProgramOf text program → IsMade (source_of text) program
    made program program_is =
        made-of (source_of text) program
        (subst (λ s. IsProgram s program) (one-source text program_is.source (source_of text) program_is.is_source is.read) program_is.is_program)

    kept_of : (program : Assembled) → IsProgramOf text program → (promise : Promise) → IsPromise promise terms → KeepsPromise program promise
    kept_of program program_is promise says world is_entered = go (meets world whole before)
      where
        bytes_w : OnlyBytes world
        bytes_w = is_entered.bytes

        enters : Enters (laid_with_keys (held program.image) promise.address (keys_of promise)) world
        enters = is_entered.enters

        whole : IsWhole world
        whole =
            record { a = bytes_w.a; x = bytes_w.x; y = bytes_w.y; ram = record { bytes = bytes_w.ram; pages = enters.pages } }

        sound : IsSound program
        sound = program-sound program_is.source program program_is.is_program

        low : list_all (λ n. nat_lt n ram_end) (code_bytes all) ≡ true
        low = subst (λ l. list_all (λ n. nat_lt n ram_end) (code_bytes l) ≡ true) stated is.in_ram

        required_is : all_say terms.wanted world world
        required_is =
            subst (λ l. all_say l world world) says.wanted
            (all_required world world 0 bytes_w bytes_w promise.wanted.items (subst (λ l. all_tell l ≡ true) (sym says.wanted) wanted) is_entered.required)

        before : Before terms world
        before = record {
          says = required_is;
          waits = waits_all (keys_stated terms) world (keys_wait program sound promise world enters ∙ same_keys promise terms says);
        }

        there : enter terms.address 0xFD world ≡ world
        there = ap (λ a. enter a 0xFD world) (sym says.address) ∙ entered_there program sound promise world enters

        go : Reaches (code_of all) (enter terms.address 0xFD world) (λ u. (v : World) × Back (code_of all) 0xFD world u v × After terms changed world v)
            → (limit : ℕ) × KeepsWithKeys promise limit world
        go (n, (u, walk, (v, back, after))) = (
          suc n,
          kept all program sound ((made program program_is).stated ∙ stated) low terms promise says changed promised stored world enters bytes_w n u v
              (subst (λ x. walked (code_of all) x n ≡ Some u) there walk) back after,
        )
