-- The example's promise is kept. The run is examined before its first step.
use Rattle.std.specs.Prelude.{◌≡◌, ◌⊎◌, ◌<◌, ◌==◌, ℕ, ◌-◌, Bool, true, false, IsTrue, List, [], None, Some, Ok, refl}
use Rattle.std.proofs.Common.{sym, ◌∙◌, ap, subst, arith, inl, inr}
use Rattle.std.proofs.lemmas.Bool.Decides.{nat_tests}
use Rattle.a2_opcode.specs.declared.Mnemonic.TheVariants.{Rts}
use Rattle.a2_opcode.specs.declared.Mode.TheVariants.{Implied}
use Rattle.a2_opcode.specs.Encoding.{Fetched, fetched, instruction, no_byte, undocumented, bytes_from, value_of}
use Rattle.a2_opcode.specs.Table.{row_of, table, length_of}
use Rattle.a2_bus.specs.Memory.{Memory, ram_byte, ram_end, peek}
use Rattle.a2_machine.specs.Meaning.{Decoded, world_at}
use Rattle.a2_machine.specs.ByteRun.{bytes, decoded_or_cause}
use Rattle.a2_machine.proofs.Outcomes.{no_return, no_service}
use Rattle.a2_promise.specs.declared.promises.Clause.{Clause}
use Rattle.a2_promise.specs.declared.promises.Promise.{Promise}
use Rattle.a2_promise.specs.ReadsOfValues.{Known}
use Rattle.a2_promise.specs.Values.{Moment}
use Rattle.a2_footprint.specs.declared.Part.{Part}
use Rattle.a2_footprint.specs.RotatedStack.{in_stack}
use Rattle.a2_footprint.specs.Calls.{ReachesRts}
use Rattle.a2_footprint.specs.Parts.{held}
use Rattle.a2_footprint.specs.Runs.{bytes_known_after, stores_in}
use Rattle.a2_footprint.specs.Uses.{parts_known_after}
use Rattle.a2_footprint.proofs.Calling.{not_refused}
use Rattle.a2_footprint.proofs.Running.{stuck_is}
use Rattle.a2_promise_certify.specs.Judging.{all_hold}
use Rattle.a2_promise_certify.specs.Kept.{IsKept, AreClausesKnown, code, known_by, moment}
use Rattle.a2_promise_certify.specs.Everywhere.{IsTried}
use Rattle.a2_promise_certify.specs.Returning.{AnRtsKeepsAll, returning}
use Rattle.a2_promise_certify.specs.States.{known_bytes, known_parts, state_of}

rts : Decoded
rts = record { row = record { mnemonic = Rts; mode = Implied; opcode = 0x60; cycles = 6; crosses = false }; value = 0 }

found : (memory : Memory) → ram_byte memory 0x300 ≡ 0x60 → code.instruction_at memory 0x300 ≡ Ok rts
unfolding bytes fetched row_of table rts
found memory is = ap (λ (byte : ℕ). decoded_or_cause (let f : Fetched = elim (row_of byte) [
  | None ↦ undocumented
  | Some row ↦ elim (bytes_from (peek memory) 0x301 (length_of row.mode - 1)) [
    | None ↦ no_byte
    | Some operand ↦ instruction row (value_of row.mode 0x300 operand)
  ]
] in f)) is

in_ram : 0x300 < ram_end
in_ram = omega arith

looked : (clauses : List Clause) (before following : Known) (entry exit : Moment) → clauses ≡ [] → AreClausesKnown clauses before following entry exit
looked clauses before following entry exit none = subst (λ some. AreClausesKnown some before following entry exit) (sym none) tt

held_all : (clauses : List Clause) (entry exit : Moment) → clauses ≡ [] → IsTrue (all_hold clauses entry exit)
held_all clauses entry exit none = subst (λ some. IsTrue (all_hold some entry exit)) (sym none) refl

module _ (memory : Memory) (promise : Promise) (is : ram_byte memory 0x300 ≡ 0x60) (wanted : promise.wanted.items ≡ []) (promised : promise.promised.items ≡ [])
    (number : ℕ) where
  comes : ReachesRts code (known_parts (returning memory)) (known_bytes (returning memory)) (state_of (returning memory) number) 0
  unfolding world_at bytes_known_after stores_in rts
  comes = record {
    reads = λ k lt. (let bad : ⊥ = omega (arith, lt) in absurd bad);
    needs = λ k lt. (let bad : ⊥ = omega (arith, lt) in absurd bad);
    going = stuck_is code (state_of (returning memory) number) (Ok rts) (no_return 0x300 in_ram) (no_service 0x300 in_ram) (found memory is)
        ∙ not_refused code.protected rts (state_of (returning memory) number) refl;
    no_service = no_service 0x300 in_ram;
    rts = rts;
    is_rts = refl;
    found = λ other agree. found other (sym (agree.bytes 0x300 in_ram refl) ∙ is);
    s = refl;
    low = tt;
    high = tt;
  }

  kept : IsKept (known_bytes (returning memory)) (known_parts (returning memory)) promise 1 (state_of (returning memory) number)
  unfolding world_at parts_known_after stores_in rts comes
  kept = record {
    steps = 0;
    within = omega arith;
    comes = comes;
    implied = refl;
    off_stack = λ k lt. (let bad : ⊥ = omega (arith, lt) in absurd bad);
    home_off_stack = refl;
    own = λ a stacked own. tt;
    looks = looked promise.promised.items (known_by (known_bytes (returning memory)) (known_parts (returning memory)))
        (known_by (bytes_known_after code (known_bytes (returning memory)) (state_of (returning memory) number) 0)
        (parts_known_after code (known_parts (returning memory)) (state_of (returning memory) number) 0))
        (moment (state_of (returning memory) number) (state_of (returning memory) number) 0)
        (moment (state_of (returning memory) number) (world_at code (state_of (returning memory) number) 1) 1) promised;
    ensured = held_all promise.promised.items (moment (state_of (returning memory) number) (state_of (returning memory) number) 0)
        (moment (state_of (returning memory) number) (world_at code (state_of (returning memory) number) 1) 1) promised;
    registers = λ part may. either part (known_parts (returning memory) part) refl;
    rest = λ a low off may. inl tt;
  }
    where
      either : (part : Part) (known : Bool) → known_parts (returning memory) part ≡ known
          → (known_parts (returning memory) part ≡ false)
          ⊎ (IsTrue (known_parts (returning memory) part)
          × (held part (state_of (returning memory) number).registers ≡ held part (state_of (returning memory) number).registers))
      either part true e = inr (e, refl)
      either part false e = inl e

  tried : IsTried (returning memory) promise 1 (state_of (returning memory) number)
  tried = record {
    looks = looked promise.wanted.items (known_by (known_bytes (returning memory)) (known_parts (returning memory)))
        (known_by (known_bytes (returning memory)) (known_parts (returning memory)))
        (moment (state_of (returning memory) number) (state_of (returning memory) number) 0)
        (moment (state_of (returning memory) number) (state_of (returning memory) number) 0) wanted;
    kept = λ required. kept;
  }

pub keeps_all : AnRtsKeepsAll
keeps_all memory promise pages is wanted promised = record {
  pages = pages;
  s = omega arith;
  off_stack = λ a is. off a is;
  every = λ number below. tried memory promise is wanted promised number;
}
  where
    off : (a : ℕ) → (a == 0x300) ≡ true → in_stack a ≡ false
    off a is = grind (arith, nat_tests, is)
