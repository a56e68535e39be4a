-- An instruction depends only on its bytes.
use Rattle.std.specs.Prelude.{◌≡◌, ◌<◌, ℕ, zero, suc, ◌+◌, ◌-◌, ◌%◌, Bool, true, false, nat_lt, IsTrue, if◌then◌else◌, [], ◌∷◌, Option, Some, None, Result, Err, MatchOption, refl}
use Rattle.std.proofs.Common.{sym, ap, ◌∙◌, subst, arith}
use Rattle.std.proofs.lemmas.Bool.Decides.{nat_tests}
use Rattle.a2_text.specs.Bytes.{is_among}
use Rattle.a2_opcode.specs.Table.{row_of, length_of}
use Rattle.a2_opcode.specs.declared.Row.{Row}
use Rattle.a2_opcode.specs.Encoding.{Fetched, no_byte, undocumented, instruction, fetched, bytes_from, value_of}
use Rattle.a2_bus.specs.Memory.{Memory, peek, ram_byte, ram_end}
use Rattle.a2_machine.specs.declared.causes.Cause.{Cause}
use Rattle.a2_machine.specs.declared.causes.Cause.TheVariants.{OffStatement}
use Rattle.a2_machine.specs.Meaning.{Decoded, found_at_pc}
use Rattle.a2_machine.specs.ByteRun.{bytes, decoded_or_cause}
use Rattle.a2_footprint.specs.Reads.{AgreeOn, Knows}
use Rattle.a2_footprint.specs.Services.{is_keyless}
use Rattle.a2_footprint.specs.Fetches.{FetchesDependOnReads, StepsByBytesRead, addresses_from, operand_addresses, fetch_reads}

same_peek : (known : ℕ → Bool) (m n : Memory) (a : ℕ) → AgreeOn known m n → IsTrue (known a) → peek n a ≡ peek m a
same_peek known m n a h shown = go (nat_lt a ram_end) refl
  where
    go : (low : Bool) → nat_lt a ram_end ≡ low
        → (let o : Option ℕ = if low then Some (ram_byte n a) else None in o) ≡ (if low then Some (ram_byte m a) else None)
    go true is = let lt : a < ram_end = grind (arith, nat_tests, is) in ap (λ b. Some b) (sym (h.bytes a lt shown))
    go false is = refl

-- two memories show the same bytes at some addresses
abbrev pub ShowAlike : (ℕ → Bool) → Memory → Memory → Type 0
ShowAlike seen m n = (a : ℕ) → IsTrue (seen a) → peek n a ≡ peek m a

same_bytes : (seen : ℕ → Bool) (m n : Memory) (at count : ℕ) → ShowAlike seen m n → Knows seen (addresses_from at count)
    → bytes_from (peek n) at count ≡ bytes_from (peek m) at count
same_bytes seen m n at zero h shown = refl
same_bytes seen m n at (suc count) h shown = λ i.
    elim (h (at % 65536) shown.0 i) [
      | None ↦ None
      | Some byte ↦ elim (same_bytes seen m n (suc at) count h shown.1 i) [ None ↦ None | Some rest ↦ Some (byte ∷ rest) ]
    ]

-- what is fetched, given the opcode and its row
abbrev by_row : (ℕ → Option ℕ) → ℕ → Option Row → Fetched
by_row show at found =
    elim found [
      | None ↦ undocumented
      | Some row ↦ elim (bytes_from show (at + 1) (length_of row.mode - 1)) [
        | None ↦ no_byte
        | Some operand ↦ instruction row (value_of row.mode at operand)
      ]
    ]

abbrev by_opcode : (ℕ → Option ℕ) → ℕ → Option ℕ → Fetched
by_opcode show at byte = elim byte [ None ↦ no_byte | Some opcode ↦ by_row show at (row_of opcode) ]

pub same_fetched : (seen : ℕ → Bool) (m n : Memory) (pc : ℕ) → ShowAlike seen m n → Knows seen (fetch_reads m pc)
    → fetched (peek n) pc ≡ fetched (peek m) pc
unfolding fetched fetch_reads
same_fetched seen m n pc h shown =
    ap (λ byte. by_opcode (peek n) pc byte) (h pc shown.0) ∙ opcode (peek m pc) shown.1
  where
    row : (found : Option Row)
        → Knows seen (elim found [ None ↦ [] | Some row ↦ addresses_from (pc + 1) (length_of row.mode - 1) ])
        → by_row (peek n) pc found ≡ by_row (peek m) pc found
    row None _ = refl
    row (Some r) shown = λ i.
        elim (same_bytes seen m n (pc + 1) (length_of r.mode - 1) h shown i) [ None ↦ no_byte | Some operand ↦ instruction r (value_of r.mode pc operand) ]

    opcode : (byte : Option ℕ) → Knows seen (operand_addresses pc byte) → by_opcode (peek n) pc byte ≡ by_opcode (peek m) pc byte
    opcode None _ = refl
    opcode (Some b) shown = row (row_of b) shown

pub fetches : FetchesDependOnReads
unfolding bytes
fetches None known m n pc h shown = ap (λ f. decoded_or_cause f) (same_fetched known m n pc (λ a. same_peek known m n a h) shown)
fetches (Some guard) known m n pc h shown =
    ap (λ f. let r : Result Decoded Cause = if is_among guard.starts pc then decoded_or_cause f else Err OffStatement in r) (same_fetched known m n pc (λ a. same_peek known m n a h) shown)

pub steps_by_bytes : StepsByBytesRead
steps_by_bytes guard known world going free fetched reads = record {
  going = going;
  found = subst (λ o. MatchOption o
      ((other : Memory) → AgreeOn known world.memory other → (bytes guard).instruction_at other world.registers.pc ≡ found_at_pc (bytes guard) world)
      (λ service. is_keyless service ≡ true)) (sym free)
      (λ other agree. fetches guard known world.memory other world.registers.pc agree fetched);
  reads = reads;
}
