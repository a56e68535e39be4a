-- What the calls for a step write is the row of the step.
use Rattle.std.proofs.Common.{◌≡◌, ℕ, ◌-◌, ◌<◌, ◌≤◌, List, ◌++◌, length, codes, slice_index, slice_range, slice_get, Option, Some}
use Rattle.std.proofs.Common.{None, is_some, true, false, refl, sym, ap, ap₂, ◌∙◌, arith, append_assoc, true≢false, Ok}
use Rattle.std.proofs.Common.{Err}
use Rattle.a2_opcode.specs.Encoding.{Fetched, no_byte, undocumented, instruction, fetched}
use Rattle.a2_bus.specs.BusState.{BusState, board_access}
use Rattle.a2_bus.specs.Memory.{ram_byte, ram_end, peek, memory_access}
use Rattle.a2_bus.specs.View.{memory_of}
use Rattle.a2_page.proofs.Parts.{range-at}
use Rattle.a2_cpu.specs.BusStep.{refusal_of}
use Rattle.a2_effect.specs.Instruction.{performed, state_of}
use Rattle.a2_effect.specs.Registers.{Registers}
use Rattle.a2_cpu.specs.StepStores.{none_if, stores_at, step_stores}
use Rattle.a2_effect.specs.View.{registers_of}
use Rattle.a2_cpu.specs.View.{before_step}
use Rattle.a2_services.specs.declared.rows.Service.{Service}
use Rattle.a2_services.specs.Services.{service_at, reach, served}
use Rattle.a2_services.proofs.Effects.{served-kept}
use Rattle.a2_services.specs.World.{World, world_of}
use Rattle.a2_machine.specs.Meaning.{Code, found_at_pc, next, next_at}
use Rattle.a2_machine.specs.State.{Device, world_of_state}
use Rattle.a2_machine.proofs.Outcomes.{stores-world, fetched-world}
use Rattle.a2_timed_keys.specs.Typed.{typed}
use Rattle.a2_film.specs.Changes.{Store, stored, bytes_at, differing, change_of}
use Rattle.a2_film.specs.Filmed.{Seen, seen_of, fields_between, low_end, from_address}
use Rattle.a2_film.specs.Rows.{typed_text, stores_text, no_address, row_text}
use Rattle.a2_film.proofs.Keys.{typed-byte}
use Rattle.a2_film.proofs.Parts.{differing-alike}
use Rattle.a2_film.proofs.Reached.{reach-below, reach-above, reach-between, low_end-least, low_end-most}
use Rattle.a2_film.proofs.Others.{differing-reached, page-seen}

-- an instruction stores at the same addresses on a board as in the world
fetched-stores : (found : Fetched) (registers : Registers) (bus : BusState) (cycles : ℕ) → length bus.bytes ≡ ram_end
    → stores_at board_access found (state_of registers bus) ≡ stores_at memory_access found (world_of registers bus cycles)
unfolding stores_at
fetched-stores no_byte registers bus cycles size = refl
fetched-stores undocumented registers bus cycles size = refl
fetched-stores (instruction row value) registers bus cycles size =
    ap (none_if (refusal_of row.mnemonic registers.flags)) (stores-world row value registers bus cycles size)

stores-there : (registers : Registers) (bus : BusState) (cycles : ℕ) → length bus.bytes ≡ ram_end
    → stores_at board_access (fetched (slice_get bus.bytes) registers.pc) (state_of registers bus)
    ≡ stores_at memory_access (fetched (peek (memory_of bus)) registers.pc) (world_of registers bus cycles)
stores-there registers bus cycles size =
    fetched-stores (fetched (slice_get bus.bytes) registers.pc) registers bus cycles size
    ∙ ap (λ found. stores_at memory_access found (world_of registers bus cycles)) (sym (fetched-world bus registers.pc size))

-- what is stored by an instruction, and by a service
pub stored-by_instruction : (before after : World) → is_some (service_at before.registers.pc) ≡ false
    → stored before after ≡ bytes_at (ram_byte after.memory)
    (stores_at memory_access (fetched (peek before.memory) before.registers.pc) before)
unfolding stored
stored-by_instruction before after none = go (service_at before.registers.pc) none
  where
    Told : Option Service → Type 0
    Told found = (elim found as (λ _. List Store) [
      | Some service ↦ differing (ram_byte before.memory) (ram_byte after.memory) 0 ram_end
      | None ↦ bytes_at (ram_byte after.memory)
          (stores_at memory_access (fetched (peek before.memory) before.registers.pc) before)
    ]) ≡ bytes_at (ram_byte after.memory) (stores_at memory_access (fetched (peek before.memory) before.registers.pc) before)

    go : (found : Option Service) → is_some found ≡ false → Told found
    go None is = refl
    go (Some service) is = absurd (true≢false is)

pub stored-by_service : (before after : World) → is_some (service_at before.registers.pc) ≡ true
    → stored before after ≡ differing (ram_byte before.memory) (ram_byte after.memory) 0 ram_end
unfolding stored
stored-by_service before after some = go (service_at before.registers.pc) some
  where
    Told : Option Service → Type 0
    Told found = (elim found as (λ _. List Store) [
      | Some service ↦ differing (ram_byte before.memory) (ram_byte after.memory) 0 ram_end
      | None ↦ bytes_at (ram_byte after.memory)
          (stores_at memory_access (fetched (peek before.memory) before.registers.pc) before)
    ]) ≡ differing (ram_byte before.memory) (ram_byte after.memory) 0 ram_end

    go : (found : Option Service) → is_some found ≡ true → Told found
    go None is = absurd (true≢false (sym is))
    go (Some service) is = refl

-- what is built for a step is its row, after the other rows
pub row_of : (rows start row all fields keys stores : List ℕ) → all ≡ row ++ codes "\n" → row ≡ start ++ stores
    → start ≡ (rows ++ fields) ++ keys → all ≡ rows ++ (fields ++ (keys ++ (stores ++ codes "\n")))
row_of rows start row all fields keys stores ended stored begun =
    ended ∙ ap (λ (l : List ℕ). l ++ codes "\n") (stored ∙ ap (λ (l : List ℕ). l ++ stores) begun)
    ∙ append_assoc ((rows ++ fields) ++ keys) stores (codes "\n") ∙ append_assoc (rows ++ fields) keys (stores ++ codes "\n")
    ∙ append_assoc rows fields (keys ++ (stores ++ codes "\n"))

-- the row of a step, of these parts
row_in : (before after : World) (keys : List ℕ) (seen : Seen) (count : ℕ) (stores : List Store) → seen ≡ seen_of before
    → count ≡ length keys → stores ≡ stored before after
    → fields_between seen count (seen_of after) ++ (typed_text keys ++ (stores_text no_address stores ++ codes "\n"))
    ≡ row_text (change_of before keys after)
row_in before after keys seen count stores is counted stored_is = λ i.
    fields_between (is i) (counted i) (seen_of after) ++ (typed_text keys ++ (stores_text no_address (stored_is i) ++ codes "\n"))

-- the row of an instruction's step, from the addresses that the processor gives before it
pub instruction_row : (old new : Device) (keys : List ℕ) (seen : Seen) (count : ℕ) (addresses : List ℕ)
    → is_some (service_at old.state.regs.pc) ≡ false
    → length old.state.bus.bytes ≡ ram_end → seen ≡ seen_of (world_of_state old.state) → count ≡ length keys
    → addresses ≡ step_stores board_access (before_step old.state.regs old.state.bus)
    → fields_between seen count (seen_of (world_of_state new.state))
    ++ (typed_text keys ++ (stores_text no_address (bytes_at (ram_byte (world_of_state new.state).memory) addresses) ++ codes "\n"))
    ≡ row_text (change_of (world_of_state old.state) keys (world_of_state new.state))
instruction_row old new keys seen count addresses none size is counted told =
    let before = world_of_state old.state in
    let after = world_of_state new.state in
    row_in before after keys seen count (bytes_at (ram_byte after.memory) addresses) is counted
    (ap (bytes_at (ram_byte after.memory)) (told ∙ stores-there (registers_of old.state.regs) old.state.bus old.state.cycles size)
    ∙ sym (stored-by_instruction before after none))

-- the world after a call
called : (code : Code) (world : World) (service : Service) → Some service ≡ service_at world.registers.pc
    → next code world ≡ served service world
unfolding next next_at
called code world service there =
    ap (λ (found : Option Service). elim found as (λ _. World) [
      | Some service ↦ served service world
      | None ↦ elim (found_at_pc code world) as (λ _. World) [
        | Err cause ↦ world
        | Ok decoded ↦ performed memory_access decoded.row decoded.value world
      ]
    ]) (sym there)

-- the row of a service's step, from the earlier bytes of RAM that it may change
pub service_row : (old new : Device) (code : Code) (keys : List ℕ) (seen : Seen) (count : ℕ) (service : Service) (ram page : List ℕ)
    (end : ℕ) → Some service ≡ service_at old.state.regs.pc
    → world_of_state new.state ≡ typed keys (next code (world_of_state old.state)) → length old.state.bus.bytes ≡ ram_end
    → seen ≡ seen_of (world_of_state old.state) → count ≡ length keys → end ≡ low_end service
    → length ram ≡ ram_end
    → ((a : ℕ) → 0x24 ≤ a → a < end → slice_index ram a ≡ ram_byte (memory_of old.state.bus) a)
    → page ≡ slice_range old.state.bus.bytes 0x400 0x800
    → fields_between seen count (seen_of (world_of_state new.state)) ++ (typed_text keys ++ (stores_text no_address
    (differing (from_address 0x24 (slice_range ram 0x24 end)) (ram_byte (world_of_state new.state).memory) 0x24 (end - 0x24)
    ++ differing (from_address 0x400 page) (ram_byte (world_of_state new.state).memory) 0x400 0x400) ++ codes "\n"))
    ≡ row_text (change_of (world_of_state old.state) keys (world_of_state new.state))
service_row old new code keys seen count service ram page end there step size is counted end_is long held paged =
    row_in before after keys seen count _ is counted
    (ap₂ (λ (l r : List Store). l ++ r) low_part page_part
    ∙ sym (differing-reached was now end least (omega (arith, most))
    (λ a low. kept a (reach-below service a low))
    (λ a high low. kept a (reach-between service a (omega (arith, high, end_is)) low))
    (λ a high. kept a (reach-above service a high)))
    ∙ sym (stored-by_service before after (sym (ap is_some there))))
  where
    before : World
    before = world_of_state old.state

    after : World
    after = world_of_state new.state

    was : ℕ → ℕ
    was = ram_byte before.memory

    now : ℕ → ℕ
    now = ram_byte after.memory

    least : 0x24 ≤ end
    least = omega (arith, end_is, low_end-least service)

    most : end ≤ 0x300
    most = omega (arith, end_is, low_end-most service)

    kept : (a : ℕ) → reach service a ≡ false → was a ≡ now a
    kept a out = sym (served-kept service before a out)
        ∙ ap (λ (w : World). ram_byte w.memory a) (sym (called code before service there))
        ∙ sym (typed-byte keys (next code before) a) ∙ ap (λ (w : World). ram_byte w.memory a) (sym step)

    low_part : differing (from_address 0x24 (slice_range ram 0x24 end)) now 0x24 (end - 0x24) ≡ differing was now 0x24
        (end - 0x24)
    low_part =
        differing-alike (from_address 0x24 (slice_range ram 0x24 end)) was now now 0x24 (end - 0x24)
        (λ k high low.
        range-at ram 0x24 end (k - 0x24) k 0 (omega (arith, most, long)) (omega (arith, high)) (omega (arith, high, low, least))
        ∙ held k high (omega (arith, high, low, least)))
        (λ k high low. refl)

    page_part : differing (from_address 0x400 page) now 0x400 0x400 ≡ differing was now 0x400 0x400
    page_part =
        differing-alike (from_address 0x400 page) was now now 0x400 0x400
        (λ k high low. page-seen old.state.bus page k size paged high (omega (arith, low)))
        (λ k high low. refl)
