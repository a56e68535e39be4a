-- A service changes no byte outside its reach.
use Rattle.std.specs.Prelude.{◌≡◌, ◌≢◌, ◌⊎◌, ℕ, zero, suc, ◌+◌, ◌<◌, ◌≤◌, List, [], ◌∷◌, Bool, true, false, ◌==◌, if◌then◌else◌, refl}
use Rattle.std.proofs.Common.{◌∙◌, arith, inl, inr}
use Rattle.std.proofs.lemmas.Bool.Decides.{nat_tests}
use Rattle.a2_page.specs.Grid.{Grid}
use Rattle.a2_bus.specs.Memory.{Memory, ram_byte, with_ram, memory_access}
use Rattle.a2_bus.proofs.Frame.{ram_byte-with_ram, ram_byte-page1, changed_by_writes}
use Rattle.a2_effect.specs.Instruction.{returned, after_pull}
use Rattle.a2_services.specs.World.{World}
use Rattle.a2_services.specs.Put.{with_cursor_column, with_cursor_row, prompt_character, inverse_mask, masked_by, with_page1, after_line_feed, after_return, after_backspace, after_character, after_put, after_put_unmasked, with_base_address}
use Rattle.a2_services.specs.Services.{output_reach, cleared_to_end, Reading, byte_of_key, after_byte, after_cancel, after_prompt, line_read, with_key_taken, back, output}
use Rattle.a2_services.proofs.Kept.{off_base-kept, off_page-cleared}

-- an address where no output service stores
pub record IsOutside (b : ℕ) : Type 0 where
  pub page : (b < 0x400) ⊎ (0x800 ≤ b)
  pub column : b ≢ 0x24
  pub row : b ≢ 0x25
  pub base_low : b ≢ 0x28
  pub base_high : b ≢ 0x29

pub outside_of : (b : ℕ) → output_reach b ≡ false → IsOutside b
outside_of b h = record {
  page = grind (arith, nat_tests, h);
  column = grind (arith, nat_tests, h);
  row = grind (arith, nat_tests, h);
  base_low = grind (arith, nat_tests, h);
  base_high = grind (arith, nat_tests, h);
}

module _ (b : ℕ) (outside : IsOutside b) where
  pub page1-kept : (page : Grid) (m : Memory) → ram_byte (with_page1 page m) b ≡ ram_byte m b
  page1-kept page m = ram_byte-page1 m page b outside.page

  pub column-kept : (c : ℕ) (m : Memory) → ram_byte (with_cursor_column c m) b ≡ ram_byte m b
  column-kept c m = ram_byte-with_ram m 0x24 c b outside.column

  pub row-kept : (r : ℕ) (m : Memory) → ram_byte (with_cursor_row r m) b ≡ ram_byte m b
  row-kept r m = ram_byte-with_ram m 0x25 r b outside.row

  line_feed-kept : (m : Memory) → ram_byte (after_line_feed m) b ≡ ram_byte m b
  unfolding after_line_feed
  line_feed-kept m = grind (arith, row-kept, page1-kept)

  return-kept : (m : Memory) → ram_byte (after_return m) b ≡ ram_byte m b
  unfolding after_return
  return-kept m = line_feed-kept (with_cursor_column 0 m) ∙ column-kept 0 m

  backspace-kept : (m : Memory) → ram_byte (after_backspace m) b ≡ ram_byte m b
  unfolding after_backspace
  backspace-kept m = grind (arith, column-kept, row-kept)

  character-kept : (byte : ℕ) (m : Memory) → ram_byte (after_character byte m) b ≡ ram_byte m b
  unfolding after_character
  character-kept byte m = grind (arith, column-kept, page1-kept, return-kept)

  put_unmasked-kept : (byte : ℕ) (m : Memory) → ram_byte (after_put_unmasked byte m) b ≡ ram_byte m b
  unfolding after_put_unmasked
  put_unmasked-kept byte m = grind (arith, return-kept, line_feed-kept, backspace-kept, character-kept)

  pub put-kept : (byte : ℕ) (m : Memory) → ram_byte (after_put byte m) b ≡ ram_byte m b
  unfolding after_put
  put-kept byte m = put_unmasked-kept (masked_by byte (inverse_mask m)) m

  pub base-kept : (m : Memory) → ram_byte (with_base_address m) b ≡ ram_byte m b
  base-kept m = off_base-kept b (record { low = outside.base_low; high = outside.base_high }) m

  prompt-kept : (m : Memory) → ram_byte (after_prompt m) b ≡ ram_byte m b
  prompt-kept m = put-kept (prompt_character m) (after_put 0x8D m) ∙ put-kept 0x8D m

  pub cleared_to_end-kept : (m : Memory) → ram_byte (cleared_to_end m) b ≡ ram_byte m b
  cleared_to_end-kept m = off_page-cleared b outside.page m

  -- a line, short enough, whose memory has the same byte
  pub record Fine (was : ℕ) (line : Reading) : Type 0 where
    pub same : ram_byte line.memory b ≡ was
    pub short : line.len < 256

  fine-if : (was : ℕ) (v : Bool) (x y : Reading) → Fine was x → (v ≡ false → Fine was y) → Fine was (if v then x else y)
  fine-if was true x y h g = h
  fine-if was false x y h g = g refl

  cancel-fine : (was : ℕ) (m : Memory) → ram_byte m b ≡ was → Fine was (after_cancel m)
  cancel-fine was m h = record { same = prompt-kept (after_put 0xDC m) ∙ put-kept 0xDC m ∙ h; short = omega arith }

  after_byte-fine : (was byte : ℕ) (line : Reading) → Fine was line → Fine was (after_byte byte line)
  after_byte-fine was byte line h =
      let echo = after_put_unmasked byte line.memory in
      let more : Reading = record { memory = echo; len = line.len + 1 } in
      let gone : Reading = after_cancel echo in
      let full : Reading = if line.len == 255 then gone else more in
      fine-if was (byte == 0x88) (elim line.len [ zero ↦ record { memory = after_prompt echo; len = 0 } | suc len ↦ record { memory = echo; len = len } ])
      (if byte == 0x98 then gone else full) (backspace line.len h.short)
      (λ _. fine-if was (byte == 0x98) gone full (cancel-fine was echo echoed)
      (λ _. fine-if was (line.len == 255) gone more (cancel-fine was echo echoed)
      (λ e. record { same = echoed; short = let l : line.len + 1 < 256 = grind (arith, nat_tests, e, h.short) in l })))
    where
      echoed : ram_byte (after_put_unmasked byte line.memory) b ≡ was
      echoed = put_unmasked-kept byte line.memory ∙ h.same

      backspace : (len : ℕ) → len < 256
          → Fine was (elim len [
            | zero ↦ record { memory = after_prompt (after_put_unmasked byte line.memory); len = 0 }
            | suc len ↦ record { memory = after_put_unmasked byte line.memory; len = len }
          ])
      backspace zero l = record { same = prompt-kept (after_put_unmasked byte line.memory) ∙ echoed; short = omega arith }
      backspace (suc len) l = record { same = echoed; short = omega (arith, l) }

  pub line_read-kept : (b < 0x200) ⊎ (0x300 ≤ b) → (was : ℕ) (keys : List ℕ) (line : Reading) → Fine was line → ram_byte (line_read keys line).memory b ≡ was
  unfolding line_read ram_byte
  line_read-kept away was [] line h = h.same
  line_read-kept away was (key ∷ keys) line h =
      go (byte_of_key line.memory key == 0x8D) (λ next fine. line_read-kept away was keys next fine)
    where
      byte : ℕ
      byte = byte_of_key line.memory key

      kept : Memory
      kept = with_ram (with_key_taken line.memory) (0x200 + line.len) byte

      noted : Reading
      noted = record { memory = kept; len = line.len }

      elsewhere : (b < 0x200) ⊎ (0x300 ≤ b) → b ≢ 0x200 + line.len
      elsewhere (inl low) = λ e. let bad : ⊥ = omega (arith, low, e) in bad
      elsewhere (inr high) = λ e. let bad : ⊥ = omega (arith, high, e, h.short) in bad

      stored : ram_byte kept b ≡ was
      stored = ram_byte-with_ram (with_key_taken line.memory) (0x200 + line.len) byte b (elsewhere away) ∙ h.same

      go : (v : Bool) → ((next : Reading) → Fine was next → ram_byte (line_read keys next).memory b ≡ was)
          → ram_byte (if v then record { memory = after_put 0x8D (cleared_to_end kept); len = line.len } else line_read keys (after_byte byte noted)).memory b ≡ was
      go true rest = put-kept 0x8D (cleared_to_end kept) ∙ cleared_to_end-kept kept ∙ stored
      go false rest = rest (after_byte byte noted) (after_byte-fine was byte noted (record { same = stored; short = h.short }))

-- the return changes no byte
pub returned-kept : (world : World) (b : ℕ) → ram_byte (returned memory_access world).memory b ≡ ram_byte world.memory b
unfolding returned
returned-kept world b =
    changed_by_writes.kept_by_read (after_pull memory_access world).memory _ b
    ∙ changed_by_writes.kept_by_read world.memory _ b

pub output-kept : (b : ℕ) → IsOutside b → (memory : Memory) (world : World)
    → ram_byte (back (output memory world)).memory b ≡ ram_byte memory b
output-kept b outside memory world = returned-kept (output memory world) b ∙ base-kept b outside memory
