-- The effect of each service: it changes no byte outside its reach, and adds no key.
use Rattle.std.specs.Prelude.{◌≡◌, ◌⊎◌, ℕ, ◌+◌, ◌<◌, ◌≤◌, List, [], ◌∷◌, Bool, true, false, ◌||◌, length, refl, ◌≢◌, fold}
use Rattle.std.proofs.Common.{ap, ◌∙◌, arith, true≢false}
use Rattle.std.proofs.lemmas.Bool.Decides.{nat_tests}
use Rattle.a2_text.specs.Bytes.{is_between}
use Rattle.a2_page.specs.Grid.{Grid, byte_in}
use Rattle.a2_page.specs.Text.{blocks_of, plotted}
use Rattle.a2_bus.specs.Memory.{Memory, ram_byte, with_ram}
use Rattle.a2_bus.proofs.Frame.{ram_byte-with_ram, ram_byte-page1}
use Rattle.a2_services.specs.declared.rows.Service.{Service}
use Rattle.a2_services.specs.declared.rows.Service.TheVariants.{Cout, Cout1, Crout, Home, Prbyte, Prhex, Vtab, Clreol, Clreop, Rdkey, Keyin, Getln, Wait, Plot, Hline, Vline, Scrn, Clrscr}
use Rattle.a2_services.specs.World.{World}
use Rattle.a2_services.specs.Put.{prompt_character, with_page1, after_put}
use Rattle.a2_services.specs.Rows.{service_row}
use Rattle.a2_services.specs.Services.{needed_keys_missing, reach, output_reach, Reading, line_read, with_key_taken, back, effect, output, with_memory, with_a, with_x, served, cleared_to_end, cleared_below}
use Rattle.a2_services.specs.Reading.{reading}
use Rattle.a2_services.proofs.Lines.{ram_devices, put_devices}
use Rattle.a2_services.proofs.Reaching.{IsOutside, outside_of, page1-kept, column-kept, row-kept, put-kept, base-kept, line_read-kept, returned-kept, output-kept}
use Rattle.a2_services.proofs.Counting.{Fewer, fewer_taken, fewer_read, base_devices, returned_devices, same_fewer, output_devices, cleared_devices, left_devices}
use Rattle.a2_services.proofs.Kept.{IsOffPage, IsOffBase, off_page, off_base, other_than, off_base-kept, off_page-cleared}
use Rattle.a2_services.specs.Blocks.{painted, painted_across, painted_down, numbers_from_to, colour_of, black}

-- painting blocks
painted-kept : (b : ℕ) → IsOffPage b → (row column : ℕ) (m : Memory) → ram_byte (painted row column m) b ≡ ram_byte m b
unfolding painted
painted-kept b off row column m = ram_byte-page1 m (plotted row column (colour_of row m) m.page1) b off

painted_devices : (row column : ℕ) (m : Memory) → (painted row column m).devices ≡ m.devices
unfolding painted
painted_devices row column m = refl

-- one block after another
steps-kept : (b : ℕ) (step : ℕ → Memory → Memory) → ((k : ℕ) (m : Memory) → ram_byte (step k m) b ≡ ram_byte m b)
    → (ks : List ℕ) (m : Memory) → ram_byte (fold (λ m k. step k m) m ks) b ≡ ram_byte m b
steps-kept b step keeps [] m = refl
steps-kept b step keeps (k ∷ ks) m = steps-kept b step keeps ks (step k m) ∙ keeps k m

steps_devices : (step : ℕ → Memory → Memory) → ((k : ℕ) (m : Memory) → (step k m).devices ≡ m.devices)
    → (ks : List ℕ) (m : Memory) → (fold (λ m k. step k m) m ks).devices ≡ m.devices
steps_devices step keeps [] m = refl
steps_devices step keeps (k ∷ ks) m = steps_devices step keeps ks (step k m) ∙ keeps k m

-- clearing page 1 to any grid
cleared-kept : (page : Grid) (world : World) (b : ℕ) → IsOffPage b → b ≢ 0x30 → b ≢ 0x2D
    → ram_byte (with_ram (with_ram (with_page1 page world.memory) 0x30 0) 0x2D 47) b ≡ ram_byte world.memory b
cleared-kept page world b off color v2 = grind (arith, ram_byte-with_ram, ram_byte-page1)

-- the effect of a service changes only bytes in its reach
effect-kept : (service : Service) (world : World) (b : ℕ) → reach service b ≡ false
    → ram_byte (effect service world).memory b ≡ ram_byte world.memory b
unfolding effect reach ram_byte
effect-kept Cout world b h = refl
effect-kept Cout1 world b h =
    let o : IsOutside b = outside_of b h in
    output-kept b o (after_put world.registers.a world.memory) world ∙ put-kept b o world.registers.a world.memory
effect-kept Crout world b h = refl
effect-kept Home world b h =
    let o : IsOutside b = outside_of b h in
    grind (arith, output-kept, row-kept, column-kept, page1-kept)
effect-kept Prbyte world b h =
    let o : IsOutside b = outside_of b h in
    grind (arith, output-kept, put-kept)
effect-kept Prhex world b h =
    let o : IsOutside b = outside_of b h in
    grind (arith, output-kept, put-kept)
effect-kept Vtab world b h = returned-kept (output world.memory world) b ∙ off_base-kept b (off_base b h) world.memory
effect-kept Clreol world b h =
    returned-kept (with_memory (cleared_to_end world.memory) world) b ∙ off_page-cleared b (off_page b h) world.memory
effect-kept Clreop world b h =
    let page : IsOffPage b = grind (arith, nat_tests, h) in
    let base : IsOffBase b = record { low = grind (arith, nat_tests, h); high = grind (arith, nat_tests, h) } in
    grind (arith, returned-kept, off_base-kept, ram_byte-page1, off_page-cleared)
effect-kept Rdkey world b h = refl
effect-kept Keyin world b h = go world.memory.devices.keys
  where
    go : (keys : List ℕ)
        → ram_byte (elim keys as (λ _. World) [
          | [] ↦ world
          | key ∷ rest ↦ back (with_a (0x80 + key) (with_memory (with_key_taken world.memory) world))
        ]).memory b
        ≡ ram_byte world.memory b
    go [] = refl
    go (key ∷ rest) = returned-kept (with_a (0x80 + key) (with_memory (with_key_taken world.memory) world)) b
effect-kept Getln world b h =
    let o : IsOutside b = outside_of b (or-left (output_reach b) (is_between 0x200 0x2FF b) h) in
    let memory = world.memory in
    let start : Reading = record { memory = after_put (prompt_character memory) memory; len = 0 } in
    let line = line_read memory.devices.keys start in
    returned-kept (with_x line.len (output line.memory world)) b ∙ base-kept b o line.memory
    ∙ line_read-kept b o (away (or-right (output_reach b) (is_between 0x200 0x2FF b) h)) (ram_byte memory b) memory.devices.keys start
    (record { same = put-kept b o (prompt_character memory) memory; short = omega arith })
  where
    or-left : (x y : Bool) → x || y ≡ false → x ≡ false
    or-left true y h = h
    or-left false y h = refl

    or-right : (x y : Bool) → x || y ≡ false → y ≡ false
    or-right true y h = absurd (true≢false h)
    or-right false y h = h

    away : is_between 0x200 0x2FF b ≡ false → (b < 0x200) ⊎ (0x300 ≤ b)
    away h = grind (arith, nat_tests, h)
effect-kept Wait world b h = returned-kept (with_a 0 world) b
effect-kept Plot world b h =
    let r = world.registers in
    returned-kept (with_memory (painted r.a r.y world.memory) world) b ∙ painted-kept b (off_page b h) r.a r.y world.memory
effect-kept Hline world b h =
    let r = world.registers in
    let columns = numbers_from_to r.y (ram_byte world.memory 0x2C) in
    returned-kept (with_memory (painted_across r.a columns world.memory) world) b
    ∙ steps-kept b (λ column m. painted r.a column m) (λ column m. painted-kept b (off_page b h) r.a column m) columns world.memory
effect-kept Vline world b h =
    let r = world.registers in
    let rows = numbers_from_to r.a (ram_byte world.memory 0x2D) in
    returned-kept (with_memory (painted_down rows r.y world.memory) world) b
    ∙ steps-kept b (λ row m. painted row r.y m) (λ row m. painted-kept b (off_page b h) row r.y m) rows world.memory
effect-kept Scrn world b h =
    returned-kept (with_a (byte_in (blocks_of world.memory.page1) world.registers.a world.registers.y) world) b
effect-kept Clrscr world b h =
    returned-kept (with_memory (with_ram (with_ram (with_page1 black world.memory) 0x30 0) 0x2D 47) world) b
    ∙ cleared-kept black world b (grind (arith, nat_tests, h)) (grind (arith, nat_tests, h)) (grind (arith, nat_tests, h))
-- a service whose row allows a store to one byte stores it and returns
effect-kept _ world b h =
    returned-kept (with_memory (with_ram world.memory _ _) world) b ∙ ram_byte-with_ram world.memory _ _ b (other_than b _ h)

-- a service stores only in its reach
pub served-kept : (service : Service) (world : World) (b : ℕ) → reach service b ≡ false
    → ram_byte (served service world).memory b ≡ ram_byte world.memory b
unfolding served
served-kept service world b h = effect-kept service world b h

-- a service whose row needs no key leaves the devices unchanged
pub effect_devices : (service : Service) (w : World) → needed_keys_missing (service_row service).needs [] ≡ false
    → (effect service w).memory.devices ≡ w.memory.devices
unfolding effect
effect_devices Cout w keyless = refl
effect_devices Cout1 w keyless = output_devices (after_put w.registers.a w.memory) w ∙ put_devices w.registers.a w.memory
effect_devices Crout w keyless = refl
effect_devices Home w keyless = grind (arith, output_devices, ram_devices)
effect_devices Prbyte w keyless = grind (arith, output_devices, put_devices)
effect_devices Prhex w keyless = grind (arith, output_devices, put_devices)
effect_devices Vtab w keyless = output_devices w.memory w
effect_devices Clreol w keyless = left_devices (cleared_to_end w.memory) w ∙ cleared_devices w.memory
effect_devices Clreop w keyless =
    output_devices (cleared_below (cleared_to_end w.memory)) w ∙ cleared_devices w.memory
effect_devices Rdkey w keyless = refl
effect_devices Keyin w bad = absurd (true≢false bad)
effect_devices Getln w bad = absurd (true≢false bad)
effect_devices Wait w keyless = ap (λ (x : Memory). x.devices) (returned_devices (with_a 0 w))
effect_devices Plot w keyless =
    left_devices (painted w.registers.a w.registers.y w.memory) w ∙ painted_devices w.registers.a w.registers.y w.memory
effect_devices Hline w keyless =
    let columns = numbers_from_to w.registers.y (ram_byte w.memory 0x2C) in
    left_devices (painted_across w.registers.a columns w.memory) w
    ∙ steps_devices (λ column m. painted w.registers.a column m) (λ column m. painted_devices w.registers.a column m) columns w.memory
effect_devices Vline w keyless =
    let rows = numbers_from_to w.registers.a (ram_byte w.memory 0x2D) in
    left_devices (painted_down rows w.registers.y w.memory) w
    ∙ steps_devices (λ row m. painted row w.registers.y m) (λ row m. painted_devices row w.registers.y m) rows w.memory
effect_devices Scrn w keyless =
    ap (λ (m : Memory). m.devices) (returned_devices (with_a (byte_in (blocks_of w.memory.page1) w.registers.a w.registers.y) w))
effect_devices Clrscr w keyless =
    let page = with_page1 black w.memory in
    left_devices (with_ram (with_ram page 0x30 0) 0x2D 47) w
    ∙ ram_devices (with_ram page 0x30 0) 0x2D 47 ∙ ram_devices page 0x30 0
effect_devices _ w keyless = left_devices (with_ram w.memory _ _) w ∙ ram_devices w.memory _ _

-- the effect of a service leaves no more keys
effect_fewer : (service : Service) (w : World) → length (effect service w).memory.devices.keys ≤ length w.memory.devices.keys
unfolding effect
effect_fewer Keyin w = go w.memory.devices.keys refl
  where
    go : (keys : List ℕ) → w.memory.devices.keys ≡ keys
        → length (elim keys as (λ _. World) [ [] ↦ w | k ∷ rest ↦ back (with_a (0x80 + k) (with_memory (with_key_taken w.memory) w)) ]).memory.devices.keys
        ≤ length w.memory.devices.keys
    go [] e = omega arith
    go (k ∷ rest) e =
        omega (
          arith,
          same_fewer _ _ (ap (λ (x : Memory). x.devices) (returned_devices (with_a (0x80 + k) (with_memory (with_key_taken w.memory) w)))),
          fewer_taken w.memory.devices,
        )
effect_fewer Getln w =
    let start = after_put (prompt_character w.memory) w.memory in
    let line = line_read w.memory.devices.keys (reading start 0) in
    let fewer : Fewer (length w.memory.devices.keys) line =
    fewer_read (length w.memory.devices.keys) w.memory.devices.keys (reading start 0) (same_fewer _ _ (put_devices (prompt_character w.memory) w.memory)) in
    omega (
      arith,
      same_fewer _ _ (ap (λ (x : Memory). x.devices) (returned_devices (with_x line.len (output line.memory w))) ∙ base_devices line.memory),
      fewer.is,
    )
effect_fewer service w = same_fewer _ _ (effect_devices service w refl)

-- a service adds no key
pub served_fewer : (service : Service) (w : World) → length (served service w).memory.devices.keys ≤ length w.memory.devices.keys
unfolding served
served_fewer service w = effect_fewer service w
