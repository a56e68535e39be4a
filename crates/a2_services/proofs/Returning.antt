-- Calls of services: the return, and what the tests of window and cursor imply.
use Rattle.std.specs.Prelude.{◌≡◌, ℕ, ◌+◌, ◌*◌, ◌%◌, ◌<◌, true, ◌&&◌}
use Rattle.std.proofs.Common.{arith}
use Rattle.std.proofs.lemmas.Bool.Decides.{nat_tests}
use Rattle.a2_page.specs.Window.{IsWindow}
use Rattle.a2_page.proofs.Finding.{and-left, and-right}
use Rattle.a2_bus.specs.Memory.{Memory, ram_byte, ram_end, memory_access}
use Rattle.a2_effect.specs.Instruction.{with_pc, with_s, returned}
use Rattle.a2_services.specs.World.{World}
use Rattle.a2_services.specs.Put.{window_of}
use Rattle.a2_services.specs.Services.{window_fits, cursor_fits}
use Rattle.a2_services.specs.Fits.{CursorFits}

-- The return

read_ram : (m : Memory) (a : ℕ) → a < ram_end → memory_access.after_read m a ≡ m
unfolding memory_access
read_ram m a low = grind (arith, nat_tests)

byte_ram : (m : Memory) (a : ℕ) → a < ram_end → memory_access.byte_at m a ≡ ram_byte m a
unfolding memory_access
byte_ram m a low = grind (arith, nat_tests)

pub returned_is : (w : World)
    → returned memory_access w
    ≡ (let s = w.registers.s in
    with_pc ((ram_byte w.memory (256 + (s + 1) % 256) + 256 * ram_byte w.memory (256 + ((s + 1) % 256 + 1) % 256) + 1) % 65536)
    (with_s (((s + 1) % 256 + 1) % 256) w))
unfolding returned
returned_is w = grind (arith, read_ram, byte_ram)

-- The tests

pub window_tells : (m : Memory) → window_fits m ≡ true → IsWindow (window_of m)
window_tells m h =
    record { width = grind (arith, nat_tests, h); right = grind (arith, nat_tests, h); height = grind (arith, nat_tests, h); bottom = grind (arith, nat_tests, h) }

pub fits_tells : (m : Memory) → window_fits m && cursor_fits m ≡ true → CursorFits m
fits_tells m h =
    let w : IsWindow (window_of m) = window_tells m (and-left (window_fits m) (cursor_fits m) h) in
    let cursor : cursor_fits m ≡ true = and-right (window_fits m) (cursor_fits m) h in
    record {
      line = record { window = w; row = grind (arith, nat_tests, cursor) };
      column = grind (arith, nat_tests, cursor);
    }
