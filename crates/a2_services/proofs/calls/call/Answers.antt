use Rattle.std.specs.Prelude.{◌≡◌, ℕ, ◌≤◌, length, refl}
use Rattle.std.proofs.Common.{sym, ◌∙◌}
use Rattle.a2_bus.specs.BusState.{BusState}
use Rattle.a2_bus.specs.Memory.{ram_end}
use Rattle.a2_effect.specs.Live.{live_registers}
use Rattle.a2_effect.specs.declared.live.Live.{Live}
use Rattle.a2_services.specs.declared.rows.Service.{Service}
use Rattle.a2_services.specs.declared.rows.Service.TheVariants.{Cout, Cout1, Crout, Rdkey, Plot, Home}
use Rattle.a2_services.specs.Called.{IsCallExecuted, IsDone, KeepsUnreachedBytes}
use Rattle.a2_services.proofs.Serving.{call_made}
use Rattle.a2_services.proofs.Unreached.{unreached_by, fewer_by}
use Rattle.a2_services.proofs.calls.call.Goals as goal

-- everything that is promised of an executed call
record IsPromised (service : Service) (live new_live : Live) (bus new_bus : BusState) (taken : ℕ) : Type 0 where
  called : IsCallExecuted service (live_registers live) bus (live_registers new_live) new_bus taken
  cycles : new_live.cycles ≡ live.cycles
  unreached : KeepsUnreachedBytes service bus new_bus
  size : length new_bus.bytes ≡ length bus.bytes
  keys : length new_bus.devices.keys ≤ length bus.devices.keys

promised : (service : Service) (live new_live : Live) (bus new_bus : BusState) (taken : ℕ) → length bus.bytes ≡ ram_end
    → IsDone service live bus new_live new_bus → IsCallExecuted service (live_registers live) bus (live_registers new_live) new_bus taken
    → IsPromised service live new_live bus new_bus taken
promised service live new_live bus new_bus taken size done made = record {
  called = made;
  cycles = done.cycles;
  unreached = unreached_by service (live_registers live) bus (live_registers new_live) new_bus taken size done.size (made.served 0);
  size = done.size ∙ sym size;
  keys = fewer_by service (live_registers live) bus (live_registers new_live) new_bus taken (made.served 0);
}

pub returns-then-this-clause-called : goal.returns-then-this-clause-called
returns-then-this-clause-called g c =
    rw c.in-Cout.is (call_made Cout c.args.live.now c.cout.new.live c.args.space.now c.args.space.now 5 refl refl refl c.cout.ensures)

pub returns-then-this-2-clause-called : goal.returns-then-this-2-clause-called
returns-then-this-2-clause-called g c =
    rw c.in-Crout.is (call_made Crout c.args.live.now c.crout.new.live c.args.space.now c.args.space.now 5 refl refl refl c.crout.ensures)

pub returns-then-this-3-clause-called : goal.returns-then-this-3-clause-called
returns-then-this-3-clause-called g c =
    rw c.in-Rdkey.is (call_made Rdkey c.args.live.now c.rdkey.new.live c.args.space.now c.args.space.now 5 refl refl refl c.rdkey.ensures)

pub returns-then-cursor_fits : goal.returns-then-cursor_fits
returns-then-cursor_fits g c =
    let live = c.args.live.now in
    let bus = c.args.space.now in
    let window = sym c.window_fits.ensures.answer ∙ c.if-window_fits.true in
    let cursor = sym c.cursor_fits.ensures ∙ c.if-cursor_fits.true in
    let made = call_made Cout1 live c.cout1.new.live bus c.cout1.new.space 6 (rw (window, cursor) refl) refl refl c.cout1.ensures in
    rw c.in-Cout1.is (assumption (promised Cout1 live c.cout1.new.live bus c.cout1.new.space 6 c.ram.ensures.size c.cout1.ensures made))

pub returns-then-block_fits : goal.returns-then-block_fits
returns-then-block_fits g c =
    let live = c.args.live.now in
    let bus = c.args.space.now in
    let fits = sym c.block_fits.ensures ∙ c.if-block_fits.true in
    let made = call_made Plot live c.plot.new.live bus c.plot.new.space 6 fits refl refl c.plot.ensures in
    rw c.in-Plot.is (assumption (promised Plot live c.plot.new.live bus c.plot.new.space 6 c.ram.ensures.size c.plot.ensures made))

pub returns-then-window_fits-2 : goal.returns-then-window_fits-2
returns-then-window_fits-2 g c =
    let live = c.args.live.now in
    let bus = c.args.space.now in
    let fits = sym c.window_fits-in-Home.ensures.answer ∙ c.if-window_fits-2.true in
    let made = call_made Home live c.home.new.live bus c.home.new.space 6 fits refl refl c.home.ensures in
    rw c.in-Home.is (assumption (promised Home live c.home.new.live bus c.home.new.space 6 c.ram.ensures.size c.home.ensures made))
