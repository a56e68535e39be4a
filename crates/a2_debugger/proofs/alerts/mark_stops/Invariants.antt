use Rattle.std.proofs.Common.{◌≡◌, true, length, take}
use Rattle.std.specs.List.{list_any}
use Rattle.a2_debugger.specs.Stops.{Moment, is_hit}
use Rattle.a2_debugger.specs.Alerts.{is_marked}
use Rattle.a2_debugger.proofs.alerts.mark_stops.Given as goal

-- the addresses of the breakpoints so far are marked
abbrev pub invariant-loop-place : goal.invariant-loop-place
invariant-loop-place l = record {
  size : length l.marks ≡ 65536;
  marked : (moment : Moment) → list_any (is_hit moment) (take l.place-index l.breaks) ≡ true → is_marked l.marks moment.pc ≡ true;
}
