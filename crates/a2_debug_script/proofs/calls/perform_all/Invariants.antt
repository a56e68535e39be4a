use Rattle.std.proofs.Common.{◌≡◌, ◌≤◌, length, take}
use Rattle.std.specs.Prelude.{vec_len, vec_capacity}
use Rattle.a2_debug_script.specs.Calls.{Run}
use Rattle.a2_debug_script.proofs.calls.perform_all.Given as goal

abbrev pub invariant-loop-call : goal.invariant-loop-call
invariant-loop-call g l = record {
  run : Run l.fn.debugger (take l.call-index l.calls) l.answers.items l.debugger;
  count : vec_len l.answers ≡ l.call-index;
  room : length l.calls ≤ vec_capacity l.answers;
}
