use Rattle.std.proofs.Common.{◌≡◌, ◌+◌, ◌≤◌, ◌++◌, take, vec_len, vec_capacity}
use Rattle.a2_debug_script.specs.Stored.{typed_at}
use Rattle.a2_debug_script.proofs.typing.note_keys.Given as goal

abbrev pub invariant-loop-key : goal.invariant-loop-key
invariant-loop-key g l = record {
  items : l.log.items ≡ l.fn.log.items ++ typed_at l.count (take l.key-index l.keys);
  len : vec_len l.log ≡ vec_len l.fn.log + l.key-index;
  capacity : vec_capacity l.fn.log ≤ vec_capacity l.log;
}
