use Rattle.std.proofs.Common.{◌≡◌, ◌≤◌, ◌+◌, ◌*◌, ◌++◌, take}
use Rattle.arrayvec.specs.ArrayVec.{array_vec_len}
use Rattle.a2_film.specs.Rows.{typed_text}
use Rattle.a2_film.proofs.rows.append_typed.Given as goal

-- the keys so far are appended
abbrev pub invariant-loop-key : goal.invariant-loop-key
invariant-loop-key l = record {
  items : l.rows.items ≡ l.fn.rows.items ++ typed_text (take l.key-index l.keys);
  room : array_vec_len l.rows ≤ array_vec_len l.fn.rows + 3 * l.key-index;
}
