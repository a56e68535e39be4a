use Rattle.std.proofs.Common.{ℕ, ◌<◌, get_or, true}
use Rattle.a2_text.proofs.words.front_len.Given as goal

abbrev pub invariant-loop-i : goal.invariant-loop-i
invariant-loop-i g l = (k : ℕ) → k < l.i → goal.P-post g l.test (get_or l.text k 0) true
