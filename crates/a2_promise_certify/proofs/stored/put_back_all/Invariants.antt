use Rattle.std.specs.Prelude.{ℕ, IsTrue, drop}
use Rattle.a2_text.specs.Bytes.{is_among}
use Rattle.a2_promise_certify.specs.But.{IsEqualExcept}
use Rattle.a2_promise_certify.specs.Walking.{is_set}
use Rattle.a2_promise_certify.proofs.stored.put_back_all.Given as goal

abbrev pub invariant-loop-address : goal.invariant-loop-address
invariant-loop-address l =
    (IsEqualExcept (is_among l.places) l.fn.space l.before → IsEqualExcept (is_among (drop l.address-index l.places)) l.space l.before)
    × (((a : ℕ) → IsTrue (is_set l.fn.marks a) → IsTrue (is_among l.places a))
    → (a : ℕ) → IsTrue (is_set l.marks a) → IsTrue (is_among (drop l.address-index l.places) a))
