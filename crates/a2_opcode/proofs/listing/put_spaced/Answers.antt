use Rattle.std.proofs.Common.{ℕ, ◌≡◌, ◌+◌, ◌≤◌, get_or, length, length-append, arith, add-one, ap}
use Rattle.std.proofs.lemmas.List.{take_all}
use Rattle.a2_opcode.proofs.Spacing.{spaced-more}
use Rattle.a2_opcode.proofs.listing.put_spaced.Goals as goal

pub loop-byte-init : goal.loop-byte-init
loop-byte-init c = record {
  bytes = rw c.in-Some.ensures.cases.0 c.put_pair.ensures;
  long = omega (arith, ap length c.put_pair.ensures, length-append {A = ℕ});
  some = omega (arith, ap length c.in-Some.ensures.cases.0);
}

pub loop-byte-preserved : goal.loop-byte-preserved
loop-byte-preserved c =
    let same : get_or c.args.bytes.now (c.loop-byte.byte-index + 1) 0 ≡ get_or c.in-Some.rest.now c.loop-byte.byte-index 0 = rw (c.in-Some.ensures.cases.0, add-one) in
    record {
      bytes = spaced-more c.args.text.now.bytes c.loop-byte.text.bytes _ c.args.bytes.now (c.loop-byte.byte-index + 1) (omega arith) (omega arith) c.loop-byte.invariant.bytes
          (rw (c.put_pair-in-loop-byte.ensures, c.push_str.ensures.bytes, same));
      long = omega (arith, ap length c.put_pair-in-loop-byte.ensures, length-append {A = ℕ});
      some = c.loop-byte.invariant.some;
    }

pub returns-clause-bytes : goal.returns-clause-bytes
returns-clause-bytes c =
    let all : length c.args.bytes.now ≤ c.loop-byte.byte-index + 1 = omega arith in
    rw take_all at c.loop-byte.invariant.bytes
