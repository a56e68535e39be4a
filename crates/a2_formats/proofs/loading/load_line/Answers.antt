use Rattle.std.proofs.Common.{length, refl, arith}
use Rattle.a2_hex.specs.ObjectLines.{after_line}
use Rattle.a2_formats.proofs.LoadingLaws.{after_read, after_other, inside, outside}
use Rattle.a2_formats.proofs.loading.load_line.Goals as goal

pub returns-in_default-clause-loaded : goal.returns-in_default-clause-loaded
unfolding after_line
returns-in_default-clause-loaded c = rw c.in_default.ensures.words refl

pub returns-in_default-2-clause-refused : goal.returns-in_default-2-clause-refused
returns-in_default-2-clause-refused c = λ _. after_other c.args.line.now _ _ _ _ c.in-Some.ensures.words c.in_ok-given.ensures c.in_default-2.is c.args.number _ c.args.next

pub returns-in_default-or-clause-refused : goal.returns-in_default-or-clause-refused
returns-in_default-or-clause-refused c =
    λ _. rw (after_read c.args.line.now _ _ _ _ _ c.in-Some.ensures.words c.in_ok-given.ensures c.in-Some-2.is, ← c.in_default-or.ensures) refl

pub returns-then-len-from-clause-refused : goal.returns-then-len-from-clause-refused
returns-then-len-from-clause-refused c =
    λ _. rw (
      after_read c.args.line.now _ _ _ _ _ c.in-Some.ensures.words c.in_ok-given.ensures c.in-Some-2.is,
      ← c.in-Some-or.ensures,
      outside c.in-Some-or.address (length c.read_store.new.bytes.items) (omega (arith, c.len.ensures)),
    ) refl

pub returns-clause-loaded : goal.returns-clause-loaded
returns-clause-loaded c = rw (
  c.put_bytes.ensures.image,
  c.put_bytes.ensures.next,
  c.as_slice.ensures.value,
  after_read c.args.line.now _ _ _ _ _ c.in-Some.ensures.words c.in_ok-given.ensures c.in-Some-2.is,
  ← c.in-Some-or.ensures,
  inside c.in-Some-or.address (length c.read_store.new.bytes.items) (omega (arith, c.len.ensures)),
) refl
