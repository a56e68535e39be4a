use Rattle.std.proofs.Common.{refl, arith}
use Rattle.a2_hex.proofs.LoadLaws.{after-store, after-counted, inside, outside}
use Rattle.a2_hex.specs.ObjectLines.{after_line}
use Rattle.a2_hex.proofs.load.load_line.Goals as goal

pub returns-in_default-clause-loaded : goal.returns-in_default-clause-loaded
unfolding after_line
returns-in_default-clause-loaded g c = rw c.in_default.ensures.words refl

pub returns-in_default-store_line-clause-refused : goal.returns-in_default-store_line-clause-refused
returns-in_default-store_line-clause-refused g c = after-store _ _ _ c.in-Some.ensures.words (c.in_default-store_line.ensures.none refl)

pub returns-in_default-or-clause-refused : goal.returns-in_default-or-clause-refused
returns-in_default-or-clause-refused g c =
    let (some, n, after) = after-counted _ _ c.in-Some.ensures.words c.in-Some-store_line.ensures.line c.in-Some-store_line.ensures.count in
    rw (after, ← c.in_default-or.ensures) refl

pub returns-then-store-from-clause-refused : goal.returns-then-store-from-clause-refused
returns-then-store-from-clause-refused g c =
    let (some, n, after) = after-counted _ _ c.in-Some.ensures.words c.in-Some-store_line.ensures.line c.in-Some-store_line.ensures.count in
    rw (after, ← c.in-Some-or.ensures, n, outside c.in-Some-or.address c.in-Some-store_line.store.count (omega arith)) refl

pub put_bytes_from-requires : goal.put_bytes_from-requires
put_bytes_from-requires g c =
    let (some, n, after) = after-counted _ _ c.in-Some.ensures.words c.in-Some-store_line.ensures.line c.in-Some-store_line.ensures.count in
    λ κs h. (h, (some, rw n (inside c.in-Some-or.address c.in-Some-store_line.store.count (omega arith))))

pub returns-clause-loaded : goal.returns-clause-loaded
returns-clause-loaded g c =
    let (some, n, after) = after-counted _ _ c.in-Some.ensures.words c.in-Some-store_line.ensures.line c.in-Some-store_line.ensures.count in
    rw (c.put_bytes_from.ensures.image, c.put_bytes_from.ensures.next, after, ← c.in-Some-or.ensures, n, inside c.in-Some-or.address c.in-Some-store_line.store.count (omega arith)) refl
