use Rattle.std.proofs.Common.{length, refl, ap, arith}
use mathlib.Core.Path.{fun_ext}
use Rattle.a2_hex.specs.Images.{held, put}
use Rattle.a2_hex.proofs.LoadLaws.{bytes_after, bytes_over, next-below}
use Rattle.a2_hex.proofs.load.put_bytes_from.Goals as goal

pub loop-byte-init : goal.loop-byte-init
loop-byte-init g c = (g.all, c.requires.1.0, refl, refl, omega arith)

pub set-requires : goal.set-requires
set-requires g c =
    let (left, is, image, sums, le) = c.loop-byte.invariant in
    let more = bytes_after _ _ c.in-Some.byte left c.in-Some.ensures.bytes is in
    next-below c.args.address (length g.all) c.loop-byte.next left more.0 c.in-Some.byte c.requires.1.1 more.2 sums le

pub loop-byte-preserved : goal.loop-byte-preserved
loop-byte-preserved g c =
    let (left, is, image, sums, le) = c.loop-byte.invariant in
    let more = bytes_after _ _ c.in-Some.byte left c.in-Some.ensures.bytes is in
    let n = ap length more.2 in
    (more.0, more.1, rw (fun_ext {g = put (held c.loop-byte.image) c.loop-byte.next c.in-Some.byte} c.set.ensures) (rw more.2 at image), omega arith, omega arith)

pub returns-clause-image : goal.returns-clause-image
returns-clause-image g c =
    let (left, is, image, sums, le) = c.loop-byte.invariant in
    rw (bytes_over _ left c.in_default.ensures.bytes is) at image

pub returns-clause-next : goal.returns-clause-next
returns-clause-next g c =
    let (left, is, image, sums, le) = c.loop-byte.invariant in
    let n = ap length (bytes_over _ left c.in_default.ensures.bytes is) in
    omega arith
