use Rattle.std.specs.Prelude.{◌≡◌, ◌*◌, ◌+◌, ◌-◌, ◌≤◌, length, refl}
use Rattle.std.proofs.Common.{arith}
use Rattle.std.proofs.lemmas.List.{take_all}
use Rattle.a2_bus.proofs.Copying.{piece_copied}
use Rattle.a2_bus.proofs.space.copy_ram.Goals as goal

pub loop-piece-init : goal.loop-piece-init
loop-piece-init c = refl

pub loop-piece-preserved : goal.loop-piece-preserved
loop-piece-preserved c =
    let fits : c.loop-piece.piece * 3072 + 3072 ≤ length c.args.other.now = omega (arith, c.from-piece-end.ensures) in
    let whole : c.loop-piece.piece * 3072 + 3072 - c.loop-piece.piece * 3072 ≡ 3072 = omega arith in
    let next : (c.loop-piece.piece + 1) * 3072 ≡ c.loop-piece.piece * 3072 + 3072 = omega arith in
    rw (next, whole) (piece_copied c.loop-piece.ram c.args.other.now c.copy_from_slice.new.self (c.loop-piece.piece * 3072) (omega arith) fits
    (rw whole at c.copy_from_slice.ensures.after) c.loop-piece.invariant)

pub returns : goal.returns
returns c =
    let mine : length c.loop-piece.ram ≤ c.loop-piece.piece * 3072 = omega (arith, c.from-piece-end.ensures) in
    let its : length c.args.other.now ≤ c.loop-piece.piece * 3072 = omega (arith, c.from-piece-end.ensures) in
    rw (take_all (c.loop-piece.piece * 3072) c.loop-piece.ram mine, take_all (c.loop-piece.piece * 3072) c.args.other.now its) at c.loop-piece.invariant
