use Rattle.std.proofs.Common.{◌≡◌, ℕ, ◌+◌, ◌-◌, ◌*◌, subst, slice_range, arith}
use Rattle.a2_bus.specs.Memory.{ram_byte}
use Rattle.a2_bus.specs.View.{memory_of}
use Rattle.a2_film.specs.Changes.{differing}
use Rattle.a2_film.specs.Filmed.{from_address, Appends}
use Rattle.a2_film.proofs.Others.{page-byte, piece-of}
use Rattle.a2_film.proofs.Appending.{appends-empty, others-joined}
use Rattle.a2_film.proofs.kept.append_page.Goals as goal

pub append_piece-last-requires-clause-now : goal.append_piece-last-requires-clause-now
append_piece-last-requires-clause-now g c =
    rw (c.from-begin.ensures, c.from-past.ensures) (λ a high low.
    page-byte c.args.machine.now.state.bus c.view.result.page1.now c.loop-piece.piece a c.loop-piece-test.true c.peek.ensures.size
    c.view.ensures.bytes1
    (omega (arith, high)) (omega (arith, low)))

pub loop-piece-preserved : goal.loop-piece-preserved
loop-piece-preserved g c =
    let new = ram_byte (memory_of c.args.machine.now.state.bus) in
    let old = from_address 0x400 c.args.old.now in
    let start = c.loop-piece.piece * 64 in
    let many : 0x400 + (start + 64) - (0x400 + start) ≡ 64 = omega arith in
    let was = from_address (0x400 + start) (slice_range c.args.old.now start (start + 64)) in record {
      stores = others-joined old was new c.args.rows.now.items c.loop-piece.rows.items c.append_piece-last.new.rows.items c.args.next
          c.loop-piece.last c.append_piece-last.result
          0x400 start 64 ((c.loop-piece.piece + 1) * 64) (omega arith)
          (λ k high low. piece-of c.args.old.now c.loop-piece.piece k c.loop-piece-test.true c.told-old high low)
          c.loop-piece.invariant.stores
          (subst (λ (n : ℕ). Appends c.loop-piece.rows.items c.loop-piece.last (differing was new (0x400 + start) n)
          c.append_piece-last.new.rows.items c.append_piece-last.result) many
          (rw (c.from-begin.ensures, c.from-past.ensures) at c.append_piece-last.ensures.stores));
      room = omega (arith, c.append_piece-last.ensures.length, c.loop-piece.invariant.room);
    }

pub loop-piece-init : goal.loop-piece-init
loop-piece-init g c = record {
  stores = appends-empty (from_address 0x400 c.args.old.now) (ram_byte (memory_of c.args.machine.now.state.bus))
      c.args.rows.now.items c.args.next 0x400 (0 * 64)
      (omega arith);
  room = omega arith;
}

pub returns-clause-stores : goal.returns-clause-stores
returns-clause-stores g c =
    let all : c.loop-piece.piece * 64 ≡ 0x400 = omega (arith, c.loop-piece-test.false, c.loop-piece.auto.piece-end) in
    subst (λ (n : ℕ). Appends c.args.rows.now.items c.args.next
    (differing (from_address 0x400 c.args.old.now) (ram_byte (memory_of c.args.machine.now.state.bus)) 0x400 n)
    c.loop-piece.rows.items c.loop-piece.last) all c.loop-piece.invariant.stores
