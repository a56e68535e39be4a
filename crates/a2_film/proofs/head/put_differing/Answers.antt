use Rattle.std.proofs.Common.{◌+◌, ◌-◌, ◌*◌, slice_index, arith}
use Rattle.a2_page.proofs.Sending.{left_all, left_none, left_more, left_broke_off}
use Rattle.a2_bus.specs.Memory.{ram_byte, ram_end}
use Rattle.a2_bus.specs.View.{memory_of}
use Rattle.a2_film.specs.Changes.{differing}
use Rattle.a2_film.specs.Rows.{stores_text, no_address}
use Rattle.a2_film.proofs.Appending.{none-left, piece-parted}
use Rattle.a2_film.proofs.head.put_differing.Goals as goal

pub loop-piece-init : goal.loop-piece-init
loop-piece-init g c =
    left_all (g.W.Output.taker c.args.writer.now)
    (stores_text no_address (differing (slice_index c.args.old.now) (ram_byte (memory_of c.args.machine.now.state.bus)) 0
    ram_end))

pub returns-in_err-put : goal.returns-in_err-put
returns-in_err-put g c =
    let start = c.loop-piece.piece * 256 in
    left_broke_off _ _ _ c.from_residual.result _ _ _ _ c.from_residual.ensures.0
    (piece-parted c.args.old.now (ram_byte (memory_of c.args.machine.now.state.bus)) c.clear.new.self.items
    c.append_others-next.new.rows.items c.loop-piece.next
    c.append_others-next.result start (start + 256) ((c.loop-piece.piece + 1) * 256) ram_end c.clear.ensures (omega arith)
    (omega (arith, c.loop-piece-test.true))
    (omega arith) c.requires (rw (c.from-begin.ensures, c.from-past.ensures) at c.append_others-next.ensures.stores))
    c.loop-piece.invariant (rw c.as_slice.ensures.value at c.in_err-put.ensures)

pub loop-piece-preserved : goal.loop-piece-preserved
loop-piece-preserved g c =
    let start = c.loop-piece.piece * 256 in
    left_more _ _ _ _ _ _ _
    (piece-parted c.args.old.now (ram_byte (memory_of c.args.machine.now.state.bus)) c.clear.new.self.items
    c.append_others-next.new.rows.items c.loop-piece.next
    c.append_others-next.result start (start + 256) ((c.loop-piece.piece + 1) * 256) ram_end c.clear.ensures (omega arith)
    (omega (arith, c.loop-piece-test.true))
    (omega arith) c.requires (rw (c.from-begin.ensures, c.from-past.ensures) at c.append_others-next.ensures.stores))
    c.loop-piece.invariant (rw c.as_slice.ensures.value at c.in_ok-put.ensures)

pub returns : goal.returns
returns g c =
    left_none _ _ _ _ (none-left (slice_index c.args.old.now) (ram_byte (memory_of c.args.machine.now.state.bus))
    c.loop-piece.next (c.loop-piece.piece * 256)
    (ram_end - c.loop-piece.piece * 256) (omega (arith, c.loop-piece-test.false))) c.loop-piece.invariant
