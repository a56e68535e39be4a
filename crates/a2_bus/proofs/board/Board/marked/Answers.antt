use Rattle.a2_bus.proofs.Showing.{page_seen}
use Rattle.a2_bus.proofs.board.Board.marked.Goals as goal

pub returns : goal.returns
returns g c =
    rw (← c.self.view_is, ← page_seen c.view.result c.self.inside.space (record { page1 = c.view.ensures.page1; page2 = c.view.ensures.page2; switches = c.view.ensures.switches }))
    c.is_stale.ensures
