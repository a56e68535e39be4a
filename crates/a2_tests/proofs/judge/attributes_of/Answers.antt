use Rattle.std.proofs.Common.{ap, ap₂, ◌∙◌, ◌++◌, List, ℕ, Some}
use Rattle.a2_bus.specs.View.{memory_of}
use Rattle.a2_tests.proofs.Ends.{marked, took}
use Rattle.a2_tests.proofs.judge.attributes_of.Goals as goal

pub returns-in-Ok : goal.returns-in-Ok
unfolding memory_of
returns-in-Ok g c =
    ap (λ (bytes : List ℕ). Some bytes) (c.in-Ok.ensures.bytes ∙ ap₂ (λ (a b : List ℕ). a ++ b) (ap took c.new-marks.ensures)
    (rw (c.view.ensures.switches, c.view.ensures.page1, c.view.ensures.page2) (marked (memory_of c.args.machine.now.state.bus))))
