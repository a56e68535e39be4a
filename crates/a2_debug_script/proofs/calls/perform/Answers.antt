use Rattle.a2_debug_script.proofs.Listed.{sets_told}
use Rattle.a2_debug_script.proofs.calls.perform.Goals as goal

pub returns-in-SetBreak : goal.returns-in-SetBreak
returns-in-SetBreak g c =
    rw c.in-SetBreak.is (sets_told _ _ _ _ _ c.answer_of-in-SetBreak.ensures c.set_break.ensures.breaks c.set_break.ensures.left)

pub returns-in-ClearBreak : goal.returns-in-ClearBreak
returns-in-ClearBreak g c =
    rw c.in-ClearBreak.is (sets_told _ _ _ _ _ c.answer_of-in-ClearBreak.ensures c.clear_break.ensures.breaks c.clear_break.ensures.left)
