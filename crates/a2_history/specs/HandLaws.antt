-- Laws of what is done by hand during a run.
use Rattle.std.specs.Prelude.{◌≡◌, ℕ, suc, ◌<◌, ◌≤◌}
use Rattle.a2_machine.specs.Meaning.{next}
use Rattle.a2_machine.specs.State.{code_of}
use Rattle.a2_history.specs.declared.actions.Action.{Action}
use Rattle.a2_history.specs.Courses.{Course, with_action, world_on}
use Rattle.a2_history.specs.Going.{with_done}

abbrev pub EarlierIsKept : Type 0
EarlierIsKept = (course : Course) (n : ℕ) (action : Action) (k : ℕ) → k < n
    → world_on (with_done n action course) k ≡ world_on course k

abbrev pub NowIsDone : Type 0
NowIsDone = (course : Course) (n : ℕ) (action : Action)
    → world_on (with_done n action course) n ≡ with_action action (world_on course n)

abbrev pub LaterIsForgotten : Type 0
LaterIsForgotten = (course : Course) (n : ℕ) (action : Action) (k : ℕ) → n ≤ k
    → world_on (with_done n action course) (suc k) ≡ next (code_of course.origin) (world_on (with_done n action course) k)
