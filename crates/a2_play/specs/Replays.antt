-- A replay leads to where the play did. This project's profile.
use Rattle.std.specs.Prelude.{◌≡◌}
use Rattle.a2_asm.specs.Assembled.{Assembled}
use Rattle.a2_machine.specs.State.{world_of_state}
use Rattle.a2_play.specs.Played.{Play, IsPlayed}

-- two plays of a program with the same keys after the same steps are at the same world after as many steps
abbrev pub ReplayIsPlay : Type 0
ReplayIsPlay = (program : Assembled) (play again : Play) → IsPlayed program play → IsPlayed program again → again.log ≡ play.log
    → again.machine.state.steps ≡ play.machine.state.steps → world_of_state again.machine.state ≡ world_of_state play.machine.state
