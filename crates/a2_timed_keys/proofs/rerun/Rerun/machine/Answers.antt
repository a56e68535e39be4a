use Rattle.std.proofs.Common.{◌≡◌, ap, arith, subst}
use Rattle.a2_asm.specs.Assembled.{Assembled}
use Rattle.a2_asm.specs.Programs.{IsSound}
use Rattle.a2_machine.specs.State.{world_of_state}
use Rattle.a2_timed_keys.specs.Rerun.{Rerunning, worlds_of}
use Rattle.a2_timed_keys.proofs.Again.{world_again}
use Rattle.a2_timed_keys.proofs.rerun.Rerun.machine.Goals as goal

pub returns-clause-world : goal.returns-clause-world
returns-clause-world g c =
    let e = c.self.inside in
    subst (λ (r : Rerunning). world_of_state e.machine.state ≡ worlds_of r.run r.steps) c.self.view_is
    (world_again e.ended.now e.machine e.due (subst (λ (p : Assembled). IsSound p) c.program.ensures c.is_sound.ensures) c.self.invariant)

pub returns-clause-within : goal.returns-clause-within
returns-clause-within g c =
    omega (
      arith,
      c.self.invariant.at.within,
      ap (λ (r : Rerunning). r.steps) c.self.view_is,
      ap (λ (r : Rerunning). r.run.machine.state.steps) c.self.view_is,
    )
