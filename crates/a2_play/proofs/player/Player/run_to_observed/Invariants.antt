use Rattle.std.proofs.Common.{◌≡◌}
use Rattle.a2_asm.specs.Assembled.{Assembled}
use Rattle.a2_play.specs.Played.{IsPlayed}
use Rattle.a2_play.proofs.player.Player.run_to_observed.Given as goal

-- what was played so far
abbrev pub invariant-loop : goal.invariant-loop
invariant-loop g l = record {
  log : l.self.log ≡ l.fn.self.log;
  played : (program : Assembled) → IsPlayed program l.fn.self → IsPlayed program l.self;
}
