use Rattle.std.proofs.Common.{◌≡◌, ◌++◌, take}
use Rattle.a2_asm.specs.Assembled.{Assembled}
use Rattle.a2_play.specs.Played.{IsPlayed}
use Rattle.a2_play.proofs.player.Player.replay.Given as goal

-- what was typed so far
abbrev pub invariant-loop-typed : goal.invariant-loop-typed
invariant-loop-typed g l = record {
  log : l.self.log ≡ l.fn.self.log ++ take l.typed-index l.log;
  played : (program : Assembled) → IsPlayed program l.fn.self → IsPlayed program l.self;
}
