use Rattle.std.proofs.Common.{map, take}
use Rattle.std.specs.List.{All}
use Rattle.a2_promise_try.specs.RunLines.{AreOthers, IsAsked}
use Rattle.a2_promise_try.proofs.judging.split_lines.Given as goal

abbrev pub invariant-loop-index : goal.invariant-loop-index
invariant-loop-index l = record {
  run : All (IsAsked (map (λ line. line.now) l.lines)) l.run.items;
  others : AreOthers (map (λ line. line.now) (take l.index l.lines)) (map (λ line. line.now) l.others.items);
}
