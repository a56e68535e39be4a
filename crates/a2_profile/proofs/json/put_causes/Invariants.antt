use Rattle.std.proofs.Common.{map, drop}
use Rattle.a2_page.proofs.Sending.{IsLeft}
use Rattle.a2_profile.specs.Json.{items, cause_string}
use Rattle.a2_profile.proofs.ItemLaws.{following}
use Rattle.a2_profile.proofs.json.put_causes.Given as goal

-- the causes so far were written
abbrev pub invariant-loop-cause : goal.invariant-loop-cause
invariant-loop-cause g l =
    IsLeft (g.W.Output.taker l.fn.writer) (g.W.Output.taker l.writer) (items (map cause_string l.causes)) (following l.front (map cause_string (drop l.cause-index l.causes)))
