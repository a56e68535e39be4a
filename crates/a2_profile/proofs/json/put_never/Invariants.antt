use Rattle.std.proofs.Common.{drop}
use Rattle.a2_page.proofs.Sending.{IsLeft}
use Rattle.a2_profile.specs.Json.{never_numbers, never_array}
use Rattle.a2_profile.proofs.ItemLaws.{following}
use Rattle.a2_profile.proofs.json.put_never.Given as goal

-- the numbers of the statements so far were written
abbrev pub invariant-loop-statement : goal.invariant-loop-statement
invariant-loop-statement g l =
    IsLeft (g.W.Output.taker l.fn.writer) (g.W.Output.taker l.writer) (never_array l.profile l.statements)
    (following l.front (never_numbers l.profile (drop l.statement-index l.statements)))
