use Rattle.std.proofs.Common.{◌≡◌, drop}
use Rattle.a2_profile.specs.Runs.{first_stop}
use Rattle.a2_profile.proofs.runs.first_stop.Given as goal

-- none of the causes so far is a stop
abbrev pub invariant-loop-cause : goal.invariant-loop-cause
invariant-loop-cause l = first_stop (drop l.cause-index l.causes) ≡ first_stop l.causes
