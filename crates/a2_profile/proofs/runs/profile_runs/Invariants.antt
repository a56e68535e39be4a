use Rattle.std.proofs.Common.{take}
use Rattle.a2_profile.specs.Runs.{IsProfileOfAll}
use Rattle.a2_profile.proofs.runs.profile_runs.Given as goal

-- the runs so far are added up
abbrev pub invariant-loop-keys : goal.invariant-loop-keys
invariant-loop-keys g l = IsProfileOfAll l.program (take l.keys-index l.runs.keys.now) l.runs.strokes.now l.runs.limit l.runs.free l.profile l.causes.items
