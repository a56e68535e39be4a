use Rattle.std.proofs.Common.{◌≡◌, map, take, Some}
use Rattle.a2_expand.specs.Data.{shown}
use Rattle.a2_expand.proofs.builder.shown_codes.Given as goal

-- the codes so far
abbrev pub invariant-loop-c : goal.invariant-loop-c
invariant-loop-c g l = map Some l.codes.items ≡ map (shown l.flashing) (take l.c-index l.text)
