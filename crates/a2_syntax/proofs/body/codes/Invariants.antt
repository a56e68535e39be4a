use Rattle.std.proofs.Common.{◌≡◌, map, take}
use Rattle.a2_syntax.specs.Numbers.{code_in}
use Rattle.a2_syntax.proofs.body.codes.Given as goal

abbrev pub invariant-loop-c : goal.invariant-loop-c
invariant-loop-c g l = l.bytes.items ≡ map (code_in l.quote) (take l.c-index l.text)
