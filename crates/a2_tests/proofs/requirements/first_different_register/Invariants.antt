use Rattle.std.proofs.Common.{◌≡◌, length}
use Rattle.std.specs.List.{list_all}
use Rattle.a2_effect.specs.View.{registers_of}
use Rattle.a2_text.specs.Words.{words}
use Rattle.a2_tests.specs.Requirements.{register_matches}
use Rattle.a2_tests.proofs.requirements.first_different_register.Given as goal

-- the word searched for is not among the words so far
abbrev pub invariant-loop-word : goal.invariant-loop-word
invariant-loop-word g l = list_all (register_matches (registers_of l.machine.state.regs)) (words l.rest) ≡ list_all (register_matches (registers_of l.machine.state.regs)) (words l.text)

abbrev pub decreases-loop-word : goal.decreases-loop-word
decreases-loop-word g l = length l.rest
