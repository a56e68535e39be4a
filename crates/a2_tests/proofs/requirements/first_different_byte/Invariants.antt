use Rattle.std.proofs.Common.{◌≡◌, length}
use Rattle.a2_bus.specs.View.{memory_of}
use Rattle.a2_text.specs.Words.{words}
use Rattle.a2_tests.specs.Requirements.{has_bytes}
use Rattle.a2_tests.proofs.requirements.first_different_byte.Given as goal

-- the word searched for is not among the words so far
abbrev pub invariant-loop-word : goal.invariant-loop-word
invariant-loop-word g l = has_bytes (memory_of l.machine.state.bus) l.at (words l.rest) ≡ has_bytes (memory_of l.machine.state.bus) l.address (words l.bytes)

abbrev pub decreases-loop-word : goal.decreases-loop-word
decreases-loop-word g l = length l.rest
