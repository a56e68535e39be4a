use Rattle.std.proofs.Common.{ℕ, List, length}
use Rattle.a2_manual.specs.Topics.{topics, IsKnown, IsTopicText}
use Rattle.a2_manual.proofs.topic_lookup.topic.Given as goal

-- if some topic has a name, one of the topics left has it, and what that topic says is said
abbrev pub invariant-loop-text : goal.invariant-loop-text
invariant-loop-text l =
    (IsKnown l.name (topics l.manual) → IsKnown l.name (topics l.left))
    × ((text : List ℕ) → IsTopicText l.name (topics l.left) text → IsTopicText l.name (topics l.manual) text)

abbrev pub decreases-loop-text : goal.decreases-loop-text
decreases-loop-text l = length l.left
