use Rattle.std.proofs.Common.{◌≡◌, ◌++◌, length}
use Rattle.a2_text.specs.Words.{words}
use Rattle.a2_monitor_listing.specs.Listing.{up_to_operation}
use Rattle.a2_monitor_listing.proofs.object.put_bytes.Given as goal

-- the bytes so far and those of the rest make up all bytes
abbrev pub invariant-loop-word : goal.invariant-loop-word
invariant-loop-word g l = l.object.items ++ up_to_operation (words l.rest) ≡ l.fn.object.items ++ up_to_operation (words l.text)

abbrev pub decreases-loop-word : goal.decreases-loop-word
decreases-loop-word g l = length l.rest
