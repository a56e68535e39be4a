use Rattle.std.proofs.Common.{length}
use Rattle.a2_monitor_listing.proofs.listing.bytes_of.Given as goal

-- one byte fewer
abbrev pub decreases-loop-byte : goal.decreases-loop-byte
decreases-loop-byte g l = length l.rest
