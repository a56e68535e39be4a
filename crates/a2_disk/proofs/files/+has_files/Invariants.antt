use Rattle.std.proofs.Common.{length}
use Rattle.a2_disk.proofs.files.+has_files.Given as goal

abbrev pub decreases-has_files : goal.decreases-has_files
decreases-has_files l = length l.entries.now
