use Rattle.std.proofs.Common.{◌≡◌, drop, map, string_bytes}
use Rattle.a2_arguments.specs.Reader.{state_of}
use Rattle.a2_arguments.specs.Reading.{reading, reading_from}
use Rattle.a2_arguments.proofs.reading.read.Given as goal

-- all words give what those ahead give after those so far
abbrev pub invariant-loop-word : goal.invariant-loop-word
invariant-loop-word l = reading_from l.command (state_of l.reader) (map string_bytes (drop l.word-index l.words)) ≡ reading l.command (map string_bytes l.words)
