use Rattle.std.proofs.Common.{◌≡◌, ◌++◌, length}
use Rattle.std.specs.Option.{option_map}
use Rattle.a2_hex.specs.ObjectLines.{hex_bytes}
use Rattle.a2_formats.proofs.loading.read_words.Given as goal

-- the bytes so far, and those of the text left, are those of the whole text
abbrev pub invariant-loop-byte : goal.invariant-loop-byte
invariant-loop-byte l = option_map (λ others. l.bytes.items ++ others) (hex_bytes l.rest) ≡ hex_bytes l.text

abbrev pub decreases-loop-byte : goal.decreases-loop-byte
decreases-loop-byte l = length l.rest
