use Rattle.std.proofs.Common.{◌≡◌, ◌+◌, ◌≤◌, length}
use Rattle.std.specs.Option.{option_map}
use Rattle.a2_hex.specs.ObjectLines.{hex_bytes}
use Rattle.a2_hex.proofs.store.count_bytes.Given as goal

abbrev pub invariant-loop-word : goal.invariant-loop-word
invariant-loop-word l = record {
  count : option_map (λ bytes. l.count + length bytes) (hex_bytes l.rest) ≡ option_map length (hex_bytes l.text);
  fits : l.count + length l.rest ≤ length l.text;
}

abbrev pub decreases-loop-word : goal.decreases-loop-word
decreases-loop-word l = length l.rest
