use Rattle.std.proofs.Common.{◌≡◌, ◌+◌, None, map, drop}
use Rattle.a2_text.specs.Lines.{lines}
use Rattle.a2_hex.specs.Images.{held, no_bytes}
use Rattle.a2_hex.specs.ObjectLines.{after_lines}
use Rattle.a2_formats.proofs.loading.load_lines.Given as goal

-- loading the lines left, after what is loaded so far, gives what all the lines give
abbrev pub invariant-loop-i : goal.invariant-loop-i
invariant-loop-i l =
    after_lines (l.i + 1) (record { image = held l.image; next = l.next }) (drop l.i (map (λ x. x.now) l.line-items))
    ≡ after_lines 1 (record { image = no_bytes; next = None }) (lines l.text)
