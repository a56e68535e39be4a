use Rattle.std.proofs.Common.{◌≡◌, ◌≤◌}
use Rattle.a2_text.specs.Bytes.{is_blank}
use Rattle.a2_tty.specs.Lines.{back_over, is_alike}
use Rattle.a2_tty.proofs.line_editor.line.back_over.Given as goal

-- the same position is found from here
abbrev pub invariant-loop-here : goal.invariant-loop-here
invariant-loop-here l = record {
  place : back_over (λ c. is_alike l.blanks (is_blank c)) l.bytes l.here ≡ back_over (λ c. is_alike l.blanks (is_blank c)) l.bytes l.at;
  within : l.here ≤ l.at;
}

abbrev pub decreases-loop-here : goal.decreases-loop-here
decreases-loop-here l = l.here
