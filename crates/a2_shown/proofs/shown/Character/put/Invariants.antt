use Rattle.std.proofs.Common.{◌≡◌, drop}
use Rattle.a2_page.proofs.Sending.{IsLeft}
use Rattle.a2_shown.specs.Shown.{shown_text, after_text}
use Rattle.a2_shown.proofs.shown.Character.put.Given as goal

-- the bytes so far were written, and the rest leads to the same end
abbrev pub invariant-loop-byte : goal.invariant-loop-byte
invariant-loop-byte g l =
    IsLeft (g.W.Output.taker l.fn.writer) (g.W.Output.taker l.writer) (shown_text l.fn.self l.text)
    (shown_text l.self (drop l.byte-index l.text))
    × (after_text l.self (drop l.byte-index l.text) ≡ after_text l.fn.self l.text)
