use Rattle.std.proofs.Common.{take}
use Rattle.std.specs.List.{flat_map}
use Rattle.a2_stream.specs.Stream.{Sends}
use Rattle.a2_profile.specs.Row.{text_after}
use Rattle.a2_profile.proofs.row.put_texts.Given as goal

-- the texts so far were sent
abbrev pub invariant-loop-text : goal.invariant-loop-text
invariant-loop-text g l =
    Sends (g.W.Output.taker l.fn.writer) (g.W.Output.taker l.writer) (flat_map (λ text. text_after text.now) (take l.text-index l.texts))
