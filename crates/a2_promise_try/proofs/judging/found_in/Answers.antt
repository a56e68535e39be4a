use Rattle.a2_promise_try.proofs.RunLines.{other_lines}
use Rattle.a2_promise_try.proofs.judging.found_in.Goals as goal

pub returns : goal.returns
returns c =
    let found = c.promises_of.ensures (other_lines _ _ _ c.requires c.source.ensures.of_text.1) in
    rw c.program.ensures.is at found
