use Rattle.a2_scripts.proofs.DebugScripting.{debug_of_inputs}
use Rattle.a2_scripts.proofs.texts.debug_text.Goals as goal

pub returns-clause-meaning : goal.returns-clause-meaning
returns-clause-meaning g c =
    debug_of_inputs _ _ _ _ _ _ _ _ _ c.in_ok-text.ensures.text c.in_ok-lines.ensures.text c.as_slice.ensures.value c.as_slice-2.ensures.value c.debug_script.ensures.meaning
