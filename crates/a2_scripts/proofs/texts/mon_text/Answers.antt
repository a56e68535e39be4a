use Rattle.std.specs.Prelude.{codes}
use Rattle.a2_monitor.specs.Replies.{IsReply}
use Rattle.a2_monitor.specs.SessionStates.{start_state}
use Rattle.a2_scripts.specs.Scripts.{IsScriptError, IsMonText, OfScript}
use Rattle.a2_run.proofs.Reading.{of_input}
use Rattle.a2_scripts.proofs.Reading.{OfScript-wider, script_of_read, replies_of_read}
use Rattle.a2_scripts.proofs.texts.mon_text.Goals as goal

pub returns-clause-meaning : goal.returns-clause-meaning
returns-clause-meaning g c =
    of_input {T = Unit {0}} (λ t. OfScript (IsScriptError t)) (λ t _. IsMonText t) (λ t. OfScript-wider (script_of_read t)) (λ t _. replies_of_read IsReply (codes "*") start_state t)
    _ _ _ _ _ _ c.in_ok-text.ensures.text c.as_slice.ensures.value c.answer_script.ensures.meaning
