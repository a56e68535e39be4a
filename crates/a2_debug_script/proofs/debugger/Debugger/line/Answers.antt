use Rattle.std.proofs.Common.{◌≢◌, [], rules, inr}
use Rattle.a2_stream.proofs.Joined.{Sends-nil}
use Rattle.a2_text.specs.Words.{after_first_word}
use Rattle.a2_debug_script.specs.declared.calls.Answer.TheVariants.{Done}
use Rattle.a2_debug_script.specs.declared.calls.Call.{Call}
use Rattle.a2_debug_script.specs.declared.commands.Verb.TheVariants.{Back}
use Rattle.a2_debug_script.specs.Calls.{CallDoes}
use Rattle.a2_debug_script.specs.Answers.{MeansCall, IsVerb}
use Rattle.a2_debug_script.proofs.Saying.{undone}
use Rattle.a2_debug_script.proofs.debugger.Debugger.line.Goals as goal

pub returns-in-Done-2 : goal.returns-in-Done-2
returns-in-Done-2 g c =
    let other : c.in_ok-verb.verb ≢ Back = search rules in
    let is : IsVerb c.args.text.now c.in_ok-verb.verb = search rules in
    let made : (call : Call) × MeansCall c.in_ok-verb.verb (after_first_word c.args.text.now) call × CallDoes c.args.self.now call Done c.match-verb.self =
    search rules in
    let spelt = undone c.in_ok-verb.verb c.match-verb.self other in
    ([], inr (inr (c.in_ok-verb.verb, is, record { answer = Done; called = made; spelt = spelt })), Sends-nil _)
