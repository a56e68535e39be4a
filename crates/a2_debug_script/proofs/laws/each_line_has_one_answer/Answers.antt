use Rattle.a2_debug_script.proofs.Total.{met, answered_past}
use Rattle.a2_debug_script.proofs.Alike.{session-alike}
use Rattle.a2_debug_script.proofs.OneAnswer.{one-answer, one-refusal, never-both}
use Rattle.a2_debug_script.proofs.laws.each_line_has_one_answer.Goals as goal

pub returns : goal.returns
returns c = record {
  session = session-alike;
  each = met;
  past = λ line text old new is past. answered_past line old text new is past;
  never_both = never-both;
  one = one-answer;
  refusal = one-refusal;
}
