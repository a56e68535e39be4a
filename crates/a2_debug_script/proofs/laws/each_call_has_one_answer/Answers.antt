use Rattle.a2_debug_script.proofs.Total.{call_answers, calls_answer}
use Rattle.a2_debug_script.proofs.OneAnswer.{does-one, run-one}
use Rattle.a2_debug_script.proofs.laws.each_call_has_one_answer.Goals as goal

pub returns : goal.returns
returns c = record {
  each = call_answers;
  one = λ call a b old other new next like h k. does-one old other new next call a b like h k;
  each_list = calls_answer;
  one_list = run-one;
}
