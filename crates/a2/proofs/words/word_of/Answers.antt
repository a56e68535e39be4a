use Rattle.std.proofs.Common.{rules, ◌∙◌}
use Rattle.clap.specs.Words.{found_of}
use Rattle.clap.proofs.WalkLemmas.{first_value-rows}
use Rattle.a2.proofs.words.word_of.Goals as goal

pub returns-clause-found : goal.returns-clause-found
returns-clause-found c = let text = c.get_str.ensures ∙ first_value-rows (found_of c.args.found.now) c.args.name.now in search rules

pub returns-clause-missing : goal.returns-clause-missing
returns-clause-missing c = let text = c.get_str.ensures ∙ first_value-rows (found_of c.args.found.now) c.args.name.now in search rules
