use Rattle.std.proofs.Common.{subst, ◌∙◌, List, ℕ, Option, codes}
use Rattle.clap.specs.Words.{found_of}
use Rattle.clap.proofs.WalkLemmas.{first_value-rows}
use Rattle.a2.specs.Words.{SaysKeys}
use Rattle.a2.proofs.words.keys_in.Goals as goal

pub returns : goal.returns
returns c =
    let P : Option (List ℕ) → Type 0 = λ text. SaysKeys text c.keys_given.result in
    subst P (c.get_str.ensures ∙ first_value-rows (found_of c.args.found.now) (codes "keys")) c.keys_given.ensures
