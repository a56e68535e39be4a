use Rattle.std.proofs.Common.{subst, ◌∙◌, List, ℕ, Option, codes}
use Rattle.clap.specs.Words.{found_of}
use Rattle.clap.proofs.WalkLemmas.{first_value-rows}
use Rattle.a2.specs.Words.{SaysLimit}
use Rattle.a2.proofs.words.limit_in.Goals as goal

pub returns : goal.returns
returns c =
    let P : Option (List ℕ) → Type 0 = λ word. SaysLimit word c.limit_given.result in
    subst P (c.get_str.ensures ∙ first_value-rows (found_of c.args.found.now) (codes "limit")) c.limit_given.ensures
