use Rattle.std.proofs.Common.{◌∙◌, codes}
use Rattle.clap.specs.Words.{found_of}
use Rattle.clap.proofs.WalkLemmas.{one_text-rows}
use Rattle.a2.proofs.words.options_in.Goals as goal

pub returns-clause-free : goal.returns-clause-free
returns-clause-free c =
    let same = one_text-rows (found_of c.args.found.now) (codes "free") in
    record {
      on = λ is. c.get_flag.ensures.value (same ∙ is);
      off = λ is. c.get_flag.ensures.other (same ∙ is);
      absent = λ is. c.get_flag.ensures.none (same ∙ is);
    }

pub returns-clause-attr : goal.returns-clause-attr
returns-clause-attr c =
    let same = one_text-rows (found_of c.args.found.now) (codes "attr") in
    record {
      on = λ is. c.get_flag-2.ensures.value (same ∙ is);
      off = λ is. c.get_flag-2.ensures.other (same ∙ is);
      absent = λ is. c.get_flag-2.ensures.none (same ∙ is);
    }
