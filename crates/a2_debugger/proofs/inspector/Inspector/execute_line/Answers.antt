use Rattle.std.proofs.Common.{List, ℕ, map, inl, inr, refl, subst}
use Rattle.a2_text.specs.Bytes.{capital}
use Rattle.a2_debugger.specs.Words.{IsVerb}
use Rattle.a2_debugger.specs.Sayings.{IsNoCommand}
use Rattle.a2_debugger.specs.Inspections.{Inspection}
use Rattle.a2_debugger.proofs.inspector.Inspector.execute_line.Goals as goal

pub returns-in-None : goal.returns-in-None
returns-in-None g c =
    let verb = c.in-Some.verb in
    inr (inl (
      verb,
      subst (λ (word : List ℕ). IsVerb (map capital word) verb) c.split_word.ensures.word c.in-Some.ensures.found,
      subst (λ (rest : List ℕ). IsNoCommand c.args.self.now.program verb rest) c.split_word.ensures.following
          (subst (λ (i : Inspection). IsNoCommand i.program verb c.split_word.result.1.now) c.self.view_is c.in-None.ensures),
      refl,
    ))
