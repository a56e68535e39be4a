use Rattle.std.proofs.Common.{inl, inr, refl}
use Rattle.a2_promise.specs.Tokens.{tokens}
use Rattle.a2_promise.specs.PromisedTerms.{requires, ensures, changes, prints, takes, underway}
use Rattle.a2_promise.proofs.Laying.{on_ok, ok_always}
use Rattle.a2_promise.proofs.Saying.{begins, fact_of, spelt_of, says, same, unchanged}
use Rattle.a2_promise.proofs.promises.Block.take.Goals as goal

pub returns-in-Requires : goal.returns-in-Requires
returns-in-Requires c = λ none around.
    let is = c.in-Requires.is in
    let b = rw is at (begins c.args.reader.now.rest.now c.token_in.result.1.now c.token_in.ensures.found c.in-Some.ensures) in
    on_ok c.push_fact.result (c.push_fact.ensures none) (λ f. says (requires f.e) (fact_of b (rw is at c.is_within-reader.ensures) around f)
    f.adds same unchanged same same (rw is at c.still_within-self.ensures) refl)

pub returns-in-Ensures : goal.returns-in-Ensures
returns-in-Ensures c = λ none around.
    let is = c.in-Ensures.is in
    let b = rw is at (begins c.args.reader.now.rest.now c.token_in.result.1.now c.token_in.ensures.found c.in-Some.ensures) in
    on_ok c.push_fact-in-Ensures.result (c.push_fact-in-Ensures.ensures none) (λ f. says (ensures f.e)
    (fact_of b (rw is at c.is_within-reader.ensures) around f) same f.adds unchanged same same (rw is at c.still_within-self.ensures) refl)

pub returns-in-Changes : goal.returns-in-Changes
returns-in-Changes c = λ none around.
    let is = c.in-Changes.is in
    let b = rw is at (begins c.args.reader.now.rest.now c.token_in.result.1.now c.token_in.ensures.found c.in-Some.ensures) in
    on_ok c.take_changes.result c.take_changes.ensures (λ f. says (changes f.all) (_, b.left, f.are_changes)
    same same f.let_all same same (rw is at c.still_within-self.ensures) refl)

pub returns-in-Prints : goal.returns-in-Prints
returns-in-Prints c = λ none around.
    let is = c.in-Prints.is in
    let b = rw is at (begins c.args.reader.now.rest.now c.token_in.result.1.now c.token_in.ensures.found c.in-Some.ensures) in
    on_ok c.push_text.result c.push_text.ensures (λ f. says (prints f.characters) (spelt_of b f)
    same same unchanged f.adds same (rw is at c.still_within-self.ensures) refl)

pub returns-in-Takes : goal.returns-in-Takes
returns-in-Takes c = λ none around.
    let is = c.in-Takes.is in
    let b = rw is at (begins c.args.reader.now.rest.now c.token_in.result.1.now c.token_in.ensures.found c.in-Some.ensures) in
    on_ok c.push_text-in-Takes.result c.push_text-in-Takes.ensures (λ f. says (takes f.characters) (spelt_of b f)
    same same unchanged same f.adds (rw is at c.still_within-self.ensures) refl)

pub returns-in-Decreases : goal.returns-in-Decreases
returns-in-Decreases c = λ none around.
    let is = c.in-Decreases.is in
    let b = rw is at (begins c.args.reader.now.rest.now c.token_in.result.1.now c.token_in.ensures.found c.in-Some.ensures) in
    ok_always c.push_measure.result (says (underway (tokens c.args.reader.now.rest.now)) (_, _, b.left, refl, refl)
    same same unchanged same same (rw is at c.still_within-self.ensures) refl)

pub returns-in-Invariant : goal.returns-in-Invariant
returns-in-Invariant c = λ none around.
    let b = begins c.args.reader.now.rest.now c.token_in.result.1.now c.token_in.ensures.found c.in-Some.ensures in
    ok_always c.push_fact-in-Invariant.result (elim c.in-Invariant.is [
      | inl is ↦ says (underway (tokens c.args.reader.now.rest.now)) (_, _, (rw is at b).left, refl, refl)
          same same unchanged same same (rw is at c.still_within-self.ensures) refl
      | inr is ↦ says (underway (tokens c.args.reader.now.rest.now)) (_, _, (rw is at b).left, refl, refl)
          same same unchanged same same (rw is at c.still_within-self.ensures) refl
    ])
