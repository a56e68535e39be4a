use Rattle.std.proofs.Common.{ℕ, List, [], ◌++◌, codes, ap, ◌∙◌, subst}
use Rattle.std.specs.Fmt.{decimal}
use Rattle.a2_stream.specs.Stream.{SendsOrBreaks}
use Rattle.a2_profile.specs.Json.{branch_fields}
use Rattle.a2_profile.proofs.json.put_branch.Goals as goal

pub returns : goal.returns
unfolding branch_fields
returns g c =
    let count = c.args.count in
    let text : List ℕ → List ℕ → List ℕ = λ taken straight. codes ",\"taken\":" ++ (taken ++ (codes ",\"not_taken\":" ++ (straight ++ []))) in
    rw c.if-not-is_branch.false (
    subst (SendsOrBreaks (g.W.Output.taker c.args.writer.now) (g.W.Output.taker c.put_all.new.writer) c.put_all.result)
    (ap (λ (taken : List ℕ). text taken c.as_slice-2.result.now) (c.as_slice.ensures.value ∙ c.decimal-taken.ensures)
    ∙ ap (λ (straight : List ℕ). text (decimal count.taken) straight)
    (c.as_slice-2.ensures.value ∙ c.decimal-straight.ensures ∙ ap decimal c.saturating_sub.ensures))
    c.put_all.ensures
    )
