use Rattle.std.proofs.Common.{ℕ, List, ◌++◌, codes, ap, ◌∙◌, subst}
use Rattle.std.specs.Fmt.{decimal}
use Rattle.a2_stream.specs.Stream.{SendsOrBreaks}
use Rattle.a2_profile.specs.Json.{sum_fields}
use Rattle.a2_profile.proofs.json.put_sums.Goals as goal

pub returns : goal.returns
unfolding sum_fields
returns g c =
    let text : List ℕ → List ℕ → List ℕ = λ steps cycles. codes "{\"steps\":" ++ (steps ++ (codes ",\"cycles\":" ++ (cycles ++ codes ",\"causes\":["))) in
    subst (SendsOrBreaks (g.W.Output.taker c.args.writer.now) (g.W.Output.taker c.put_all.new.writer) c.put_all.result)
    (ap (λ (steps : List ℕ). text steps c.as_slice-2.result.now) (c.as_slice.ensures.value ∙ c.decimal-steps.ensures)
    ∙ ap (λ (cycles : List ℕ). text (decimal c.args.steps) cycles) (c.as_slice-2.ensures.value ∙ c.decimal-cycles.ensures))
    c.put_all.ensures
