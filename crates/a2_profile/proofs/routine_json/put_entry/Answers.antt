use Rattle.std.proofs.Common.{ℕ, List, ◌++◌, codes, ap, ◌∙◌, subst}
use Rattle.std.specs.Fmt.{decimal}
use Rattle.a2_stream.specs.Stream.{SendsOrBreaks}
use Rattle.a2_profile.specs.Json.{entry_fields}
use Rattle.a2_profile.proofs.routine_json.put_entry.Goals as goal

pub returns : goal.returns
unfolding entry_fields
returns g c =
    let text : List ℕ → List ℕ → List ℕ = λ address times. codes "\"address\":" ++ (address ++ (codes ",\"times\":" ++ (times ++ codes ","))) in
    subst (SendsOrBreaks (g.W.Output.taker c.args.writer.now) (g.W.Output.taker c.put_all.new.writer) c.put_all.result)
    (ap (λ (address : List ℕ). text address c.as_slice-2.result.now) (c.as_slice.ensures.value ∙ c.decimal-address.ensures ∙ ap decimal c.from.ensures)
    ∙ ap (λ (times : List ℕ). text (decimal c.args.address) times) (c.as_slice-2.ensures.value ∙ c.decimal-times.ensures))
    c.put_all.ensures
