use Rattle.std.proofs.Common.{◌≡◌, ℕ, List, ap, ◌∙◌, subst}
use Rattle.a2_history.specs.Going.{Track}
use Rattle.a2_debugger.specs.Inspections.{Inspection, IsLineExecuted, line_to_run}
use Rattle.a2_debugger.proofs.inspector.Inspector.answer_in.Goals as goal

noted : (seen obeyed : Inspection) (track : Track) (line said : List ℕ) → seen ≡ obeyed → track ≡ seen.track → line ≡ said
    → record seen { track = track; last = line } ≡ record obeyed { last = said }
noted seen obeyed track line said same tracks lines =
    ap (λ (t : Track). record seen { track = t; last = line }) tracks ∙ ap (λ (i : Inspection). record i { last = line }) same
    ∙ ap (λ (l : List ℕ). record obeyed { last = l }) lines

pub returns : goal.returns
returns g c =
    let (text, sends) = c.report.ensures in
    let obeyed = c.execute_line-outcome.new.self in
    let said : c.line_to_execute-line.result.items ≡ line_to_run c.args.line.now c.args.self.now.last =
    c.line_to_execute-line.ensures ∙ ap (λ (i : Inspection). line_to_run c.args.line.now i.last) c.self.view_is in (
      text,
      (
        obeyed,
        subst (λ (l : List ℕ). IsLineExecuted l c.args.self.now obeyed) (c.as_slice.ensures.value ∙ said) c.execute_line-outcome.ensures,
        noted _ _ _ _ _ c.self-2.view_is c.with_entries-outcome.ensures said,
      ),
      sends,
    )
