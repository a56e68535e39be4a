use Rattle.std.proofs.Common.{◌≢◌, ℕ, List, Bor, map, sym, ap, subst, ◌∙◌}
use Rattle.std.specs.List.{All}
use Rattle.std.proofs.lemmas.Result.{IfOk-weaker}
use Rattle.a2_check.proofs.Cuts.{cut-whole}
use Rattle.a2_check.proofs.Reporting.{of-grammar}
use Rattle.a2_check.proofs.verdict.of_text.Goals as goal

pub unread-requires-clause-cut : goal.unread-requires-clause-cut
unread-requires-clause-cut g c =
    let P : List (Bor (List ℕ)) → Type 0 = λ x. All (λ text. All (λ b. b ≢ 10) text.now) x in
    subst P (sym c.as_slice.ensures.value) (cut-whole c.args.text.now c.in-Ok.texts.items c.in-Ok.ensures.found)

pub returns-in-Ok : goal.returns-in-Ok
returns-in-Ok g c =
    IfOk-weaker c.unread.result _ _
    (λ faults found. of-grammar c.args.text.now c.as_slice.result.now faults.items (ap (map (λ (x : Bor (List ℕ)). x.now)) c.as_slice.ensures.value ∙ c.in-Ok.ensures.found) c.in-Ok.ensures.fits c.requires found)
    c.unread.ensures
