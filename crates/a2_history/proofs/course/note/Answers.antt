use Rattle.std.proofs.Common.{List, ◌∷◌, ◌++◌, [], ap, ◌∙◌, leb, rules}
use Rattle.std.proofs.lemmas.Fn.{filter_same}
use Rattle.a2_history.specs.declared.actions.Logged.{Logged}
use Rattle.a2_history.proofs.course.note.Goals as goal

pub returns : goal.returns
returns g c =
    c.push_reserved.ensures.items
    ∙ ap (λ (xs : List Logged). xs ++ record { position = c.args.position; action = c.args.action } ∷ [])
    (filter_same _ (λ t. leb t.position c.args.position) _ (λ x b f' k. search rules) _ _ c.retain.ensures.filtered)
