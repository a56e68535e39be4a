use Rattle.std.proofs.Common.{sym, ◌∙◌}
use Rattle.std.proofs.lemmas.List.Elements.{All-push}
use Rattle.a2_promise.specs.declared.finding.Routine.{Routine}
use Rattle.a2_promise.specs.PromisedTerms.{IsFound, IsStated}
use Rattle.a2_promise.proofs.Above.{held_some}
use Rattle.a2_promise.proofs.finding.Finding.complete.Goals as goal

pub returns-in_ok-push-in-Some : goal.returns-in_ok-push-in-Some
returns-in_ok-push-in-Some c = λ lines names h.
    let stated = held_some (λ (routine : Routine). IsStated lines names routine.promise) (sym c.take.ensures.value ∙ c.in-Some.is) h.1 in (
      rw c.in_ok-push-in-Some.ensures.items
          (All-push (IsFound lines names) c.args.self.now.found.items c.completed.result h.0 (c.completed.ensures lines names stated)),
      c.take.ensures.after,
    )
