use Rattle.std.proofs.Common.{◌≡◌, ◌+◌, ◌∷◌, List, ap, sym, ◌∙◌, drop, arith}
use Rattle.std.proofs.lemmas.List.{drop_more, at_drop_all}
use Rattle.a2_history.specs.declared.actions.Logged.{Logged}
use Rattle.a2_history.specs.Courses.{with_logged}
use Rattle.a2_history.proofs.Logs.{logged-none}
use Rattle.a2_history.proofs.Leaping.{quiet-next}
use Rattle.a2_history.proofs.course.next_logged_position.Goals as goal
use Rattle.a2_history.proofs.course.next_logged_position.Goals.{then-from-logged+then-logged-quiet, else-from-logged, else-from-logged-via-then-from-logged+else-logged-quiet, else-from-logged-via-else-from-logged}

pub loop-logged-preserved : goal.loop-logged-preserved
loop-logged-preserved c =
    let log : List Logged = c.args.log.now in
    let i = c.loop-logged.logged-index in
    let t : Logged = c.logged-item.result in
    let before = c.loop-logged.invariant in
    let split : drop i log ≡ t ∷ drop (i + 1) log =
    drop_more log i t c.loop-logged-test.true ∙ ap (λ (x : Logged). x ∷ drop (i + 1) log) (sym c.logged-item.is) in
    elim c.if-from-logged.branch [
      | then-from-logged+then-logged-quiet w ↦ record {
        ahead = omega (arith, w.if-from-logged.true, w.quiet-is);
        within = omega (arith, w.if-logged-quiet.true, w.quiet-is, before.within);
        quiet = λ k l m v. before.quiet k l (omega (arith, m, w.quiet-is, w.if-logged-quiet.true)) v
            ∙ quiet-next log i t k v split (λ e. omega (arith, e, m, w.quiet-is, w.if-from-logged.true));
      }
      | else-from-logged w ↦ record {
        ahead = omega (arith, w.quiet-is, before.ahead);
        within = omega (arith, w.quiet-is, before.within);
        quiet = λ k l m v. before.quiet k l (omega (arith, m, w.quiet-is)) v
            ∙ quiet-next log i t k v split (λ e. elim w.else-from-logged.branch [
              | else-from-logged-via-then-from-logged+else-logged-quiet w' ↦ omega (arith, e, m, w.quiet-is, w'.if-logged-quiet.false)
              | else-from-logged-via-else-from-logged w' ↦ omega (arith, e, l, w'.if-from-logged.false)
            ]);
      }
    ]

pub returns-clause-quiet : goal.returns-clause-quiet
returns-clause-quiet c = λ k l m w. c.loop-logged.invariant.quiet k l m w
    ∙ at_drop_all (λ (xs : List Logged). with_logged xs k w) c.args.log.now c.loop-logged.logged-index c.loop-logged-test.false
    ∙ logged-none k w
