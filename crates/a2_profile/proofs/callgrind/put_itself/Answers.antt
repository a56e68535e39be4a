use Rattle.std.proofs.Common.{ℕ, List, codes, ap, ◌∙◌, subst}
use Rattle.a2_stream.specs.Stream.{SendsOrBreaks}
use Rattle.a2_asm.specs.declared.program.Statement.{Statement}
use Rattle.a2_profile.specs.declared.walk.Totals.{Totals}
use Rattle.a2_profile.specs.Callgrind.{line_at, totals_record}
use Rattle.a2_profile.proofs.callgrind.put_itself.Goals as goal

pub returns : goal.returns
returns g c =
    let name = codes "THE PROGRAM ITSELF" in
    let line = line_at c.args.program.now.statements c.args.program.now.entry in
    subst (SendsOrBreaks (g.W.Output.taker c.args.writer.now) (g.W.Output.taker c.put_totals.new.writer) c.put_totals.result)
    (ap (λ (l : ℕ). totals_record name l c.itself.result)
    (c.line_at-line.ensures ∙ ap (λ (l : List Statement). line_at l c.entry.result) c.statements.ensures
    ∙ ap (line_at c.args.program.now.statements) c.entry.ensures)
    ∙ ap (λ (t : Totals). totals_record name line t) c.itself.ensures.value)
    c.put_totals.ensures
