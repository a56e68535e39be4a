use Rattle.std.proofs.Common.{sym, ◌∙◌, arith}
use Rattle.std.proofs.lemmas.Result.{err_from_is_err_and}
use Rattle.a2_asm.specs.Assembled.{of_parts}
use Rattle.a2_asm.specs.Entries.{entries}
use Rattle.a2_asm.proofs.MadeLaws.{made-by}
use Rattle.a2_asm.proofs.BareLaws.{refused-by, made-of_lines}
use Rattle.a2_asm.proofs.RunLaws.{made-sound, program-sound}
use Rattle.a2_asm.proofs.assembling.assemble.Goals as goal

pub returns-in-Some-clause-refused : goal.returns-in-Some-clause-refused
returns-in-Some-clause-refused g c = λ _. refused-by c.lines-lines.result.now c.args.source.now _ c.lines-lines.ensures.is (grind arith)

pub returns-in_err-places-clause-refused : goal.returns-in_err-places-clause-refused
returns-in_err-places-clause-refused g c =
    let p = err_from_is_err_and c.from_residual.result c.from_residual.ensures.1 in
    rw (p.1, p.2) (λ ne. refused-by c.lines-lines.result.now c.args.source.now _ c.lines-lines.ensures.is (grind (arith, c.in_err-places.ensures.refused ne)))

pub returns-in_default-entry-clause-refused : goal.returns-in_default-entry-clause-refused
returns-in_default-entry-clause-refused g c = λ _. refused-by c.lines-lines.result.now c.args.source.now _ c.lines-lines.ensures.is (grind arith)

pub returns-in_err-image-clause-refused : goal.returns-in_err-image-clause-refused
returns-in_err-image-clause-refused g c =
    let p = err_from_is_err_and c.from_residual-in_err-image.result c.from_residual-in_err-image.ensures.1 in
    rw (p.1, p.2) (λ ne. refused-by c.lines-lines.result.now c.args.source.now _ c.lines-lines.ensures.is (grind (arith, c.in_err-image.ensures.refused ne)))

pub of-requires : goal.of-requires
of-requires g c =
    made-sound c.lines-lines.result.now (of_parts c.in_ok-image.image c.in_ok-image.statements.items (entries c.in_ok-places.names) c.in-Some-entry.entry)
    (made-by _ _ (sym c.refuse_names.ensures ∙ c.in_default.is) c.in_ok-places.ensures.placed c.in_ok-image.ensures.laid c.in_ok-places.ensures.names c.in_ok-image.ensures.image c.in_ok-image.ensures.statements (sym c.in-Some-entry.ensures))

pub returns-clause-made : goal.returns-clause-made
returns-clause-made g c =
    rw c.of.ensures (made-of_lines c.lines-lines.result.now c.args.source.now _ c.lines-lines.ensures.is
    (made-by _ _ (sym c.refuse_names.ensures ∙ c.in_default.is) c.in_ok-places.ensures.placed c.in_ok-image.ensures.laid c.in_ok-places.ensures.names c.in_ok-image.ensures.image c.in_ok-image.ensures.statements (sym c.in-Some-entry.ensures)))

pub returns-clause-sound : goal.returns-clause-sound
returns-clause-sound g c = program-sound c.args.source.now c.of.result (returns-clause-made g c)
