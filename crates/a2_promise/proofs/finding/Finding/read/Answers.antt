use Rattle.std.proofs.Common.{[], sym, ◌∙◌}
use Rattle.a2_promise.specs.Finding.{IsRead}
use Rattle.a2_promise.proofs.Above.{read_marked, read_comment, read_other}
use Rattle.a2_promise.proofs.Laying.{on_ok}
use Rattle.a2_promise.proofs.finding.Finding.read.Goals as goal

pub returns-in-Some : goal.returns-in-Some
returns-in-Some c = λ lines above at h.
    on_ok c.take_line.result c.take_line.ensures (λ r. (read_marked lines above at.stands c.in-Some.ensures h.0 r, h.1))

pub returns-then-is_blank_or_comment : goal.returns-then-is_blank_or_comment
returns-then-is_blank_or_comment c = λ lines above at h.
    (read_comment lines above at.stands c.in_default.ensures (sym c.is_blank_or_comment.ensures ∙ c.if-is_blank_or_comment.true) h.0, h.1)

pub returns : goal.returns
returns c = λ lines above at h.
    let fresh : IsRead c.args.program.now.names [] c.replace-before.new.dest =
    rw c.replace-before.ensures.after (c.new_block.ensures c.args.program.now.names) in
    let other = sym c.is_blank_or_comment.ensures ∙ c.if-is_blank_or_comment.false in
    on_ok c.close.result (c.close.ensures lines (record { above = above; is_line = at; read = rw c.replace-before.ensures.value h.0 }) h.1)
    (λ found. (read_other lines above at.stands other fresh, found))
