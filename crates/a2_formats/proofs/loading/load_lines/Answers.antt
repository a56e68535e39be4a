use mathlib.Core.Path.{fun_ext}
use Rattle.std.proofs.Common.{◌≡◌, ◌∙◌, sym, arith}
use Rattle.a2_hex.specs.Images.{held, no_bytes}
use Rattle.a2_formats.proofs.LoadingLaws.{left-lines, left-none, is-refused}
use Rattle.a2_formats.proofs.loading.load_lines.Goals as goal

pub loop-i-init : goal.loop-i-init
loop-i-init c =
    let empty : held c.in_ok-image.image ≡ no_bytes = fun_ext c.in_ok-image.ensures.empty in
    rw (empty, c.deref-line-items.ensures.value, c.in_ok-lines.ensures)

pub loop-i-preserved : goal.loop-i-preserved
loop-i-preserved c = sym (left-lines c.deref-line-items.result.now c.loop-i.i _ _ (omega arith) c.in_ok-next.ensures.loaded) ∙ c.loop-i.invariant

pub returns-in_err-next-clause-refused : goal.returns-in_err-next-clause-refused
returns-in_err-next-clause-refused c =
    is-refused c.from_residual-in_err-next.result c.args.text.now _ c.from_residual-in_err-next.ensures.1
    (λ other. sym c.loop-i.invariant ∙ left-lines c.deref-line-items.result.now c.loop-i.i _ _ (omega arith) (c.in_err-next.ensures.refused other))

pub returns-clause-loaded : goal.returns-clause-loaded
returns-clause-loaded c = rw (← c.loop-i.invariant, left-none c.deref-line-items.result.now c.loop-i.i _ (omega arith))
