use Rattle.std.proofs.Common.{◌≡◌, refl, rules}
use Rattle.a2_promise.proofs.Laying.{none_laid, laid_first, laid_next, laid_whole, placed_kept}
use Rattle.a2_promise.proofs.parsing.are_laid.Goals as goal
use Rattle.a2_promise.proofs.parsing.are_laid.Goals.{then-further-gt0+in_ok-puts, else-further-gt0}

pub loop-further-init : goal.loop-further-init
loop-further-init c = λ phrase top quote p t i. none_laid

pub loop-further-preserved : goal.loop-further-preserved
loop-further-preserved c = λ phrase top quote p t i.
    let x = c.loop-further.invariant phrase top quote p t i in
    let q = placed_kept c.args.place phrase top c.args.reader.now.parts.items x.parts c.loop-further.reader.parts.items x.puts.parts p in
    let y = c.in_ok-is_laid.ensures phrase top q in
    let k = c.loop-further.further in
    let n = c.in-Ok.further in
    let text = c.args.text.now in
    let same : n ≡ k = search (rules, c.in-Ok.ensures) in
    elim c.if-further-gt0.branch [
      | then-further-gt0+in_ok-puts w ↦ rw w.reader-is
          (laid_next quote c.args.top n k _ text x i t same w.if-further-gt0.true c.loop-further-test.true refl y w.in_ok-puts.ensures)
      | else-further-gt0 w ↦ rw w.reader-is
          (laid_first quote c.args.top n k _ text x i t same w.if-further-gt0.false c.loop-further-test.true refl y)
    ]

pub returns : goal.returns
returns c = λ phrase top quote p t i.
    laid_whole c.loop-further.further c.args.text.now (c.loop-further.invariant phrase top quote p t i) c.loop-further-test.false t
