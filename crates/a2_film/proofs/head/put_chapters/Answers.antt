use Rattle.a2_page.proofs.Sending.{left_more, left_broke_off}
use Rattle.a2_film.specs.Rows.{chapter_line}
use Rattle.a2_film.proofs.Parts.{pieces-next}
use Rattle.a2_film.proofs.head.put_chapters.Goals as goal

pub returns-in_err-put_chapter : goal.returns-in_err-put_chapter
returns-in_err-put_chapter g c =
    left_broke_off _ _ _ c.from_residual.result _ _ _ _ c.from_residual.ensures.0
    (pieces-next (λ k. chapter_line k) c.args.chapters.now c.loop-chapter.chapter-index _ c.loop-chapter-test.true)
    c.loop-chapter.invariant c.in_err-put_chapter.ensures

pub loop-chapter-preserved : goal.loop-chapter-preserved
loop-chapter-preserved g c =
    left_more _ _ _ _ _ _ _
    (pieces-next (λ k. chapter_line k) c.args.chapters.now c.loop-chapter.chapter-index _ c.loop-chapter-test.true)
    c.loop-chapter.invariant c.in_ok-put_chapter.ensures
