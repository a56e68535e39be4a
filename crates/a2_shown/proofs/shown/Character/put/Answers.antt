use Rattle.std.proofs.Common.{◌≡◌, ℕ, ◌+◌, ◌<◌, List, ◌∷◌, ◌++◌, [], length, drop, get_or, ap, sym, ◌∙◌}
use Rattle.std.proofs.lemmas.List.{drop_more}
use Rattle.a2_page.proofs.Sending.{left_more, left_broke_off}
use Rattle.a2_shown.specs.declared.shown.Character.{Character}
use Rattle.a2_shown.specs.Shown.{shown, after, shown_text, after_text}
use Rattle.a2_shown.proofs.shown.Character.put.Goals as goal

-- the next byte is shown, and the rest after it
text-next : (c : Character) (xs : List ℕ) (i d : ℕ) → i < length xs
    → shown_text c (drop i xs) ≡ (shown c (get_or xs i d) ∷ []) ++ shown_text (after c (get_or xs i d)) (drop (i + 1) xs)
text-next c xs i d low = ap (shown_text c) (drop_more xs i d low)

after-next : (c : Character) (xs : List ℕ) (i d : ℕ) → i < length xs
    → after_text c (drop i xs) ≡ after_text (after c (get_or xs i d)) (drop (i + 1) xs)
after-next c xs i d low = ap (after_text c) (drop_more xs i d low)

pub returns-in_err-put-clause-text : goal.returns-in_err-put-clause-text
returns-in_err-put-clause-text g c =
    left_broke_off _ _ _ c.from_residual.result _ _ _ _ c.from_residual.ensures.0
    (text-next c.loop-byte.self c.args.text.now c.loop-byte.byte-index 0 c.loop-byte-test.true)
    c.loop-byte.invariant.0 (rw (c.shown.ensures.value) at c.in_err-put.ensures)

pub loop-byte-preserved : goal.loop-byte-preserved
loop-byte-preserved g c =
    rw (c.after.ensures.value) (
      left_more _ _ _ _ _ _ _
          (text-next c.loop-byte.self c.args.text.now c.loop-byte.byte-index 0 c.loop-byte-test.true)
          c.loop-byte.invariant.0 (rw (c.shown.ensures.value) at c.in_ok-put.ensures),
      sym (after-next c.loop-byte.self c.args.text.now c.loop-byte.byte-index 0 c.loop-byte-test.true) ∙ c.loop-byte.invariant.1,
    )
