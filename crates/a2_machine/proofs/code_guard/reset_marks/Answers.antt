use Rattle.std.specs.Prelude.{Bool, true, false, ◌≡◌, ◌++◌, ◌<◌, ℕ, List, length, take, drop, replicate, slice_index}
use Rattle.std.proofs.Common.{sym, ap, ◌∙◌, arith}
use Rattle.std.proofs.lemmas.Bool.Decides.{nat_tests}
use Rattle.std.proofs.lemmas.List.{length-take-le, length-replicate, get_or_append_left, get_or-replicate}
use Rattle.a2_machine.specs.Marks.{first_mark, whole_end}
use Rattle.a2_machine.proofs.code_guard.reset_marks.Goals as goal
use Rattle.a2_machine.proofs.code_guard.reset_marks.Goals.{then-free, else-free}

front_long : (marks : List ℕ) → length marks ≡ 65536 → length (take 49150 marks) ≡ 49150
front_long marks size = length-take-le 49150 marks (omega (arith, size))

front_at : (mark : ℕ) (rest : List ℕ) (a : ℕ) → a < 49150 → slice_index (replicate 49150 mark ++ rest) a ≡ mark
front_at mark rest a below =
    get_or_append_left (replicate 49150 mark) rest 0 a (rw (length-replicate 49150 mark) below) ∙ get_or-replicate 49150 a mark 0 below

first_free : (free : Bool) (a : ℕ) → free ≡ true → a < whole_end → 1 ≡ first_mark free a
first_free free a is below = grind (arith, nat_tests, is, below)

first_guarded : (free : Bool) (a : ℕ) → free ≡ false → a < whole_end → 0 ≡ first_mark free a
first_guarded free a is below = grind (arith, nat_tests, is, below)

pub slice_bounds-fill-end-2 : goal.slice_bounds-fill-end-2
slice_bounds-fill-end-2 c = sym (front_long c.args.marks.now c.requires)

pub reset_last_marks-requires-clause-before : goal.reset_last_marks-requires-clause-before
reset_last_marks-requires-clause-before c = λ a below.
    let filled : c.fill.new.self ≡ replicate 49150 c.if-free.fill =
    c.fill.ensures.after (λ y same. same) ∙ ap (λ n. replicate n c.if-free.fill) (front_long c.args.marks.now c.requires) in
    let at : slice_index (c.fill.new.self ++ drop 49150 c.args.marks.now) a ≡ c.if-free.fill =
    ap (λ front. slice_index (front ++ drop 49150 c.args.marks.now) a) filled
    ∙ front_at c.if-free.fill (drop 49150 c.args.marks.now) a below in
    elim c.if-free.branch as (λ _. slice_index (c.fill.new.self ++ drop 49150 c.args.marks.now) a ≡ first_mark c.args.free a) [
      | then-free w ↦ at ∙ w.fill-is ∙ first_free c.args.free a w.if-free.true below
      | else-free w ↦ at ∙ w.fill-is ∙ first_guarded c.args.free a w.if-free.false below
    ]
