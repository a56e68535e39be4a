use Rattle.std.proofs.Common.{◌≡◌, min, Some, sym, ap, subst, ◌∙◌, arith}
use Rattle.a2_promise.specs.Tokens.{Token, tokens}
use Rattle.a2_promise.specs.Written.{joined}
use Rattle.a2_promise.specs.Grammar.{address_of, is_number, tightest}
use Rattle.a2_promise.specs.Reading.{State, ReadsAddress, ReadsOne, ReadsTwo, Takes, state_of, token_of}
use Rattle.a2_promise.proofs.Formers.{literal_read, decimal_read, byte_read, counted_read, atom_read, group_read, before_read, there_read}
use Rattle.a2_promise.proofs.Formers.{magnitude_read, signed_read, negated_read, minus_read}
use Rattle.a2_promise.proofs.Goings.{kind_piece}
use Rattle.a2_promise.proofs.Joinings.{bit_read, provided_read, apply_read, logic_read, logic_kind, compared_read, nothing_put}
use Rattle.a2_promise.proofs.Countings.{two_read, least_read, greatest_read, address_read, byte_in_read, word_in_read, word_of_read, counted_head}
use Rattle.a2_promise.proofs.Countings.{for_all_read, sum_read, place_made, text_read, number_one, fact_one, either_read, stops_under}
use Rattle.a2_promise.proofs.Countings.{shorter_joined, rank_min, rank_joined, if_ok, kind_ok, limit_of, number_then, of_none, then_put, byte_free}
use Rattle.a2_promise.proofs.Laying.{on_ok}
use Rattle.a2_promise.proofs.parsing.+expression.Goals as goal

pub number_in-returns : goal.number_in-returns
number_in-returns t c = on_ok c.number.result c.number.ensures (number_one c.in_ok-expression.ensures)

pub fact_in-returns : goal.fact_in-returns
fact_in-returns t c = on_ok c.fact.result c.fact.ensures (fact_one c.in_ok-expression.ensures)

pub next_number-returns : goal.next_number-returns
next_number-returns t c = on_ok c.number.result c.number.ensures (number_one c.in_ok-beginning.ensures)

pub bracketed-returns : goal.bracketed-returns
bracketed-returns t c = on_ok c.expect.result c.expect.ensures (address_read c.in_ok-number_in.ensures)

pub of_two-returns : goal.of_two-returns
of_two-returns t c =
    let two = two_read c.in_ok-expect.ensures c.in_ok-number_in.ensures c.in_ok-expect-2.ensures c.in_ok-number_in-2.ensures c.in_ok-expect-3.ensures in
    number_then c.makes.result (then_put ReadsTwo two) c.makes.ensures

pub of_next-returns : goal.of_next-returns
of_next-returns t c = number_then c.makes.result (then_put (ReadsOne tightest is_number) c.in_ok-next_number.ensures) c.makes.ensures

pub of_bracketed-returns : goal.of_bracketed-returns
of_bracketed-returns t c = number_then c.makes.result (then_put ReadsAddress c.in_ok-bracketed.ensures) c.makes.ensures

pub for_all-returns : goal.for_all-returns
for_all-returns t c = λ before h.
    kind_ok c.makes.result c.makes.ensures (for_all_read h c.in_ok-expect.ensures c.in_ok-name.ensures c.in_ok-fact_in.ensures c.unbind.ensures)

pub sum_of-returns : goal.sum_of-returns
sum_of-returns t c = λ before h.
    kind_ok c.makes.result c.makes.ensures (sum_read h c.in_ok-name.ensures c.in_ok-number_in.ensures c.unbind.ensures)

pub counted-returns : goal.counted-returns
counted-returns t c =
    let may = c.may_name.ensures c.if-not-may_name.false in
    let stands = sym c.next-name.ensures.first ∙ ap (λ it. token_of it c.next-name.result.text.now) may.0 in
    if_ok c.bind.result (λ k. counted_head (c.take.ensures _ stands) may.1 c.in_ok-expect.ensures c.in_ok-number_in.ensures c.in_ok-expect-2.ensures)
    c.bind.ensures

pub place_next-returns : goal.place_next-returns
place_next-returns t c =
    let same = c.took.ensures.same c.if-took.false in
    let P : State → Type 0 = λ s. (token : Token) × Takes token s (state_of c.address.new.self) × (address_of s.scope.names token ≡ Some c.in_ok-address.field-0) in
    subst P same c.in_ok-address.ensures

pub place_next-returns-then-took : goal.place_next-returns-then-took
place_next-returns-then-took t c =
    place_made c.count-begun.result c.count-ended.result c.count-begun.ensures (c.took.ensures.took c.if-took.true) c.in_ok-bracketed.ensures
    c.count-ended.ensures

pub text_at-returns : goal.text_at-returns
text_at-returns t c = λ before h.
    let it = c.in_ok-text.ensures in
    text_read c.in_ok-place.place h c.in_ok-place.ensures c.in_ok-expect.ensures it.1 it.2
    (λ phrase top p. c.in_ok-are_laid.ensures phrase top it.0 p it.2 it.3)

pub word_at-returns-else-took : goal.word_at-returns-else-took
word_at-returns-else-took t c = λ before h.
    let same = c.took.ensures.same c.if-took.false in
    kind_ok c.of_address.result c.of_address.ensures (word_of_read (rw (← same) at h))

pub word_at-returns-then-took : goal.word_at-returns-then-took
word_at-returns-then-took t c = λ before h.
    kind_ok c.of_bracketed.result c.of_bracketed.ensures (λ it. word_in_read h (c.took.ensures.took c.if-took.true) it.read it.puts)

pub conditional-returns : goal.conditional-returns
conditional-returns t c = λ before h.
    if_ok c.either.result (λ k. either_read h c.in_ok-fact_in.ensures c.in_ok-expect.ensures c.in_ok-one.ensures
    (c.took.ensures.took c.if-not-took.false) c.in_ok-other.ensures c.in_ok-puts.ensures) c.either.ensures

pub conditional-returns-then-not-took : goal.conditional-returns-then-not-took
conditional-returns-then-not-took t c = λ before h.
    let no = c.if-not-took.true in
    let it = rw (c.took.ensures.same no) at c.ends.ensures in
    kind_ok c.ends.result it (provided_read h c.in_ok-fact_in.ensures c.in_ok-expect.ensures (fact_one c.in_ok-one.ensures c.in_ok-fact.ensures) (c.took.ensures.none no))

pub joined-returns-in_ok-number_in-in-Compare : goal.joined-returns-in_ok-number_in-in-Compare
joined-returns-in_ok-number_in-in-Compare t c = λ before e r l f below.
    let is = c.in-Compare.is in
    let left = c.in_ok-begin_second_number-in-Compare.ensures in
    rw is (if_ok c.end_comparison.result (λ piece. compared_read c.in-Compare.relation r l (rw is at (c.take.ensures _ f)) left.first left.more
    c.count-begun.ensures c.in_ok-number_in-in-Compare.ensures) c.end_comparison.ensures)

pub joined-returns-in_ok-puts-in-Apply : goal.joined-returns-in_ok-puts-in-Apply
joined-returns-in_ok-puts-in-Apply t c = λ before e r l f below.
    let is = c.in-Apply.is in
    let limit = limit_of c.saturating_add-rank.result c.rank_of.result c.args.join c.rank_of.ensures below c.saturating_add-rank.ensures in
    rw is (apply_read c.in-Apply.operation (rw is at below) _ e before _ _ _ _ _ r (rw l.kind c.in_ok-number-in-Apply.ensures) (rw is at (c.take.ensures _ f)) nothing_put
    (rw (limit, is) at c.in_ok-number_in-in-Apply.ensures) c.in_ok-puts-in-Apply.ensures c.at.ensures.kind c.at.ensures.last)

pub joined-returns-in_ok-puts-in-Or-2 : goal.joined-returns-in_ok-puts-in-Or-2
joined-returns-in_ok-puts-in-Or-2 t c = λ before e r l f below.
    let join = c.args.join in
    let limit = limit_of c.saturating_add-rank.result c.rank_of.result join c.rank_of.ensures below c.saturating_add-rank.ensures in
    logic_read join c.in-Or.is _ e before _ _ _ _ _ r (rw l.kind c.in_ok-fact-in-Or.ensures) (c.take.ensures _ f) (rw c.joining.ensures.before at c.in_ok-puts-in-Or.ensures)
    (rw limit at c.in_ok-fact_in-in-Or.ensures) (rw c.joining.ensures.following at c.in_ok-puts-in-Or-2.ensures)
    (c.at-in-Or.ensures.kind ∙ logic_kind join c.in-Or.is) c.at-in-Or.ensures.last

pub expression-loop-join-init : goal.expression-loop-join-init
expression-loop-join-init t c = let it = c.in_ok-left.ensures in (it.e, it.reads, it.is, rank_min c.args.rank it.e it.rank)

pub expression-loop-join-smaller : goal.expression-loop-join-smaller
expression-loop-join-smaller t c =
    let it = c.loop-join.invariant in
    let found = c.in-Some.ensures.found in
    let one = c.in_ok-left-2.ensures _ it.0 it.1 it.2 (sym c.next.ensures.first ∙ found.0) found.1 in
    shorter_joined it.1 one.reads

pub expression-loop-join-preserved : goal.expression-loop-join-preserved
expression-loop-join-preserved t c =
    let it = c.loop-join.invariant in
    let found = c.in-Some.ensures.found in
    let join = c.in-Some.join in
    let one = c.in_ok-left-2.ensures _ it.0 it.1 it.2 (sym c.next.ensures.first ∙ found.0) found.1 in
    (joined join it.0 one.f, one.reads, one.piece_is, rank_joined c.args.rank c.rank_of.result join c.rank_of.ensures c.if-rank_of-rank.false)

pub expression-returns-in_default : goal.expression-returns-in_default
expression-returns-in_default t c =
    let it = c.loop-join.invariant in
    record {
      e = it.0;
      reads = it.1;
      rank = it.3;
      is = it.2;
      stops = λ join f below.
          absurd (of_none c.infix_of.result c.in_default.not-Some c.infix_of.ensures.none join (c.next.ensures.first ∙ f) below);
    }

pub expression-returns-then-rank_of-rank : goal.expression-returns-then-rank_of-rank
expression-returns-then-rank_of-rank t c =
    let it = c.loop-join.invariant in
    let found = c.in-Some.ensures.found in
    record {
      e = it.0;
      reads = it.1;
      rank = it.3;
      is = it.2;
      stops =
          stops_under (min c.args.rank tightest) c.in-Some.join (tokens c.loop-join.reader.rest.now) (sym c.next.ensures.first ∙ found.0)
          (let below = found.1 in let r = c.rank_of.ensures in let l = c.if-rank_of-rank.true in omega (arith, below, r, l)) found.1;
    }

pub beginning-returns : goal.beginning-returns
beginning-returns t c = kind_piece c.in_ok-kind.ensures c.at.ensures.kind c.at.ensures.last

pub operand-returns-in-Some : goal.operand-returns-in-Some
operand-returns-in-Some t c = c.opened.ensures _ (c.take.ensures _ (sym c.next-token.ensures.first ∙ c.in-Some.ensures.found))

pub operand-returns-in-Some-bound : goal.operand-returns-in-Some-bound
operand-returns-in-Some-bound t c =
    let found = c.in-Some-bound.ensures.found in
    let taken = c.take-in-Some-bound.ensures _ (sym c.next-token.ensures.first ∙ found.0) in
    kind_ok c.makes.result c.makes.ensures (counted_read taken found.1)

pub operand-returns-in-Decimal : goal.operand-returns-in-Decimal
operand-returns-in-Decimal t c =
    let digits = c.next-token.result.text.now in
    kind_ok c.number_here.result c.number_here.ensures (decimal_read (sym c.next-token.ensures.first ∙ ap (λ it. token_of it digits) c.in-Decimal.is))

pub operand-returns-in_default-class : goal.operand-returns-in_default-class
operand-returns-in_default-class t c =
    let token = c.next-token.result in
    kind_ok c.of_address.result c.of_address.ensures (λ read. byte_read read (byte_free token.class token.text.now read c.next-token.ensures.first
    (of_none c.opening_of.result c.in_default.not-Some c.opening_of.ensures.none) (of_none c.bound.result c.in_default-bound.not-Some c.bound.ensures.none)))

pub make-returns-in-Least : goal.make-returns-in-Least
make-returns-in-Least t c = λ before h.
    kind_ok c.of_two.result c.of_two.ensures (λ it. least_read (rw c.in-Least.is at h) it.read it.puts)

pub make-returns-in-Greatest : goal.make-returns-in-Greatest
make-returns-in-Greatest t c = λ before h.
    kind_ok c.of_two-in-Greatest.result c.of_two-in-Greatest.ensures (λ it. greatest_read (rw c.in-Greatest.is at h) it.read it.puts)

pub make-returns-in_ok-next_number-in-Bit-2 : goal.make-returns-in_ok-next_number-in-Bit-2
make-returns-in_ok-next_number-in-Bit-2 t c = λ before h.
    kind_ok c.makes.result c.makes.ensures (bit_read (rw c.in-Bit.is at h) c.in_ok-next_number-in-Bit.ensures
    c.in_ok-expect-in-Bit.ensures c.in_ok-next_number-in-Bit-2.ensures)

pub make-returns-in-Word : goal.make-returns-in-Word
make-returns-in-Word t c = λ before h. c.word_at.ensures before (rw c.in-Word.is at h)

pub make-returns-in-Literal : goal.make-returns-in-Literal
make-returns-in-Literal t c = λ before h. kind_ok c.number_here.result c.number_here.ensures (literal_read (rw c.in-Literal.is at h))

pub make-returns-in_ok-next_number-in-Minus : goal.make-returns-in_ok-next_number-in-Minus
make-returns-in_ok-next_number-in-Minus t c = λ before h.
    kind_ok c.makes-in-Minus.result c.makes-in-Minus.ensures (minus_read (rw c.in-Minus.is at h) c.in_ok-puts-in-Minus.ensures
    c.in_ok-next_number-in-Minus.ensures)

pub make-returns-in-Abs : goal.make-returns-in-Abs
make-returns-in-Abs t c = λ before h.
    kind_ok c.of_next.result c.of_next.ensures (λ it. magnitude_read (rw c.in-Abs.is at h) it.read it.puts)

pub make-returns-in-Signed : goal.make-returns-in-Signed
make-returns-in-Signed t c = λ before h.
    kind_ok c.of_next-in-Signed.result c.of_next-in-Signed.ensures (λ it. signed_read (rw c.in-Signed.is at h) it.read it.puts)

pub make-returns-in-Byte : goal.make-returns-in-Byte
make-returns-in-Byte t c = λ before h.
    kind_ok c.of_bracketed.result c.of_bracketed.ensures (λ it. byte_in_read (rw c.in-Byte.is at h) it.read it.puts)

pub opened-returns-in-Held : goal.opened-returns-in-Held
opened-returns-in-Held t c = λ before h.
    kind_ok c.makes.result c.makes.ensures (λ p. rw c.kind_of.ensures (atom_read (rw c.in-Held.is at h) p))

pub opened-returns-in_ok-expect-in-Group : goal.opened-returns-in_ok-expect-in-Group
opened-returns-in_ok-expect-in-Group t c = λ before h.
    group_read (rw c.in-Group.is at h) c.in_ok-within-in-Group.ensures c.in_ok-expect-in-Group.ensures

pub opened-returns-in_ok-kind-in-Old : goal.opened-returns-in_ok-kind-in-Old
opened-returns-in_ok-kind-in-Old t c = λ before h.
    kind_ok c.makes-in-Old.result c.makes-in-Old.ensures (before_read (rw c.in-Old.is at h) c.in_ok-kind-in-Old.ensures)

pub opened-returns-in_ok-kind-in-At : goal.opened-returns-in_ok-kind-in-At
opened-returns-in_ok-kind-in-At t c = λ before h.
    let it = c.in_ok-address-in-At.ensures in
    kind_ok c.makes-in-At.result c.makes-in-At.ensures (there_read (rw c.in-At.is at h) it.1 it.2 it.3 c.in_ok-kind-in-At.ensures)

pub opened-returns-in-Text : goal.opened-returns-in-Text
opened-returns-in-Text t c = λ before h. c.text_at.ensures before (rw c.in-Text.is at h)

pub opened-returns-in_ok-fact_in-in-Not : goal.opened-returns-in_ok-fact_in-in-Not
opened-returns-in_ok-fact_in-in-Not t c = λ before h.
    kind_ok c.ends.result c.ends.ensures (negated_read (rw c.in-Not.is at h) c.in_ok-fact_in-in-Not.ensures)

pub opened-returns-in-If : goal.opened-returns-in-If
opened-returns-in-If t c = λ before h. c.conditional.ensures before (rw c.in-If.is at h)

pub opened-returns-in-Each : goal.opened-returns-in-Each
opened-returns-in-Each t c = λ before h. c.for_all.ensures before (rw c.in-Each.is at h)

pub opened-returns-in-Sum : goal.opened-returns-in-Sum
opened-returns-in-Sum t c = λ before h. c.sum_of.ensures before (rw c.in-Sum.is at h)

pub opened-returns-in-Make : goal.opened-returns-in-Make
opened-returns-in-Make t c = λ before h. c.make.ensures before (rw c.in-Make.is at h)
