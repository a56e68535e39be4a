-- The value of an expression depends only on what the expression reads.
use Rattle.std.specs.Prelude.{◌≡◌, ◌<◌, ℕ, zero, suc, ◌+◌, ◌%◌, ℤ, pos, Bool, true, false, if◌then◌else◌, Option, Some, None, refl, slice_set}
use Rattle.std.proofs.Common.{ap, ap₂, ◌∙◌, arith}
use Rattle.a2_promise.specs.declared.expr.Expr.TheVariants.{Number, Held, Bound, Old', At', Of', Pair', Choice', Each', Sum'}
use Rattle.a2_promise.specs.declared.expr.Function.{Function}
use Rattle.a2_promise.specs.declared.expr.Function.TheVariants as function
use Rattle.a2_promise.specs.declared.expr.Operation.TheVariants as operation
use Rattle.a2_promise.specs.Values.{Moment, byte_at, word_at, byte_value, word_value, made_of, operated_on, is_zero, chosen, count_of, each_below, sum_below, at_count, word_in, value_of}
use Rattle.a2_promise.specs.ReadsOfValues.{Known, AgreeAt, KnowsByte, KnowsWord, KnowsMade, OfBoth, OfChosen, IsBelow, Knows, ValuesDependOnlyOnReads}

same_byte : (known : Known) (m n : Moment) (at : Option ℕ) → AgreeAt known m n → KnowsByte known at → byte_at m.bytes at ≡ byte_at n.bytes at
same_byte known m n None h knows = refl
same_byte known m n (Some a) h knows = ap (λ byte. byte_value byte) (h.bytes a knows)

same_word : (known : Known) (m n : Moment) (at : Option ℕ) → AgreeAt known m n → KnowsWord known at → word_at m.bytes at ≡ word_at n.bytes at
same_word known m n None h knows = refl
same_word known m n (Some a) h knows =
    ap₂ (λ low high. word_value low high) (h.bytes a knows.0) (h.bytes ((a + 1) % 65536) knows.1)

same_made : (known : Known) (m n : Moment) (f : Function) (v : Option ℤ) → AgreeAt known m n → KnowsMade f known v
    → made_of f m.bytes v ≡ made_of f n.bytes v
same_made known m n function.Byte (Some x) h knows = same_byte known m n (word_in x) h knows
same_made known m n function.Word (Some x) h knows = same_word known m n (word_in x) h knows
same_made known m n function.Signed (Some x) h knows = refl
same_made known m n function.Abs (Some x) h knows = refl
same_made known m n f None h knows = refl

same_branch : (by : Bool) (One Other : Type 0) (x y u v : Option ℤ) → OfBoth by One Other → (One → x ≡ u) → (Other → y ≡ v)
    → (if by then y else x) ≡ (if by then v else u)
same_branch true One Other x y u v knows one other = other knows
same_branch false One Other x y u v knows one other = one knows

same_chosen : (by : Option ℤ) (One Other : Type 0) (x y u v : Option ℤ) → OfChosen by One Other → (One → x ≡ u) → (Other → y ≡ v)
    → chosen by x y ≡ chosen by u v
same_chosen None One Other x y u v knows one other = refl
same_chosen (Some z) One Other x y u v knows one other = same_branch (is_zero z) One Other x y u v knows one other

same_each : (n : ℕ) (f g : ℕ → Option ℤ) → ((k : ℕ) → k < n → f k ≡ g k) → each_below n f ≡ each_below n g
same_each zero f g same = refl
same_each (suc n) f g same =
    ap₂ (λ before here. chosen before here (Some (pos 0)))
    (same_each n f g (λ k lt. let below : k < suc n = omega (arith, lt) in same k below))
    (let last : n < suc n = omega arith in same n last)

same_sum : (n : ℕ) (f g : ℕ → Option ℤ) → ((k : ℕ) → k < n → f k ≡ g k) → sum_below n f ≡ sum_below n g
same_sum zero f g same = refl
same_sum (suc n) f g same =
    ap₂ (λ before here. operated_on operation.Plus before here)
    (same_sum n f g (λ k lt. let below : k < suc n = omega (arith, lt) in same k below))
    (let last : n < suc n = omega arith in same n last)

same_count : (count : Option ℕ) (f g : ℕ → Option ℤ) (all : ℕ → (ℕ → Option ℤ) → Option ℤ)
    → ((n : ℕ) → ((k : ℕ) → k < n → f k ≡ g k) → all n f ≡ all n g) → ((k : ℕ) → IsBelow k count → f k ≡ g k)
    → at_count count f all ≡ at_count count g all
same_count None f g all by same = refl
same_count (Some n) f g all by same = by n same

pub values : ValuesDependOnlyOnReads
values (Number n) before following m n' u v names h l knows = refl
values (Held atom) before following m n u v names h l knows = ap (λ z. Some z) (l.atoms atom knows)
values (Bound name) before following m n u v names h l knows = refl
values (Old' p e) before following m n u v names h l knows = values e before before m m u u names h h knows
values (At' a p e) before following m n u v names h l knows = refl
values (Of' f p e) before following m n u v names h l knows =
    same_made following n v f (value_of e m n names) l knows.1
    ∙ ap (λ x. made_of f v.bytes x) (values e before following m n u v names h l knows.0)
values (Pair' op p x q y) before following m n u v names h l knows =
    ap₂ (λ x y. operated_on op x y) (values x before following m n u v names h l knows.0) (values y before following m n u v names h l knows.1)
values (Choice' p c q x r y) before following m n u v names h l knows =
    same_chosen (value_of c m n names) (Knows x before following m n names) (Knows y before following m n names)
    (value_of x m n names) (value_of y m n names) (value_of x u v names) (value_of y u v names) knows.1
    (λ one. values x before following m n u v names h l one) (λ other. values y before following m n u v names h l other)
    ∙ ap (λ by. chosen by (value_of x u v names) (value_of y u v names)) (values c before following m n u v names h l knows.0)
values (Each' name p c q e) before following m n u v names h l knows =
    same_count (count_of (value_of c m n names)) (λ k. value_of e m n (slice_set names name (pos k))) (λ k. value_of e u v (slice_set names name (pos k)))
    each_below (λ n. same_each n _ _) (λ k below. values e before following m n u v (slice_set names name (pos k)) h l (knows.1 k below))
    ∙ ap (λ by. at_count (count_of by) (λ k. value_of e u v (slice_set names name (pos k))) each_below) (values c before following m n u v names h l knows.0)
values (Sum' name p c q e) before following m n u v names h l knows =
    same_count (count_of (value_of c m n names)) (λ k. value_of e m n (slice_set names name (pos k))) (λ k. value_of e u v (slice_set names name (pos k)))
    sum_below (λ n. same_sum n _ _) (λ k below. values e before following m n u v (slice_set names name (pos k)) h l (knows.1 k below))
    ∙ ap (λ by. at_count (count_of by) (λ k. value_of e u v (slice_set names name (pos k))) sum_below) (values c before following m n u v names h l knows.0)
