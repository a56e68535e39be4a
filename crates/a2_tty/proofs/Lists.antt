-- Ends of lists, and positions in a line.
use Rattle.std.proofs.Common.{◌≡◌, ℕ, zero, suc, ◌-◌, ◌<◌, Bool, true, false, ◌≤◌, List, [], ◌∷◌, ◌++◌, length, get_or, drop, Some, None, if◌then◌else◌, refl, sym, ap, ◌∙◌, arith, inl, inr, subst}
use Rattle.std.specs.Prelude.{map, slice_index, slice_get, nat_le}
use Rattle.std.proofs.Math.Bool.{beq}
use Rattle.std.proofs.lemmas.Bool.{cond-true, cond-false}
use Rattle.std.proofs.lemmas.List.{drop-map, map-append, length-map}
use Rattle.std.proofs.lemmas.List.{get_or_past}
use Rattle.std.proofs.lemmas.Option.{slice_get_cases}
use Rattle.circular_buffer.specs.Buffer.{keep_last}
use Rattle.a2_text.specs.Bytes.{is_blank}
use Rattle.a2_tty.specs.Lines.{back_over, is_alike}
use Rattle.a2_tty.specs.Histories.{aged}

-- lines as lists, and as they are kept
pub lines_kept : {A : Type 0} (f : A → List ℕ) (n : ℕ) (xs : List A) (x : A) → map f (keep_last n (xs ++ x ∷ [])) ≡ keep_last n (map f xs ++ f x ∷ [])
lines_kept f n xs x =
    let many : length (xs ++ x ∷ []) ≡ length (map f xs ++ f x ∷ []) = sym (length-map (xs ++ x ∷ []) f) ∙ ap length (map-append f xs (x ∷ [])) in
    sym (drop-map f (length (xs ++ x ∷ []) - n) (xs ++ x ∷ []))
    ∙ ap (λ l. drop (length (xs ++ x ∷ []) - n) l) (map-append f xs (x ∷ []))
    ∙ ap (λ k. drop (k - n) (map f xs ++ f x ∷ [])) many

-- there are not so many lines
if-empty : (is : Bool) (l : List ℕ) → l ≡ [] → [] ≡ (if is then l else [])
if-empty true l none = sym none
if-empty false l none = refl

past-line : {A : Type 0} (f : A → List ℕ) (items : List A) (i : ℕ) → length items ≤ i → get_or (map f items) i [] ≡ []
past-line f items i far = get_or_past (map f items) i [] (omega (arith, far, length-map items f))

none≢some : {A : Type 0} (x : A) → None ≡ Some x → ⊥
none≢some x e = cc

pub no_line : {A : Type 0} (f : A → List ℕ) (items : List A) (age index : ℕ) → index ≡ length items - age → None ≡ slice_get items index → [] ≡ aged age (map f items)
no_line f items age index is none =
    elim (slice_get_cases items index).1 [
      | inl there ↦ absurd (none≢some there.0 (none ∙ there.2))
      | inr past ↦
          let same : length (map f items) - age ≡ index = ap (λ n. n - age) (length-map items f) ∙ sym is in
          if-empty (nat_le age (length (map f items))) (get_or (map f items) (length (map f items) - age) [])
          (ap (λ i. get_or (map f items) i []) same ∙ past-line f items index past.0)
    ]

-- one byte further back, and no further
abbrev pub Test : Bool → ℕ → Bool
Test blanks c = is_alike blanks (is_blank c)

alike : (blanks one : Bool) → is_alike blanks one ≡ beq one blanks
alike true true = refl
alike true false = refl
alike false true = refl
alike false false = refl

back-more : (test : ℕ → Bool) (bytes : List ℕ) (n : ℕ) → 0 < n → test (slice_index bytes (n - 1)) ≡ true → back_over test bytes n ≡ back_over test bytes (n - 1)
unfolding back_over
back-more test bytes zero some passes = absurd (omega (arith, some))
back-more test bytes (suc n) some passes =
    let one : suc n - 1 ≡ n = omega arith in
    cond-true (test (slice_index bytes n)) (back_over test bytes n) (suc n) (subst (λ k. test (slice_index bytes k) ≡ true) one passes)
    ∙ ap (λ k. back_over test bytes k) (sym one)

back-no-more : (test : ℕ → Bool) (bytes : List ℕ) (n : ℕ) → 0 < n → test (slice_index bytes (n - 1)) ≡ false → back_over test bytes n ≡ n
unfolding back_over
back-no-more test bytes zero some fails = absurd (omega (arith, some))
back-no-more test bytes (suc n) some fails =
    let one : suc n - 1 ≡ n = omega arith in
    cond-false (test (slice_index bytes n)) (back_over test bytes n) (suc n) (subst (λ k. test (slice_index bytes k) ≡ false) one fails)

pub further : (blanks one : Bool) (bytes : List ℕ) (n : ℕ) → 0 < n → one ≡ is_blank (slice_index bytes (n - 1)) → beq one blanks ≡ true
    → back_over (Test blanks) bytes (n - 1) ≡ back_over (Test blanks) bytes n
further blanks one bytes n some is same =
    sym (back-more (Test blanks) bytes n some (alike blanks (is_blank (slice_index bytes (n - 1))) ∙ ap (λ b. beq b blanks) (sym is) ∙ same))

pub no_further : (blanks one : Bool) (bytes : List ℕ) (n : ℕ) → 0 < n → one ≡ is_blank (slice_index bytes (n - 1)) → beq one blanks ≡ false
    → n ≡ back_over (Test blanks) bytes n
no_further blanks one bytes n some is other =
    sym (back-no-more (Test blanks) bytes n some (alike blanks (is_blank (slice_index bytes (n - 1))) ∙ ap (λ b. beq b blanks) (sym is) ∙ other))

pub at_start : (blanks : Bool) (bytes : List ℕ) (n : ℕ) → n ≡ 0 → n ≡ back_over (Test blanks) bytes n
unfolding back_over
at_start blanks bytes zero none = refl
at_start blanks bytes (suc n) none = absurd (omega (arith, none))
