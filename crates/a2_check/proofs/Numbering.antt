-- The numbers of the lines that are not in the grammar, for the lines checked so far.
use Rattle.std.proofs.Common.{◌≡◌, ℕ, ◌+◌, ◌-◌, ◌<◌, ◌≤◌, List, [], ◌∷◌, ◌++◌, length, map, get_or, Bor, sym, subst, inl, inr, arith, ◌⊎◌}
use Rattle.std.specs.List.{All, Contains}
use Rattle.std.specs.List.Sorted.{IsStrictlyIncreasing}
use Rattle.std.proofs.lemmas.Bool.{cases_eq, cases_lt}
use Rattle.std.proofs.lemmas.List.{get_or_append_left, length_push, length-map, get_or-map}
use Rattle.std.proofs.Math.Seq.{get_or-append_seam}
use Rattle.std.proofs.lemmas.List.Elements.{All-nil, All-push, All-weaker, All-get_or, Contains-append_left, Contains-push}
use Rattle.a2_syntax.specs.Bare.{BareLine}
use Rattle.a2_syntax.specs.Grammar.{IsLine}
use Rattle.a2_check.specs.Unread.{IsNumber, IsRead, IsUnread, AreUnread}

-- the numbers among the first `n` lines
pub record AreUnreadTo (texts : List (List ℕ)) (i : ℕ) (numbers : List ℕ) : Type 0 where
  pub in_order : IsStrictlyIncreasing numbers
  pub low : All (λ n. n ≤ i) numbers
  pub unread : All (IsUnread texts) numbers
  pub others : (n : ℕ) → n ≤ i → IsNumber texts n → Contains numbers n ⊎ IsRead texts n

pub none-to : (texts : List (List ℕ)) → AreUnreadTo texts 0 []
none-to texts = record {
  in_order = λ k h. absurd (omega (arith, h));
  low = All-nil (λ n. n ≤ 0);
  unread = All-nil (IsUnread texts);
  others = λ n h is. absurd (omega (arith, h, is.0));
}

-- the step for a line that is in the grammar
pub read-to : (texts : List (List ℕ)) (i : ℕ) (numbers : List ℕ) → AreUnreadTo texts i numbers → IsRead texts (i + 1) → AreUnreadTo texts (i + 1) numbers
read-to texts i numbers a read = record {
  in_order = a.in_order;
  low = All-weaker (λ n. n ≤ i) (λ n. n ≤ i + 1) (λ n h. omega (arith, h)) numbers a.low;
  unread = a.unread;
  others = λ n h is. elim (cases_eq n (i + 1)) [
    | inl e ↦ inr (subst (IsRead texts) (sym e) read)
    | inr other ↦ a.others n (omega (arith, h, other)) is
  ];
}

rising : (xs : List ℕ) (i : ℕ) → IsStrictlyIncreasing xs → All (λ n. n ≤ i) xs → IsStrictlyIncreasing (xs ++ (i + 1) ∷ [])
rising xs i rises low k h =
    let count = length_push xs (i + 1) in
    let here : k < length xs = omega (arith, count, h) in
    elim (cases_lt (k + 1) (length xs)) [
      | inl before ↦ rw (get_or_append_left xs ((i + 1) ∷ []) 0 k here, get_or_append_left xs ((i + 1) ∷ []) 0 (k + 1) before) (rises k before)
      | inr last ↦
          let at : k + 1 ≡ length xs = omega (arith, here, last) in
          rw (at, get_or-append_seam xs (i + 1) [] 0, get_or_append_left xs ((i + 1) ∷ []) 0 k here) (omega (arith, All-get_or (λ n. n ≤ i) xs k 0 here low))
    ]

kept : (texts : List (List ℕ)) (numbers : List ℕ) (m n : ℕ) → Contains numbers n ⊎ IsRead texts n → Contains (numbers ++ m ∷ []) n ⊎ IsRead texts n
kept texts numbers m n (inl h) = inl (Contains-append_left numbers (m ∷ []) n h)
kept texts numbers m n (inr h) = inr h

-- the step for a line that is not
pub unread-to : (texts : List (List ℕ)) (i : ℕ) (numbers : List ℕ) → AreUnreadTo texts i numbers → IsUnread texts (i + 1) → AreUnreadTo texts (i + 1) (numbers ++ (i + 1) ∷ [])
unread-to texts i numbers a unread = record {
  in_order = rising numbers i a.in_order a.low;
  low = All-push (λ n. n ≤ i + 1) numbers (i + 1) (All-weaker (λ n. n ≤ i) (λ n. n ≤ i + 1) (λ n h. omega (arith, h)) numbers a.low) (omega arith);
  unread = All-push (IsUnread texts) numbers (i + 1) a.unread unread;
  others = λ n h is. elim (cases_eq n (i + 1)) [
    | inl e ↦ inl (rw e (Contains-push numbers (i + 1)))
    | inr other ↦ kept texts numbers (i + 1) n (a.others n (omega (arith, h, other)) is)
  ];
}

pub all-unread : (texts : List (List ℕ)) (i : ℕ) (numbers : List ℕ) → AreUnreadTo texts i numbers → length texts ≤ i → AreUnread texts numbers
all-unread texts i numbers a end = record {
  in_order = a.in_order;
  unread = a.unread;
  others = λ n is. a.others n (omega (arith, is.1, end)) is;
}

abbrev pub now : List (Bor (List ℕ)) → List (List ℕ)
now = map (λ x. x.now)

-- the line at an index of a list of borrowed lines
at : (texts : List (Bor (List ℕ))) (i : ℕ) (d : Bor (List ℕ)) → i < length texts → get_or (now texts) (i + 1 - 1) [] ≡ (get_or texts i d).now
at texts i d low =
    let index : i + 1 - 1 ≡ i = omega arith in
    rw index (get_or-map (λ (x : Bor (List ℕ)). x.now) texts i d [] low)

pub read-next : (texts : List (Bor (List ℕ))) (i : ℕ) (numbers : List ℕ) (d : Bor (List ℕ)) → AreUnreadTo (now texts) i numbers → i < length texts → (line : BareLine) × IsLine (get_or texts i d).now line → AreUnreadTo (now texts) (i + 1) numbers
read-next texts i numbers d a low h =
    let P : List ℕ → Type 0 = λ text. (line : BareLine) × IsLine text line in
    read-to (now texts) i numbers a (subst P (sym (at texts i d low)) h)

pub unread-next : (texts : List (Bor (List ℕ))) (i : ℕ) (numbers : List ℕ) (d : Bor (List ℕ)) → AreUnreadTo (now texts) i numbers → i < length texts → ((line : BareLine) → IsLine (get_or texts i d).now line → ⊥) → AreUnreadTo (now texts) (i + 1) (numbers ++ (i + 1) ∷ [])
unread-next texts i numbers d a low h =
    let count = length-map texts (λ (x : Bor (List ℕ)). x.now) in
    let Q : List ℕ → Type 0 = λ text. (line : BareLine) × IsLine text line in
    unread-to (now texts) i numbers a ((omega arith, omega (arith, low, count)), λ read. let r = subst Q (at texts i d low) read in h r.0 r.1)
