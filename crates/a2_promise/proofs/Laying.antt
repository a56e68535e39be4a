-- The parts for a text in memory, character by character.
use Rattle.std.specs.Prelude.{◌≡◌, ◌<◌, ◌≤◌, ℕ, zero, suc, ◌+◌, ◌&&◌, ◌%◌, pos, nat_lt, ◌==◌, Bool, true, false, IsTrue, List, [], ◌∷◌, ◌++◌, length, take, ℤ, Result, Ok, Err, OnOk, refl, if◌then◌else◌}
use Rattle.std.specs.List.{slice_range, list_all}
use Rattle.std.proofs.Common.{ap, ap₂, sym, ◌∙◌, get_or, arith}
use Rattle.std.proofs.lemmas.List.{take_more, take_all, length-take-le}
use Rattle.std.proofs.lemmas.List.Folds.{list_all_at}
use Rattle.std.proofs.lemmas.Bool.{false≢true, and_parts, leb-true}
use Rattle.a2_syntax.specs.Numbers.{is_quote, is_quotable}
use Rattle.a2_promise.specs.declared.expr.Function.TheVariants as function
use Rattle.a2_promise.specs.declared.expr.Operation.TheVariants as operation
use Rattle.a2_promise.specs.declared.parts.Part.{Part}
use Rattle.a2_promise.specs.declared.parts.Part.TheVariants as part
use Rattle.a2_promise.specs.declared.reader.Span.{Span}
use Rattle.a2_promise.specs.declared.parsing.Place.{Place}
use Rattle.a2_promise.specs.declared.parsing.Place.TheVariants.{Fixed, Made}
use Rattle.a2_promise.specs.Phrases.{Phrase, pair, of, number}
use Rattle.a2_promise.specs.Written.{both, is_laid, are_laid, are_laid_from}
use Rattle.a2_promise.specs.Grammar.{is_text}
use Rattle.a2_promise.specs.Reading.{State, Puts, PutsOf, IsMade, IsPlaced, IsTop, pushed, made, joining}
use Rattle.a2_promise.proofs.Making.{none_made, made_both}
use Rattle.a2_promise.proofs.Joinings.{nothing_put, puts_both, made_kept, joins_both}

abbrev pub laid_stack : ℕ → (ℕ → Phrase) → List Phrase → List ℕ → List Phrase
laid_stack quote place top [] = top
laid_stack quote place top (c ∷ text) = are_laid quote place (c ∷ text) ∷ []

pub record LaidSoFar (quote : ℕ) (place : ℕ → Phrase) (top : List Phrase) (text : List ℕ) (a b : State) : Type 0 where
  pub parts : List Part
  pub puts : Puts parts a b
  pub makes : (phrases : List Phrase) → made parts (top ++ phrases) ≡ laid_stack quote place top text ++ phrases

pub none_laid : {quote : ℕ} {place : ℕ → Phrase} {top : List Phrase} {a : State} → LaidSoFar quote place top [] a a
none_laid {top = top} = record { parts = []; puts = nothing_put; makes = λ phrases. none_made (top ++ phrases) }

pub placed_kept : (place : Place) (phrase : ℕ → Phrase) (top : List Phrase) (parts more all : List Part) → all ≡ parts ++ more
    → IsPlaced place phrase top parts → IsPlaced place phrase top all
placed_kept (Fixed a) phrase top parts more all e p = p
placed_kept (Made span) phrase top parts more all e p = (p.0, p.1, p.2, made_kept span p.0 parts more all e p.3)

-- what a successful call appended
pub on_ok : {T E : Type 0} (r : Result T E) {P Q : Type 0} → OnOk r P → (P → Q) → OnOk r Q
on_ok (Ok x) h f = f h
on_ok (Err e) h f = tt

pub ok_always : {T E : Type 0} (r : Result T E) {Q : Type 0} → Q → OnOk r Q
ok_always (Ok x) q = q
ok_always (Err e) q = tt

pub nothing_of : {e : Phrase} {a : State} → PutsOf (pushed 0 (e ∷ [])) e a a
nothing_of {e} = record { parts = []; puts = nothing_put; makes = λ phrases. none_made (e ∷ phrases) }

pub again_of : (span : Span) {e : Phrase} (n : ℕ) {a b : State} → 0 < n → IsMade span e a.parts
    → Puts (slice_range a.parts span.begun span.ended) a b → PutsOf (pushed n (e ∷ [])) e a b
again_of span zero l m p = absurd (omega (arith, l))
again_of span (suc n) {a} l m p = record { parts = slice_range a.parts span.begun span.ended; puts = p; makes = m.1 }

pub put_then : (top : List Phrase) {e : Phrase} (f : Phrase) {put : List Part} {a m b : State} → PutsOf top e a m → Puts put m b
    → ((phrases : List Phrase) → made put (e ∷ phrases) ≡ f ∷ phrases) → PutsOf top f a b
put_then top f {put} p q h = record {
  parts = p.parts ++ put;
  puts = puts_both p.puts q;
  makes = λ phrases. made_both p.parts put (top ++ phrases) ∙ ap (made put) (p.makes phrases) ∙ h phrases;
}

no_top : (n : ℕ) (top : List Phrase) → top ≡ [] → pushed n top ≡ []
no_top zero top e = e
no_top (suc n) top e = refl

pub laid_fixed : (address : ℕ) {phrase : ℕ → Phrase} {top : List Phrase} (n code : ℕ) {z w : ℤ} {a b : State}
    → ((k : ℕ) → phrase k ≡ number (pos (address + k))) × (top ≡ []) → z ≡ pos (address + n) → w ≡ pos code
    → Puts (part.Number z ∷ part.Of function.Byte ∷ part.Number w ∷ part.Pair operation.Equal ∷ []) a b
    → PutsOf (pushed n top) (pair operation.Equal (of function.Byte (phrase n)) (number (pos code))) a b
unfolding made
laid_fixed address {phrase} {top} n code p e f h =
    let put = part.Number (pos (address + n)) ∷ part.Of function.Byte ∷ part.Number (pos code) ∷ part.Pair operation.Equal ∷ [] in
    record {
      parts = put;
      puts = rw (e, f) at h;
      makes = λ phrases.
          ap (λ top. made put (top ++ phrases)) (no_top n top p.1)
          ∙ ap (λ e. pair operation.Equal (of function.Byte e) (number (pos code)) ∷ phrases) (sym (p.0 n));
    }

pub laid_made : (span : Span) {phrase : ℕ → Phrase} {top : List Phrase} (n code : ℕ) {z w : ℤ} {a m b : State}
    → (placed : IsPlaced (Made span) phrase top a.parts) → PutsOf (pushed n (placed.0 ∷ [])) placed.0 a m → z ≡ pos n → w ≡ pos code
    → Puts (part.Number z ∷ part.Pair operation.Plus ∷ part.Of function.Byte ∷ part.Number w ∷ part.Pair operation.Equal ∷ []) m b
    → PutsOf (pushed n top) (pair operation.Equal (of function.Byte (phrase n)) (number (pos code))) a b
unfolding made
laid_made span n code p h e f k =
    let is : Phrase → Phrase = λ e. pair operation.Equal (of function.Byte e) (number (pos code)) in
    rw (p.2, p.1 n) (put_then (pushed n (p.0 ∷ [])) (is (pair operation.Plus p.0 (number (pos n)))) h (rw (e, f) at k) (λ phrases. refl))

behind_more : (quote : ℕ) (place : ℕ → Phrase) (said : Phrase) (k : ℕ) (text : List ℕ) (c : ℕ)
    → are_laid_from quote place said k (text ++ c ∷ []) ≡ both (are_laid_from quote place said k text) (is_laid quote (place (k + length text)) c)
behind_more quote place said k [] c =
    let n : k ≡ k + 0 = omega arith in ap (λ n. both said (is_laid quote (place n) c)) n
behind_more quote place said k (d ∷ text) c =
    let n : suc k + length text ≡ k + suc (length text) = omega arith in
    behind_more quote place (both said (is_laid quote (place k) d)) (suc k) text c
    ∙ ap (λ n. both (are_laid_from quote place (both said (is_laid quote (place k) d)) (suc k) text) (is_laid quote (place n) c)) n

laid_more : (quote : ℕ) (place : ℕ → Phrase) (d : ℕ) (text : List ℕ) (c : ℕ)
    → are_laid quote place (d ∷ (text ++ c ∷ [])) ≡ both (are_laid quote place (d ∷ text)) (is_laid quote (place (suc (length text))) c)
laid_more quote place d text c =
    let n : 1 + length text ≡ suc (length text) = omega arith in
    behind_more quote place (is_laid quote (place 0) d) 1 text c
    ∙ ap (λ n. both (are_laid quote place (d ∷ text)) (is_laid quote (place n) c)) n

-- the stored code of the character at a place
laid_at : (quote top c k n code : ℕ) (place : ℕ → Phrase) → IsTop quote top → n ≡ k → code ≡ c + top
    → pair operation.Equal (of function.Byte (place n)) (number (pos code)) ≡ is_laid quote (place k) c
laid_at quote top c k n code place t e f = ap₂ (λ n code. pair operation.Equal (of function.Byte (place n)) (number (pos code))) e (f ∙ sym (t c))

-- the first character, and then the next one after those so far
first_laid : (quote add c code : ℕ) (place : ℕ → Phrase) (top : List Phrase) (n : ℕ) {a m b : State} → LaidSoFar quote place top [] a m
    → IsTop quote add → n ≡ 0 → code ≡ c + add
    → PutsOf (pushed n top) (pair operation.Equal (of function.Byte (place n)) (number (pos code))) m b → LaidSoFar quote place top (c ∷ []) a b
first_laid quote add c code place top zero s t e f p = record {
  parts = s.parts ++ p.parts;
  puts = puts_both s.puts p.puts;
  makes = λ phrases. made_both s.parts p.parts (top ++ phrases) ∙ ap (made p.parts) (s.makes phrases) ∙ p.makes phrases
      ∙ ap (λ phrase. phrase ∷ phrases) (laid_at quote add c 0 0 code place t refl f);
}
first_laid quote add c code place top (suc n) s t e f p = absurd (omega (arith, e))

next_laid : (quote add c code : ℕ) (place : ℕ → Phrase) (top : List Phrase) (d : ℕ) (text : List ℕ) (n : ℕ) {a m o b : State}
    → LaidSoFar quote place top (d ∷ text) a m → IsTop quote add → n ≡ suc (length text) → code ≡ c + add
    → PutsOf (pushed n top) (pair operation.Equal (of function.Byte (place n)) (number (pos code))) m o → Puts joining o b
    → LaidSoFar quote place top (d ∷ (text ++ c ∷ [])) a b
next_laid quote add c code place top d text zero s t e f p j = absurd (omega (arith, e))
next_laid quote add c code place top d text (suc n) s t e f p j =
    let so_far = are_laid quote place (d ∷ text) in
    record {
      parts = s.parts ++ (p.parts ++ joining);
      puts = puts_both s.puts (puts_both p.puts j);
      makes = λ phrases.
          made_both s.parts (p.parts ++ joining) (top ++ phrases) ∙ ap (made (p.parts ++ joining)) (s.makes phrases)
          ∙ made_both p.parts joining (so_far ∷ phrases) ∙ ap (made joining) (p.makes (so_far ∷ phrases))
          ∙ joins_both so_far (pair operation.Equal (of function.Byte (place (suc n))) (number (pos code))) phrases
          ∙ ap (λ phrase. both so_far phrase ∷ phrases) (laid_at quote add c (suc (length text)) (suc n) code place t e f)
          ∙ ap (λ phrase. phrase ∷ phrases) (sym (laid_more quote place d text c));
    }

at_true : (p : ℕ → Bool) (text : List ℕ) (k : ℕ) (b : Bool) → k < length text → list_all p text ≡ true → p (get_or text k 0) ≡ b → b ≡ true
at_true p text k true l h e = refl
at_true p text k false l h e = sym (list_all_at p text k 0 l e) ∙ h

-- the stored code of a character is a byte
laid_code : (quote top k code : ℕ) (text : List ℕ) → IsTop quote top → IsTrue (is_text quote text) → k < length text
    → code ≡ (get_or text k 0 + top) % 256 → code ≡ get_or text k 0 + top
laid_code quote top k code text t good l e =
    let all = and_parts (is_quote quote && nat_lt 0 (length text)) (list_all (is_quotable quote) text) good in
    let is = at_true (is_quotable quote) text k (is_quotable quote (get_or text k 0)) l all.1 refl in
    let most = top_small (quote == 34) top (t 0) in
    let low : get_or text k 0 ≤ 126 = leb-true (get_or text k 0) 126 (and_parts _ _ (and_parts _ _ is).0).1 in
    omega (arith, e, low, most)
  where
    top_small : (b : Bool) (top : ℕ) → (if b then 0 + 128 else 0) ≡ 0 + top → top ≤ 128
    top_small true top e = omega (arith, e)
    top_small false top e = omega (arith, e)

pub laid_first : (quote add n k code : ℕ) {place : ℕ → Phrase} {top : List Phrase} (text : List ℕ) {a m b : State}
    → LaidSoFar quote place top (take k text) a m → IsTop quote add → IsTrue (is_text quote text) → n ≡ k → n ≤ 0 → k < length text
    → code ≡ (get_or text k 0 + add) % 256 → PutsOf (pushed n top) (pair operation.Equal (of function.Byte (place n)) (number (pos code))) m b
    → LaidSoFar quote place top (take (k + 1) text) a b
laid_first quote add n k code [] s t g e z l f p = absurd (omega (arith, l))
laid_first quote add n zero code {place} {top} (c ∷ text) s t g e z l f p =
    first_laid quote add c code place top n s t e (laid_code quote add 0 code (c ∷ text) t g l f) p
laid_first quote add n (suc k) code (c ∷ text) s t g e z l f p = absurd (omega (arith, e, z))

pub laid_next : (quote add n k code : ℕ) {place : ℕ → Phrase} {top : List Phrase} (text : List ℕ) {a m o b : State}
    → LaidSoFar quote place top (take k text) a m → IsTop quote add → IsTrue (is_text quote text) → n ≡ k → 0 < n → k < length text
    → code ≡ (get_or text k 0 + add) % 256 → PutsOf (pushed n top) (pair operation.Equal (of function.Byte (place n)) (number (pos code))) m o
    → Puts joining o b → LaidSoFar quote place top (take (k + 1) text) a b
laid_next quote add n k code [] s t g e z l f p j = absurd (omega (arith, l))
laid_next quote add n zero code (d ∷ text) s t g e z l f p j = absurd (omega (arith, e, z))
laid_next quote add n (suc k) code {place} {top} (d ∷ text) s t g e z l f p j =
    let within : k < length text = omega (arith, l) in
    let many = length-take-le k text (omega (arith, within)) in
    let more : suc k + 1 ≡ suc (k + 1) = omega arith in
    let same : take (suc k + 1) (d ∷ text) ≡ d ∷ (take k text ++ get_or text k 0 ∷ []) =
    ap (λ n. take n (d ∷ text)) more ∙ ap (λ rest. d ∷ rest) (take_more text k 0 within) in
    rw same (next_laid quote add (get_or text k 0) code place top d (take k text) n s t (omega (arith, e, many))
    (laid_code quote add (suc k) code (d ∷ text) t g l f) p j)

all_laid : {quote : ℕ} {place : ℕ → Phrase} {top : List Phrase} (text : List ℕ) {a b : State} → LaidSoFar quote place top text a b
    → IsTrue (is_text quote text) → PutsOf top (are_laid quote place text) a b
all_laid [] s t = absurd (false≢true (and_parts _ _ (and_parts _ _ t).0).1)
all_laid (c ∷ text) s t = record { parts = s.parts; puts = s.puts; makes = s.makes }

pub laid_whole : {quote : ℕ} (k : ℕ) {place : ℕ → Phrase} {top : List Phrase} (text : List ℕ) {a b : State}
    → LaidSoFar quote place top (take k text) a b → length text ≤ k → IsTrue (is_text quote text) → PutsOf top (are_laid quote place text) a b
laid_whole k text s l t = all_laid text (rw (take_all k text l) at s) t
