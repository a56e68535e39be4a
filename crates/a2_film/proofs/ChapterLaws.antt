-- The lines of a script: where a number ends, and which lines begin chapters.
use Rattle.std.specs.Prelude.{filter, codes}
use Rattle.std.specs.Str.{IsUtf8}
use Rattle.std.specs.Str.Parse.{AllDigits, digits_value}
use Rattle.std.specs.List.{AllZip, All, position_or_len}
use Rattle.std.proofs.Common.{◌≡◌, ◌≢◌, ℕ, suc, ◌+◌, ◌<◌, ◌≤◌, ◌==◌, Bool, true, false, not, cond, List, [], ◌∷◌, ◌++◌}
use Rattle.std.proofs.Common.{length, get_or, take, drop, refl, sym, ap, ◌∙◌, subst, arith}
use Rattle.std.proofs.lemmas.Bool.{cond-true}
use Rattle.std.proofs.lemmas.Bool.Decides.{nat_tests}
use Rattle.std.proofs.lemmas.List.{take_at, drop_at, length_push, append_assoc, append-nil, take-append-drop, take_all}
use Rattle.std.proofs.lemmas.List.{drop_more, length-take-le, length-append}
use Rattle.std.proofs.lemmas.List.Elements.{All-nil, All-cons, All-head, All-tail, filter_more}
use Rattle.std.proofs.lemmas.List.Sums.{split_at_first, passes_at_first}
use Rattle.std.proofs.lemmas.Fmt.{IsAscii-from_digits}
use Rattle.std.proofs.lemmas.Str.{IsUtf8-from_ascii}
use Rattle.std.proofs.lemmas.Str.Parse.{digit_from_value}
use Rattle.a2_run.specs.Limits.{IsStepLimit}
use Rattle.a2_film.specs.declared.chapters.Place.{Place}
use Rattle.a2_film.specs.declared.chapters.Place.TheVariants.{Step, Line}
use Rattle.a2_film.specs.declared.chapters.Chapter.{Chapter}
use Rattle.a2_film.specs.Chapters.{IsNumbered, Tells, is_silent, AreChapters, FirstOther}
use Rattle.a2_film.specs.Filmed.{IsCut}

-- The cut at the first blank

abbrev is_space : ℕ → Bool
is_space c = c == 0x20

space-is : (c : ℕ) → is_space c ≡ true → c ≡ 0x20
space-is c h = grind (arith, nat_tests, h)

space-not : (c : ℕ) → is_space c ≡ false → c ≢ 0x20
space-not c h = grind (arith, nat_tests, h)

-- there is no blank before the first one
before_first-spaceless : (text : List ℕ) → All (λ c. c ≢ 0x20) (take (position_or_len is_space text) text)
before_first-spaceless [] = All-nil (λ c. c ≢ 0x20)
before_first-spaceless (c ∷ text) = go (is_space c) refl (before_first-spaceless text)
  where
    go : (v : Bool) → is_space c ≡ v → All (λ c. c ≢ 0x20) (take (position_or_len is_space text) text)
        → All (λ c. c ≢ 0x20) (take (cond (not v) (1 + position_or_len is_space text) 0) (c ∷ text))
    go true h rest = All-nil (λ c. c ≢ 0x20)
    go false h rest =
        let more : suc (position_or_len is_space text) ≡ 1 + position_or_len is_space text = omega arith in
        subst (λ (n : ℕ). All (λ c. c ≢ 0x20) (take n (c ∷ text))) more (All-cons (λ c. c ≢ 0x20) c _ (space-not c h) rest)

pub cut_some : (text front following : List ℕ) (end : ℕ) → end ≡ position_or_len is_space text → end < length text
    → front ≡ take end text
    → following ≡ drop (end + 1) text → IsCut text front following
cut_some text front following end is within front_is behind_is =
    let low : position_or_len is_space text < length text = omega (arith, is, within) in
    let at : get_or text (position_or_len is_space text) 0 ≡ 0x20 = space-is _ (passes_at_first is_space text 0 low) in
    let fronts : front ≡ take (position_or_len is_space text) text = front_is ∙ ap (λ (n : ℕ). take n text) is in
    let behinds : following ≡ drop (position_or_len is_space text + 1) text = behind_is ∙ ap (λ (n : ℕ). drop (n + 1) text) is in (
      split_at_first is_space text 0 low
          ∙ ap (λ (c : ℕ). take (position_or_len is_space text) text ++ (c ∷ drop (position_or_len is_space text + 1) text)) at
          ∙ ap (λ (l : List ℕ). l ++ (0x20 ∷ drop (position_or_len is_space text + 1) text)) (sym fronts)
          ∙ ap (λ (l : List ℕ). front ++ (0x20 ∷ l)) (sym behinds),
      subst (λ (l : List ℕ). All (λ c. c ≢ 0x20) l) (sym fronts) (before_first-spaceless text),
    )

-- the position of the first blank of a cut
first_at : (front following : List ℕ) → All (λ c. c ≢ 0x20) front → position_or_len is_space (front ++ 0x20 ∷ following) ≡ length front
first_at [] following h = refl
first_at (c ∷ front) following h =
    let other : c ≢ 0x20 = All-head (λ c. c ≢ 0x20) c front h in
    let no : not (is_space c) ≡ true = grind (arith, nat_tests, other) in
    let more : 1 + length front ≡ suc (length front) = omega arith in
    cond-true (not (is_space c)) (1 + position_or_len is_space (front ++ 0x20 ∷ following)) 0 no
    ∙ ap (λ (n : ℕ). 1 + n) (first_at front following (All-tail (λ c. c ≢ 0x20) c front h)) ∙ more

pub cut_none : (text : List ℕ) (end : ℕ) → end ≡ position_or_len is_space text → end ≡ length text → (front following : List ℕ)
    → IsCut text front following → ⊥
cut_none text end is all front following (cut, none) =
    let here : position_or_len is_space text ≡ length front = ap (position_or_len is_space) cut ∙ first_at front following none in
    let long : length text ≡ length front + suc (length following) = ap length cut ∙ length-append front (0x20 ∷ following) in
    omega (arith, is, all, here, long)

-- a text has only one cut
pub cut_one : (text front following other rest : List ℕ) → IsCut text front following → IsCut text other rest → (front ≡ other)
    × (following ≡ rest)
cut_one text front following other rest (cut, none) (cut', none') =
    let at : length front ≡ length other = sym (first_at front following none) ∙ ap (position_or_len is_space) (sym cut ∙ cut')
    ∙ first_at other rest none' in
    let at' : length other + 1 ≡ length other + 1 = refl in (
      sym (take_at front (0x20 ∷ following) (length other) at) ∙ ap (take (length other)) (sym cut ∙ cut')
          ∙ take_at other (0x20 ∷ rest) (length other) refl,
      sym (behind_at front following (length other + 1) (ap (λ (n : ℕ). n + 1) at)) ∙ ap (drop (length other + 1)) (sym cut ∙ cut')
          ∙ behind_at other rest (length other + 1) refl,
    )
  where
    behind_at : (front following : List ℕ) (n : ℕ) → length front + 1 ≡ n → drop n (front ++ 0x20 ∷ following) ≡ following
    behind_at front following n is =
        ap (drop n) (sym (append_assoc front (0x20 ∷ []) following)) ∙ drop_at (front ++ 0x20 ∷ []) following n
        (length_push front 0x20 ∙ is)

-- Numbers

no_space : (word : List ℕ) → AllDigits 10 word → All (λ c. c ≢ 0x20) word
no_space [] h = All-nil (λ c. c ≢ 0x20)
no_space (c ∷ word) h =
    let range = digit_from_value c h.0 in
    All-cons (λ c. c ≢ 0x20) c word (λ e. absurd (omega (arith, range, e))) (no_space word h.1)

pub number_utf8 : (word : List ℕ) → IsStepLimit word → IsUtf8 word
number_utf8 word h = IsUtf8-from_ascii word (IsAscii-from_digits word h.0.1)

pub numbered_some : (line word text : List ℕ) (n : ℕ) → IsCut line word text → IsStepLimit word → n ≡ digits_value 10 word
    → IsNumbered line n text
numbered_some line word text n cut limit is = (word, limit, is, cut.0)

pub numbered_cut : (line : List ℕ) (n : ℕ) (text : List ℕ) → IsNumbered line n text → (word : List ℕ) × IsStepLimit word
    × IsCut line word text
numbered_cut line n text (word, limit, is, e) = (word, limit, (e, no_space word limit.0.1))

-- if the text before the first blank is not a number, the line has none
pub numbered_none : (line front following : List ℕ) → IsCut line front following → (IsStepLimit front → ⊥) → (n : ℕ) (text : List ℕ)
    → IsNumbered line n text → ⊥
numbered_none line front following cut never n text is =
    let (word, limit, other) = numbered_cut line n text is in
    never (subst (λ (w : List ℕ). IsStepLimit w) ((cut_one line word text front following other cut).0) limit)

pub numbered_uncut : (line : List ℕ) → ((front following : List ℕ) → IsCut line front following → ⊥) → (n : ℕ) (text : List ℕ)
    → IsNumbered line n text → ⊥
numbered_uncut line never n text is =
    let (word, limit, other) = numbered_cut line n text is in
    never word text other

-- Lines

-- a number does not begin with a letter
lettered : (c : ℕ) (rest : List ℕ) → 58 ≤ c → (n : ℕ) (text : List ℕ) → IsNumbered (c ∷ rest) n text → ⊥
lettered c rest high n text ([], limit, is, e) = absurd (omega (arith, limit.0.0))
lettered c rest high n text (d ∷ word, limit, is, e) =
    let same : c ≡ d = ap (λ (l : List ℕ). get_or l 0 0) e in
    let range = digit_from_value d limit.0.1.0 in
    omega (arith, range, same, high)

pub tells_line : (line rest : List ℕ) (n : ℕ) (text : List ℕ) → line ≡ codes "line " ++ rest → IsNumbered rest n text
    → Tells line (Line n) text
tells_line line rest n text e is = (rest, e, is)

pub tells_no_line : (line rest : List ℕ) → line ≡ codes "line " ++ rest → ((n : ℕ) (text : List ℕ) → IsNumbered rest n text → ⊥)
    → (place : Place) (text : List ℕ) → Tells line place text → ⊥
tells_no_line line rest e never (Step n) text is = lettered 0x6C (drop 1 (codes "line ") ++ rest) (omega arith) n text
    (subst (λ (l : List ℕ). IsNumbered l n text) e is)
tells_no_line line rest e never (Line n) text (other, e', is) =
    let same : other ≡ rest = ap (drop 5) (sym e' ∙ e) in
    never n text (subst (λ (l : List ℕ). IsNumbered l n text) same is)

pub tells_no_step : (line : List ℕ) → ((rest : List ℕ) → line ≢ codes "line " ++ rest)
    → ((n : ℕ) (text : List ℕ) → IsNumbered line n text → ⊥)
    → (place : Place) (text : List ℕ) → Tells line place text → ⊥
tells_no_step line other never (Step n) text is = never n text is
tells_no_step line other never (Line n) text (rest, e, is) = other rest e

-- The lines of a script

abbrev speaks : List ℕ → Bool
speaks line = not (is_silent line)

abbrev Told : List ℕ → Chapter → Type 0
Told line chapter = Tells line chapter.place chapter.text.now

told_more : (texts : List (List ℕ)) (chapters : List Chapter) (line : List ℕ) (chapter : Chapter) → AllZip Told texts chapters
    → Told line chapter
    → AllZip Told (texts ++ line ∷ []) (chapters ++ chapter ∷ [])
told_more [] [] line chapter h t = (t, tt)
told_more [] (c ∷ chapters) line chapter h t = absurd h
told_more (x ∷ texts) [] line chapter h t = absurd h
told_more (x ∷ texts) (c ∷ chapters) line chapter h t = (h.0, told_more texts chapters line chapter h.1 t)

pub chapters_silent : (texts : List (List ℕ)) (i : ℕ) (line : List ℕ) (chapters : List Chapter) → i < length texts
    → get_or texts i [] ≡ line
    → is_silent line ≡ true → AreChapters (take i texts) chapters → AreChapters (take (i + 1) texts) chapters
chapters_silent texts i line chapters low is none h =
    let silent : speaks (get_or texts i []) ≡ false = ap speaks is ∙ ap not none in
    subst (λ (l : List (List ℕ)). AllZip Told l chapters)
    (sym (filter_more speaks texts i [] low ∙ ap
    (λ (v : Bool). filter speaks (take i texts) ++ cond v (get_or texts i [] ∷ []) []) silent
    ∙ append-nil (filter speaks (take i texts)))) h

pub chapters_more : (texts : List (List ℕ)) (i : ℕ) (line : List ℕ) (chapters : List Chapter) (chapter : Chapter)
    → i < length texts
    → get_or texts i [] ≡ line → is_silent line ≡ false → Told line chapter → AreChapters (take i texts) chapters
    → AreChapters (take (i + 1) texts) (chapters ++ chapter ∷ [])
chapters_more texts i line chapters chapter low is some told h =
    let loud : speaks (get_or texts i []) ≡ true = ap speaks is ∙ ap not some in
    subst (λ (l : List (List ℕ)). AllZip Told l (chapters ++ chapter ∷ []))
    (sym (filter_more speaks texts i [] low ∙ ap
    (λ (v : Bool). filter speaks (take i texts) ++ cond v (get_or texts i [] ∷ []) []) loud))
    (told_more (filter speaks (take i texts)) chapters (get_or texts i []) chapter h
    (subst (λ (l : List ℕ). Told l chapter) (sym is) told))

pub chapters_all : (texts : List (List ℕ)) (i : ℕ) (chapters : List Chapter) → length texts ≤ i
    → AreChapters (take i texts) chapters → AreChapters texts chapters
chapters_all texts i chapters all h = subst (λ (l : List (List ℕ)). AreChapters l chapters) (take_all i texts all) h

pub first_other : (texts : List (List ℕ)) (i n : ℕ) (line : List ℕ) (chapters : List Chapter) → i < length texts → n ≡ i + 1
    → get_or texts i [] ≡ line
    → is_silent line ≡ false → ((place : Place) (text : List ℕ) → Tells line place text → ⊥) → AreChapters (take i texts) chapters
    → FirstOther texts n
first_other texts i n line chapters low is at some none h =
    let long : length (take i texts) ≡ i = length-take-le i texts (omega (arith, low)) in
    let number : n ≡ length (take i texts) + 1 = omega (arith, is, long) in (
      take i texts,
      line,
      drop (i + 1) texts,
      sym (take-append-drop i texts) ∙ ap (λ (l : List (List ℕ)). take i texts ++ l)
          (drop_more texts i [] low ∙ ap (λ (x : List ℕ). x ∷ drop (i + 1) texts) at),
      number,
      (chapters, h),
      some,
      none,
    )
