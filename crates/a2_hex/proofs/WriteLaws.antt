-- The lines of an image, one after another.
use Rattle.std.proofs.Common.{◌≡◌, ℕ, zero, suc, ◌+◌, ◌-◌, ◌%◌, ◌<◌, ◌≤◌, true, false, cond, List, [], ◌∷◌, ◌++◌, Option, Some, None, Result, IsErr, refl, sym, ap, ◌∙◌, subst, arith, add-one}
use Rattle.std.specs.List.{flat_map}
use Rattle.std.proofs.lemmas.List.{append_assoc, append-nil, flat_map_more}
use Rattle.a2_stream.specs.Stream.{Taker, Sends, Breaks, SendsOrBreaks}
use Rattle.a2_stream.proofs.Joined.{Sends-nil, Sends-then, Breaks-then, broke_off, went_on}
use Rattle.a2_text.specs.Digits.{hex_pair, hex_word}
use Rattle.std.proofs.lemmas.Grind.{common_steps, flat_map-append}
use Rattle.a2_hex.specs.ObjectText.{after_blank, to_gap, run, begins_line, line_at, lines_below, text_of_lines, object_text}
use Rattle.a2_hex.specs.Images.{ram_end}

-- the run from an address, given its first byte
pub run_next : (image : ℕ → Option ℕ) (a n : ℕ) → 0 < n → run image a n ≡ to_gap (image a) (run image (a + 1) (n - 1))
run_next image a zero some = absurd (omega arith)
run_next image a (suc n) some = (let one : suc n - 1 ≡ n = omega arith in rw one refl)

pub run_gap : (image : ℕ → Option ℕ) (a n : ℕ) → image a ≡ None → run image a n ≡ []
run_gap image a zero h = refl
run_gap image a (suc n) h = rw h refl

-- a run with one more byte
pub run-step : (image : ℕ → Option ℕ) (line new all : List ℕ) (a i n byte : ℕ) → i < n → image (a + i) ≡ Some byte → line ++ flat_map after_blank (run image (a + i) (n - i)) ≡ all → new ≡ line ++ after_blank byte
    → new ++ flat_map after_blank (run image (a + (i + 1)) (n - (i + 1))) ≡ all
run-step image line new all a i n byte lt h e is = grind (arith, common_steps, run_next)

-- a line, made of its parts
pub line_parts : (image : ℕ → Option ℕ) (a first : ℕ) → image a ≡ Some first
    → (line_at image a ≡ line_at image a) × (line_at image a ≡ hex_word a ++ 58 ∷ (hex_pair first ++ flat_map after_blank (run image (a + 1) (7 - a % 8))))
line_parts image a first h = (
  refl,
  (let seven : 8 - a % 8 - 1 ≡ 7 - a % 8 = omega arith in rw (run_next image a (8 - a % 8) (omega arith), h, seven) refl),
)

-- the lines below the next address
pub below-next : (image : ℕ → Option ℕ) (a : ℕ) → lines_below image (a + 1) ≡ lines_below image a ++ cond (begins_line image a) (line_at image a ∷ []) []
unfolding lines_below
below-next image a = rw add-one refl

-- the lines below an address are a front of all lines
below-front : (image : ℕ → Option ℕ) (n k : ℕ) → (rest : List ℕ) × (text_of_lines (lines_below image n) ++ rest ≡ text_of_lines (lines_below image (n + k)))
below-front image n zero = ([], append-nil _ ∙ ap (λ (m : ℕ). text_of_lines (lines_below image m)) (omega arith))
below-front image n (suc k) =
    let (rest, is) = below-front image n k in
    let next : n + suc k ≡ n + k + 1 = omega arith in
    (rest ++ text_of_lines (cond (begins_line image (n + k)) (line_at image (n + k) ∷ []) []), rw (next, below-next image (n + k), flat_map-append, ← is) (sym (append_assoc (text_of_lines (lines_below image n)) rest _)))

-- no line begins at an address without a byte
below-gap : (image : ℕ → Option ℕ) (n k : ℕ) → ((a : ℕ) → n ≤ a → a < n + k → image a ≡ None) → lines_below image (n + k) ≡ lines_below image n
below-gap image n zero none = ap (lines_below image) (omega arith)
below-gap image n (suc k) none =
    let next : n + suc k ≡ n + k + 1 = omega arith in
    rw (next, below-next image (n + k), none (n + k) (omega arith) (omega arith)) (append-nil _ ∙ below-gap image n k (λ a le lt. none a le (omega (arith, lt))))

-- Gathering of lines

-- what was sent, followed by what is gathered, is the text of the lines below an address
pub record IsGathered (old new : Taker) (image : ℕ → Option ℕ) (a : ℕ) (piece : List ℕ) : Type 0 where
  pub sent : List ℕ
  pub out : Sends old new sent
  pub joined : sent ++ piece ≡ text_of_lines (lines_below image a)

pub gathered-none : (a : Taker) (image : ℕ → Option ℕ) (n : ℕ) → ((a : ℕ) → a < n → image a ≡ None) → IsGathered a a image n []
unfolding lines_below
gathered-none a image n none =
    let whole : 0 + n ≡ n = omega arith in
    let none-below : lines_below image n ≡ [] = ap (lines_below image) (sym whole) ∙ below-gap image 0 n (λ a _ lt. none a (omega (arith, lt))) in
    record { sent = []; out = Sends-nil a; joined = ap text_of_lines (sym none-below) }

module _ {old mid : Taker} {image : ℕ → Option ℕ} {a : ℕ} {piece : List ℕ} (h : IsGathered old mid image a piece) where
  pub gathered-same : begins_line image a ≡ false → IsGathered old mid image (a + 1) piece
  gathered-same other = record { sent = h.sent; out = h.out; joined = rw (below-next image a, other) (h.joined ∙ ap text_of_lines (sym (append-nil _))) }

  pub gathered-more : (new : Taker) (slice after : List ℕ) → (sent : List ℕ) × Sends mid new sent × (sent ++ after ≡ piece ++ slice) → slice ≡ line_at image a ++ 10 ∷ []
      → begins_line image a ≡ true → IsGathered old new image (a + 1) after
  gathered-more new slice after (sent, out, joined) is begins = record {
    sent = h.sent ++ sent;
    out = Sends-then old mid new h.sent sent h.out out;
    joined =
        rw (append_assoc h.sent sent after, joined, ← append_assoc h.sent piece slice, h.joined, is, below-next image a, begins)
        (flat_map_more (λ (line : List ℕ). line ++ 10 ∷ []) [] (lines_below image a) (line_at image a));
  }

  -- the write of the gathered lines broke off
  pub gathered-broke : {T E : Type 0} (r : Result T E) (new : Taker) → IsErr r → Breaks mid new piece → a < ram_end → SendsOrBreaks old new r (object_text image)
  unfolding object_text
  gathered-broke r new err broke lt =
      let (rest, all) = below-front image a (ram_end - a) in
      let whole : a + (ram_end - a) ≡ ram_end = omega (arith, lt) in
      subst (SendsOrBreaks old new r) (ap (λ (l : List ℕ). l ++ rest) h.joined ∙ all ∙ ap (λ (n : ℕ). text_of_lines (lines_below image n)) whole)
      (broke_off old new r (h.sent ++ piece) rest err (Breaks-then old mid new h.sent piece h.out broke))

  -- the last lines gathered were sent
  pub gathered-all : {T E : Type 0} (r : Result T E) (new : Taker) (end : ℕ) → ((a : ℕ) → end ≤ a → image a ≡ None) → end ≤ a → end ≤ ram_end
      → SendsOrBreaks mid new r piece → SendsOrBreaks old new r (object_text image)
  unfolding object_text
  gathered-all r new end none following le last =
      subst (SendsOrBreaks old new r) (h.joined ∙ ap text_of_lines (same a following ∙ sym (same ram_end le))) (went_on old mid new r h.sent piece h.out last)
    where
      same : (k : ℕ) → end ≤ k → lines_below image k ≡ lines_below image end
      same k lt =
          let whole : end + (k - end) ≡ k = omega (arith, lt) in
          ap (lines_below image) (sym whole) ∙ below-gap image end (k - end) (λ a le _. none a le)
