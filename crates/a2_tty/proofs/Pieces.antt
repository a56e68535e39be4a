-- A piece of an input is a line of it.
use Rattle.std.specs.Prelude.{All}
use Rattle.std.specs.Io.KnownBytes.{Consumes, IsAtEnd}
use Rattle.std.specs.List.{slice_split}
use Rattle.std.specs.Str.Lines.{strip_carriage_return}
use Rattle.std.proofs.Common.{◌≡◌, ℕ, ◌+◌, ◌-◌, ◌<◌, ◌≤◌, Bool, true, false, if◌then◌else◌, eqb, List, [], ◌∷◌, ◌++◌, length, take, get_or, Option, Some, None, Ok, refl, sym, ap, ◌∙◌, subst, inl, inr, arith, length-take, length-append}
use Rattle.std.proofs.KnownBytes.{Consumes-nil, Consumes-trans}
use Rattle.std.proofs.lemmas.Bool.{cond-false, ne_eqb, cases_lt}
use Rattle.std.proofs.lemmas.List.{nil_from_length, append-nil, append_assoc, take_all, take-append-le}
use Rattle.std.proofs.lemmas.List.Splits.{slice_split_at, slice_split_none}
use Rattle.std.proofs.lemmas.List.Elements.{All-nil, All-cons, All-append}
use Rattle.a2_text.specs.Lines.{lines, lines_of_pieces}
use Rattle.a2_text.proofs.Cutting.{slice_split-some, lines_of_pieces-cons}
use Rattle.a2_stream.specs.Stream.{Giver, Reads}
use Rattle.a2_stream.specs.declared.ReadFault.{ReadFault}
use Rattle.a2_tty.specs.declared.session.hearing.Ending.{Ending}
use Rattle.a2_tty.specs.declared.session.hearing.Ending.TheVariants.{Feed, Input}
use Rattle.a2_tty.specs.declared.session.hearing.Heard.{Heard}
use Rattle.a2_tty.specs.declared.session.hearing.Heard.TheVariants.{Line, Long, End}
use Rattle.a2_tty.specs.LineReading.{Loses, IsPiece, IsLineRead, IsTextOf}

abbrev pub Plain : List ℕ → Type 0
Plain piece = All (λ c. eqb c 10 ≡ false) piece

-- one more byte
pub plain-more : (piece : List ℕ) (c : ℕ) → Plain piece → eqb c 10 ≡ false → Plain (piece ++ c ∷ [])
plain-more piece c plain other = All-append (λ c. eqb c 10 ≡ false) piece (c ∷ []) plain (All-cons (λ c. eqb c 10 ≡ false) c [] other (All-nil (λ c. eqb c 10 ≡ false)))

-- what is kept, with one more byte
pub kept-more : (kept piece : List ℕ) (c : ℕ) → kept ≡ take 257 piece → length kept < 257 → kept ++ c ∷ [] ≡ take 257 (piece ++ c ∷ [])
kept-more kept piece c is room =
    let short : length piece < 257 = omega (arith, ap length is, length-take 257 piece) in
    ap (λ l. l ++ c ∷ []) (is ∙ take_all 257 piece (omega arith)) ∙ sym (take_all 257 (piece ++ c ∷ []) (omega (arith, length-append piece (c ∷ []))))

pub kept-full : (kept piece : List ℕ) (c : ℕ) → kept ≡ take 257 piece → 257 ≤ length kept → kept ≡ take 257 (piece ++ c ∷ [])
kept-full kept piece c is full =
    let long : 257 ≤ length piece = omega (arith, ap length is, length-take 257 piece) in
    is ∙ sym (take-append-le 257 piece (c ∷ []) long)

kept-longer : (kept longer piece : List ℕ) (c : ℕ) → kept ≡ take 257 piece → (length kept < 257 → longer ≡ kept ++ c ∷ []) → (257 ≤ length kept → longer ≡ kept) → longer ≡ take 257 (piece ++ c ∷ [])
kept-longer kept longer piece c is room full =
    elim (cases_lt (length kept) 257) [
      | inl short ↦ room short ∙ kept-more kept piece c is short
      | inr long ↦ full long ∙ kept-full kept piece c is long
    ]

-- a piece before a line feed
pub piece-loses : (old new : Option (List ℕ)) (piece : List ℕ) → Plain piece → Consumes old new (piece ++ 10 ∷ []) → Loses old new (strip_carriage_return piece ∷ [])
piece-loses None new piece plain came = tt
piece-loses (Some input) None piece plain came = absurd came
piece-loses (Some input) (Some rest) piece plain came =
    let s = slice_split-some rest in
    let whole : input ≡ piece ++ 10 ∷ rest = came ∙ append_assoc piece (10 ∷ []) rest in
    ap lines whole ∙ ap lines_of_pieces (slice_split_at (λ c. eqb c 10) piece 10 rest plain refl) ∙ lines_of_pieces-cons piece (slice_split (λ c. eqb c 10) rest) s.1 s.0 s.2

-- the last piece, and none
pub last-loses : (old new : Option (List ℕ)) (piece : List ℕ) → Plain piece → 0 < length piece → Consumes old new (piece ++ []) → IsAtEnd new → Loses old new (strip_carriage_return piece ∷ [])
last-loses None new piece plain some came end = tt
last-loses (Some input) None piece plain some came end = absurd came
last-loses (Some input) (Some rest) piece plain some came end =
    let whole : input ≡ piece = came ∙ ap (λ l. (piece ++ []) ++ l) end ∙ append-nil (piece ++ []) ∙ append-nil piece in
    let one : lines_of_pieces (piece ∷ []) ≡ strip_carriage_return piece ∷ [] =
    cond-false (eqb (length piece) 0) [] (strip_carriage_return piece ∷ []) (ne_eqb (length piece) 0 (λ e. absurd (omega arith))) in
    ap lines whole ∙ ap lines_of_pieces (slice_split_none (λ c. eqb c 10) piece plain) ∙ one ∙ ap (λ l. strip_carriage_return piece ∷ lines l) (sym end)

pub end-loses : (old new : Option (List ℕ)) (piece : List ℕ) → piece ≡ [] → Consumes old new (piece ++ []) → Loses old new []
end-loses None new piece none came = tt
end-loses (Some input) None piece none came = absurd came
end-loses (Some input) (Some rest) piece none came = ap lines (came ∙ ap (λ l. (l ++ []) ++ rest) none)

-- how much shorter a piece is without a carriage return
if-shorter : (is : Bool) (l : List ℕ) → length l ≤ length (if is then take (length l - 1) l else l) + 1
if-shorter true l = omega (arith, length-take (length l - 1) l)
if-shorter false l = omega arith

if-no-longer : (is : Bool) (l : List ℕ) → length (if is then take (length l - 1) l else l) ≤ length l
if-no-longer true l = omega (arith, length-take (length l - 1) l)
if-no-longer false l = omega arith

strip-shorter : (l : List ℕ) → length l ≤ length (strip_carriage_return l) + 1
strip-shorter l = if-shorter (eqb (get_or l (length l - 1) 0) 13) l

strip-no-longer : (l : List ℕ) → length (strip_carriage_return l) ≤ length l
strip-no-longer l = if-no-longer (eqb (get_or l (length l - 1) 0) 13) l

-- a line that is kept completely, and one that is too long
pub kept-whole : (piece kept line : List ℕ) → kept ≡ take 257 piece → line ≡ strip_carriage_return kept → length line ≤ 255 → strip_carriage_return piece ≡ line
kept-whole piece kept line is stripped few =
    let short : length piece ≤ 257 = omega (arith, ap length is, ap length stripped, length-take 257 piece, strip-shorter kept) in
    sym (stripped ∙ ap strip_carriage_return (is ∙ take_all 257 piece (omega arith)))

pub kept-long : (piece kept line : List ℕ) → kept ≡ take 257 piece → line ≡ strip_carriage_return kept → 255 < length line → 255 < length (strip_carriage_return piece)
kept-long piece kept line is stripped many =
    elim (cases_lt 257 (length piece)) [
      | inl more ↦ omega (arith, more, strip-shorter piece)
      | inr few ↦
          let same : line ≡ strip_carriage_return piece = stripped ∙ ap strip_carriage_return (is ∙ take_all 257 piece few) in
          subst (λ (l : List ℕ). 255 < length l) same many
    ]

-- the part of a piece that was read so far
pub record IsFront (old now : Giver) (kept : List ℕ) : Type 0 where
  pub piece : List ℕ
  pub plain : Plain piece
  pub came : Consumes old.bytes now.bytes piece
  pub front : kept ≡ take 257 piece
  pub counted : now.failures ≡ old.failures

pub front-nil : (old : Giver) (kept : List ℕ) → kept ≡ [] → IsFront old old kept
front-nil old kept none = record { piece = []; plain = All-nil (λ c. eqb c 10 ≡ false); came = Consumes-nil old.bytes; front = none; counted = refl }

-- a read of one byte gives that byte, or none
one-byte : (buffer : List ℕ) (n : ℕ) → length buffer ≡ 1 → n ≤ length buffer → (n ≡ 0 → ⊥) → take n buffer ≡ get_or buffer 0 0 ∷ []
one-byte [] n one low some = absurd (omega (arith, one))
one-byte (b ∷ []) n one low some =
    let is : n ≡ 1 = omega (arith, low, some) in
    ap (λ k. take k (b ∷ [])) is
one-byte (b ∷ c ∷ more) n one low some = absurd (omega (arith, one))

-- another byte was read
pub front-more : (old now next : Giver) (kept longer buffer : List ℕ) (n : ℕ) → IsFront old now kept → Reads {E = ReadFault} now next (Ok n) buffer → length buffer ≡ 1 → (n ≡ 0 → ⊥)
    → (get_or buffer 0 0 ≡ 10 → ⊥) → (length kept < 257 → longer ≡ kept ++ get_or buffer 0 0 ∷ []) → (257 ≤ length kept → longer ≡ kept) → IsFront old next longer
front-more old now next kept longer buffer n far (low, came, end, counts) one some other room full =
    let byte = get_or buffer 0 0 in
    record {
      piece = far.piece ++ byte ∷ [];
      plain = plain-more far.piece byte far.plain (ne_eqb byte 10 other);
      came = Consumes-trans old.bytes now.bytes next.bytes far.piece (byte ∷ []) far.came (subst (Consumes now.bytes next.bytes) (one-byte buffer n one low some) came);
      front = kept-longer kept longer far.piece byte far.front room full;
      counted = counts ∙ far.counted;
    }

-- a line feed or the end of the input was reached
pub feed-came : (old now next : Giver) (kept buffer : List ℕ) (n : ℕ) → IsFront old now kept → Reads {E = ReadFault} now next (Ok n) buffer → length buffer ≡ 1 → (n ≡ 0 → ⊥)
    → get_or buffer 0 0 ≡ 10 → IsPiece old next Feed kept
feed-came old now next kept buffer n far (low, came, end, counts) one some is = record {
  piece = far.piece;
  plain = far.plain;
  came = Consumes-trans old.bytes now.bytes next.bytes far.piece (10 ∷ []) far.came
      (subst (Consumes now.bytes next.bytes) (one-byte buffer n one low some ∙ ap (λ c. c ∷ []) is) came);
  end = tt;
  front = far.front;
}

pub end-came : (old now next : Giver) (kept buffer : List ℕ) (n : ℕ) → IsFront old now kept → Reads {E = ReadFault} now next (Ok n) buffer → length buffer ≡ 1 → n ≡ 0 → IsPiece old next Input kept
end-came old now next kept buffer n far (low, came, end, counts) one none = record {
  piece = far.piece;
  plain = far.plain;
  came = Consumes-trans old.bytes now.bytes next.bytes far.piece [] far.came (subst (Consumes now.bytes next.bytes) (ap (λ k. take k buffer) none) came);
  end = end none (omega (arith, one));
  front = far.front;
}

-- the end of the input

pub heard-end : (old new : Giver) (ending : Ending) (kept : List ℕ) → IsPiece old new ending kept → ending ≡ Input → kept ≡ [] → IsLineRead old new End kept
heard-end old new Feed kept p is none = absurd (feed≢input is)
  where
    feed≢input : Feed ≡ Input → ⊥
    feed≢input h = cc
heard-end old new Input kept p is none =
    let empty : p.piece ≡ [] = nil_from_length p.piece (omega (arith, ap length (sym none ∙ p.front), length-take 257 p.piece)) in
    (end-loses old.bytes new.bytes p.piece empty p.came, p.end)

said-loses : (old new : Giver) (ending : Ending) (kept : List ℕ) (p : IsPiece old new ending kept) → ((ending ≡ Input) × (kept ≡ []) → ⊥)
    → Loses old.bytes new.bytes (strip_carriage_return p.piece ∷ [])
said-loses old new Feed kept p some = piece-loses old.bytes new.bytes p.piece p.plain p.came
said-loses old new Input kept p some =
    elim (cases_lt 0 (length p.piece)) [
      | inl more ↦ last-loses old.bytes new.bytes p.piece p.plain more p.came p.end
      | inr none ↦
          let empty : p.piece ≡ [] = nil_from_length p.piece (omega (arith, none)) in
          absurd (some (refl, p.front ∙ ap (take 257) empty))
    ]

pub heard-line : (old new : Giver) (ending : Ending) (kept line : List ℕ) → IsPiece old new ending kept → ((ending ≡ Input) × (kept ≡ []) → ⊥) → line ≡ strip_carriage_return kept
    → length line ≤ 255 → IsLineRead old new Line line
heard-line old new ending kept line p some stripped few =
    let whole = kept-whole p.piece kept line p.front stripped few in
    (line, subst (λ l. Loses old.bytes new.bytes (l ∷ [])) whole (said-loses old new ending kept p some), (refl, few))

pub heard-long : (old new : Giver) (ending : Ending) (kept line : List ℕ) → IsPiece old new ending kept → ((ending ≡ Input) × (kept ≡ []) → ⊥) → line ≡ strip_carriage_return kept
    → 255 < length line → IsLineRead old new Long line
heard-long old new ending kept line p some stripped many =
    (strip_carriage_return p.piece, said-loses old new ending kept p some, kept-long p.piece kept line p.front stripped many)

-- a line, if it is not the end of the input
pub heard-some : (old new : Giver) (heard : Heard) (kept : List ℕ) → (heard ≡ End → ⊥) → IsLineRead old new heard kept
    → (said : List ℕ) × Loses old.bytes new.bytes (said ∷ []) × IsTextOf heard said kept
heard-some old new Line kept other h = h
heard-some old new Long kept other h = h
heard-some old new End kept other h = absurd (other refl)
