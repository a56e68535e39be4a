-- The steps of a run that is filmed, one after another.
use Rattle.std.specs.Prelude.{◌≡◌, ℕ, suc, true, List, [], ◌++◌, IsErr, IfOk, Result, Ok, Err}
use Rattle.std.proofs.Common.{sym, ap, ◌∙◌, subst, append_assoc}
use Rattle.std.proofs.lemmas.List.{append-nil}
use Rattle.a2_stream.specs.Stream.{Taker, Sends, Breaks, SendsOrBreaks}
use Rattle.a2_stream.proofs.Joined.{Sends-nil, Sends-then, Breaks-then, Breaks-more}
use Rattle.a2_stream.specs.declared.WriteFault.{WriteFault}
use Rattle.a2_services.specs.World.{World}
use Rattle.a2_machine.specs.declared.causes.Cause.{Cause}
use Rattle.a2_machine.specs.Output.{cause_line}
use Rattle.a2_film.specs.Changes.{change_of}
use Rattle.a2_film.specs.Rows.{row_text}
use Rattle.a2_film.specs.Runs.{Part, lines_of}
use Rattle.a2_film.specs.Filmed.{Rest, with_row, only, IsFilmStep, FilmsStep}

-- some rows of a part were written, and others are kept; then this part is left
pub record IsFilmed (a b : Taker) (whole left : Part) (kept : List ℕ) : Type 0 where
  pub out : List ℕ
  pub sent : Sends a b out
  pub whole_is : whole ≡ with_row (out ++ kept) left

pub filmed-none : (a : Taker) (whole : Part) (kept : List ℕ) → kept ≡ [] → IsFilmed a a whole whole kept
filmed-none a whole kept none = record {
  out = [];
  sent = Sends-nil a;
  whole_is = ap (λ (l : List ℕ). with_row l whole) (sym none);
}

-- a step was executed, and its row is kept
pub filmed-next : (a b : Taker) (whole : Part) (was is : Rest) (n m : ℕ) (kept after : List ℕ) → n ≡ suc m
    → IsFilmed a b whole (was n) kept → FilmsStep was is kept after true → IsFilmed a b whole (is m) after
filmed-next a b whole was is n m kept after less h (row, all, rest) = record {
  out = h.out;
  sent = h.sent;
  whole_is = h.whole_is ∙ ap (λ (p : Part). with_row (h.out ++ kept) p) (ap was less ∙ rest m)
      ∙ ap (λ (l : List ℕ). record (is m) { rows = l }) (sym (append_assoc (h.out ++ kept) row (is m).rows))
      ∙ ap (λ (l : List ℕ). with_row l (is m)) (append_assoc h.out kept row ∙ ap (λ (l : List ℕ). h.out ++ l) (sym all));
}

-- rows that were kept are written
pub filmed-handed : (a b c : Taker) (whole left : Part) (kept more : List ℕ) → IsFilmed a b whole left kept
    → ((sent : List ℕ) × (kept ≡ sent ++ more) × Sends b c sent) → IsFilmed a c whole left more
filmed-handed a b c whole left kept more h (sent, parts, out) = record {
  out = h.out ++ sent;
  sent = Sends-then a b c h.out sent h.sent out;
  whole_is = h.whole_is ∙ ap (λ (l : List ℕ). with_row l left)
      (ap (λ (l : List ℕ). h.out ++ l) parts ∙ sym (append_assoc h.out sent more));
}

-- the rest of the rows is written with the cause line, or a write fails
pub films-end : (a b c : Taker) (whole left : Part) (kept : List ℕ) (cause : Cause) (r : Result Cause WriteFault)
    → IsFilmed a b whole left kept → left ≡ only cause → SendsOrBreaks b c r (kept ++ cause_line cause)
    → SendsOrBreaks a c r (lines_of whole)
films-end a b c whole left kept cause r h none sent =
    subst (λ (p : Part). SendsOrBreaks a c r (lines_of p)) (sym (h.whole_is ∙ ap (λ (p : Part). with_row (h.out ++ kept) p) none))
    (subst (λ (l : List ℕ). SendsOrBreaks a c r (l ++ cause_line cause)) (sym (append-nil (h.out ++ kept)))
    (subst (λ (l : List ℕ). SendsOrBreaks a c r l) (sym (append_assoc h.out kept (cause_line cause))) (go r sent)))
  where
    go : (r : Result Cause WriteFault) → SendsOrBreaks b c r (kept ++ cause_line cause)
        → SendsOrBreaks a c r (h.out ++ (kept ++ cause_line cause))
    go (Ok told) out = Sends-then a b c _ _ h.sent out
    go (Err _) broke = Breaks-then a b c _ _ h.sent broke

pub end-cause : (a b : Taker) (whole left : Part) (kept : List ℕ) (cause : Cause) (r : Result Cause WriteFault)
    → IsFilmed a b whole left kept → left ≡ only cause → IfOk r (λ told. told ≡ cause) → IfOk r (λ told. told ≡ whole.cause)
end-cause a b whole left kept cause (Ok told) h none is = is ∙ sym (ap (λ (p : Part). p.cause) (h.whole_is ∙ ap (λ (p : Part). with_row (h.out ++ kept) p) none))
end-cause a b whole left kept cause (Err _) h none is = is

-- the write of a row failed
pub films-broken : (a b c : Taker) (whole left : Part) (kept : List ℕ) (r : Result Cause WriteFault) → IsErr r
    → IsFilmed a b whole left kept → Breaks b c kept → SendsOrBreaks a c r (lines_of whole)
films-broken a b c whole left kept (Ok _) failed h broke = cc
films-broken a b c whole left kept (Err _) failed h broke =
    subst (λ (p : Part). Breaks a c (lines_of p)) (sym h.whole_is)
    (Breaks-more a c ((h.out ++ kept) ++ left.rows) (cause_line left.cause)
    (Breaks-more a c (h.out ++ kept) left.rows (Breaks-then a b c _ _ h.sent broke)))

-- a step was executed
pub film-made : (before after : World) (was is : Rest) (count : ℕ) (rows all : List ℕ) (h : IsFilmStep before after was is count)
    → all ≡ rows ++ row_text (change_of before h.keys after) → FilmsStep was is rows all true
film-made before after was is count rows all h e = (row_text (change_of before h.keys after), e, h.row)
