-- A text that is sent in parts: the state after some of the parts.
use Rattle.std.proofs.Common.{◌≡◌, ℕ, List, [], ◌++◌, append_assoc, Result, Ok, Err, IsErr, refl, sym, ap, ◌∙◌}
use Rattle.std.proofs.lemmas.List.{append-nil}
use Rattle.a2_stream.specs.Stream.{Taker, Sends, Breaks, SendsOrBreaks}
use Rattle.a2_stream.proofs.Joined.{Sends-nil, Sends-then, Breaks-then, Breaks-more}

-- a prefix of the whole was sent, this rest is left, and no call failed
pub record IsLeft (old new : Taker) (whole rest : List ℕ) : Type 0 where
  pub sent : List ℕ
  pub sends : Sends old new sent
  pub parts : sent ++ rest ≡ whole

pub left_all : (a : Taker) (whole : List ℕ) → IsLeft a a whole whole
left_all a whole = record { sent = []; sends = Sends-nil a; parts = refl }

-- the next part was sent
pub left_more : (a b c : Taker) (whole rest part more : List ℕ) → rest ≡ part ++ more → IsLeft a b whole rest → Sends b c part → IsLeft a c whole more
left_more a b c whole rest part more is h p = record {
  sent = h.sent ++ part;
  sends = Sends-then a b c h.sent part h.sends p;
  parts = append_assoc h.sent part more ∙ ap (λ xs. h.sent ++ xs) (sym is) ∙ h.parts;
}

-- nothing is left
pub left_none : (a b : Taker) (whole rest : List ℕ) → rest ≡ [] → IsLeft a b whole rest → Sends a b whole
left_none a b whole rest is h = rw (← h.parts, is, append-nil) h.sends

-- sending the next part failed
pub left_broken : (a b c : Taker) (whole rest part more : List ℕ) → rest ≡ part ++ more → IsLeft a b whole rest → Breaks b c part → Breaks a c whole
left_broken a b c whole rest part more is h p =
    rw (← h.parts, is, ← append_assoc h.sent part more) (Breaks-more a c (h.sent ++ part) more (Breaks-then a b c h.sent part h.sends p))

pub left_broke_off : {T E : Type 0} → (a b c : Taker) (r : Result T E) (whole rest part more : List ℕ) → IsErr r
    → rest ≡ part ++ more → IsLeft a b whole rest → Breaks b c part → SendsOrBreaks a c r whole
left_broke_off a b c (Ok _) whole rest part more failed is h p = cc
left_broke_off a b c (Err _) whole rest part more failed is h p = left_broken a b c whole rest part more is h p
