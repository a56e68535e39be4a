-- The lines of a script have answers, one after another.
use Rattle.std.specs.Prelude.{IsErr}
use Rattle.std.proofs.Common.{◌≡◌, ℕ, ◌+◌, ◌<◌, ◌≤◌, List, [], ◌∷◌, ◌++◌, length, map, drop, get_or, Result, Ok, Err, refl, sym, ap₂, ◌∙◌, subst, arith}
use Rattle.std.specs.Borrow.{Bor}
use Rattle.std.proofs.lemmas.List.{append_assoc, append-nil, length-map, get_or-map, drop_more, drop_all}
use Rattle.a2_stream.specs.Stream.{Taker, Sends, Breaks}
use Rattle.a2_stream.proofs.Joined.{Sends-nil, Sends-then, Breaks-then, Breaks-more}
use Rattle.a2_stream.specs.declared.WriteFault.{WriteFault}
use Rattle.a2_scripts.specs.Replies.{echo, AreReplied, AnswersEach, RepliesTo, RepliesToAll}

-- if states that are alike have the same text for a line, and leave states that are alike, they have the same text for
-- all lines
module _ {S : Type 0} (Meets : List ℕ → S → List ℕ → S → Type 0) (mark : List ℕ) (Alike : S → S → Type 0)
    (one : (line text words : List ℕ) (old other new next : S) → Alike old other → Meets line old text new → Meets line other words next
    → (text ≡ words) × Alike new next) where
  pub all_one : (lines : List (List ℕ)) (old other : S) (output another : List ℕ) → Alike old other
      → AreReplied Meets mark lines old output → AreReplied Meets mark lines other another → output ≡ another
  all_one [] old other output another alike a b = a ∙ sym b
  all_one (line ∷ others) old other output another alike (text, new, rest, meets, are, is) (words, next, left, met, were, was) =
      let (same, after) = one line text words old other new next alike meets met in
      is ∙ ap₂ (λ t r. echo mark line ++ (t ++ r)) same (all_one others new next rest left after are were) ∙ sym was

-- what was sent so far, followed by the answers to the lines left, answers all lines; and P holds in the current state
pub record IsFront {S : Type 0} (Meets : List ℕ → S → List ℕ → S → Type 0) (mark : List ℕ) (P : S → Type 0) (lines left : List (List ℕ)) (start here : S) (a b : Taker) : Type 0 where
  pub text : List ℕ
  pub sent : Sends a b text
  pub whole : (rest : List ℕ) → AreReplied Meets mark left here rest → AreReplied Meets mark lines start (text ++ rest)
  pub holds : P here

module _ {S : Type 0} {Meets : List ℕ → S → List ℕ → S → Type 0} {mark : List ℕ} {P : S → Type 0} {lines : List (List ℕ)} {start : S} {a : Taker} where
  pub front-nil : P start → IsFront Meets mark P lines lines start start a a
  front-nil holds = record { text = []; sent = Sends-nil a; whole = λ rest are. are; holds = holds }

  pub front-all : {here : S} {b : Taker} → IsFront Meets mark P lines [] start here a b → (output : List ℕ) × AreReplied Meets mark lines start output × Sends a b output
  front-all front = (front.text, rw append-nil at (front.whole [] refl), front.sent)

-- each line has a text if P holds
module _ {S : Type 0} (Meets : List ℕ → S → List ℕ → S → Type 0) (mark : List ℕ) (P : S → Type 0) (each : AnswersEach Meets P) where
  pub all_met : (lines : List (List ℕ)) (old : S) → P old → (output : List ℕ) × AreReplied Meets mark lines old output
  all_met [] old holds = ([], refl)
  all_met (line ∷ others) old holds =
      let (text, new, meets) = each.text line old holds in
      let (rest, are) = all_met others new (each.stays line old text new meets holds) in
      (echo mark line ++ (text ++ rest), (text, new, rest, meets, are, refl))

abbrev now : Bor (List ℕ) → List ℕ
now x = x.now

-- the lines of a slice that are left, given the first of them
module _ {S : Type 0} {Meets : List ℕ → S → List ℕ → S → Type 0} {mark : List ℕ} {P : S → Type 0} {start here : S} {a b : Taker} (items : List (Bor (List ℕ))) (i : ℕ)
    (front : IsFront Meets mark P (map now items) (drop i (map now items)) start here a b) where
  pub none-left : length items ≤ i → IsFront Meets mark P (map now items) [] start here a b
  none-left high =
      let n = length-map items now in
      subst (λ left. IsFront Meets mark P (map now items) left start here a b) (drop_all i (map now items) (omega (arith, n, high))) front

  module _ (each : AnswersEach Meets P) (d : Bor (List ℕ)) (low : i < length items) where
    abbrev line : List ℕ
    line = (get_or items i d).now

    -- with the text of the first line, whatever answers the others answers all
    following : (text rest : List ℕ) (next : S) → Meets line here text next → AreReplied Meets mark (drop (i + 1) (map now items)) next rest
        → AreReplied Meets mark (map now items) start (front.text ++ (echo mark line ++ (text ++ rest)))
    following text rest next meets are =
        let n = length-map items now in
        front.whole _ (rw (drop_more (map now items) i [] (omega (arith, n, low)), get_or-map now items i d [] low) (text, next, rest, meets, are, refl))

    pub front-more : {next : S} {c e : Taker} → Sends b c (echo mark line) → RepliesTo Meets line here next c e (Ok tt)
        → IsFront Meets mark P (map now items) (drop (i + 1) (map now items)) start next a e
    front-more {next = next} {c = c} {e = e} echoed (text, meets, sends) = record {
      text = front.text ++ (echo mark line ++ text);
      sent = Sends-then a b e front.text (echo mark line ++ text) front.sent (Sends-then b c e (echo mark line) text echoed sends);
      whole = λ rest are. rw (append_assoc front.text (echo mark line ++ text) rest, append_assoc (echo mark line) text rest) (following text rest next meets are);
      holds = each.stays line here text next meets front.holds;
    }

    -- if a write failed, the lines left have answers all the same
    pub front-broke-echo : {c : Taker} (answer : Result (Unit {0}) WriteFault) → IsErr answer → Breaks b c (echo mark line) → RepliesToAll Meets mark (map now items) start a c answer
    front-broke-echo (Ok _) failed breaks = cc
    front-broke-echo {c = c} (Err _) failed breaks =
        let (text, next, meets) = each.text line here front.holds in
        let (rest, are) = all_met Meets mark P each (drop (i + 1) (map now items)) next (each.stays line here text next meets front.holds) in (
          front.text ++ (echo mark line ++ (text ++ rest)),
          following text rest next meets are,
          Breaks-then a b c front.text (echo mark line ++ (text ++ rest)) front.sent (Breaks-more b c (echo mark line) (text ++ rest) breaks),
        )

    pub front-broke : {next : S} {c e : Taker} (answer : Result (Unit {0}) WriteFault) {fault : WriteFault} → IsErr answer → Sends b c (echo mark line) → RepliesTo Meets line here next c e (Err fault)
        → RepliesToAll Meets mark (map now items) start a e answer
    front-broke (Ok _) failed echoed replies = cc
    front-broke {next = next} {c = c} {e = e} (Err _) failed echoed (text, meets, breaks) =
        let (rest, are) = all_met Meets mark P each (drop (i + 1) (map now items)) next (each.stays line here text next meets front.holds) in (
          front.text ++ (echo mark line ++ (text ++ rest)),
          following text rest next meets are,
          Breaks-then a b e front.text (echo mark line ++ (text ++ rest)) front.sent (Breaks-then b c e (echo mark line) (text ++ rest) echoed (Breaks-more c e text rest breaks)),
        )
