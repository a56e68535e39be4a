-- Lines that are answered one after another.
use Rattle.std.specs.Prelude.{codes}
use Rattle.std.specs.Io.KnownBytes.{IsAtEnd}
use Rattle.std.proofs.Common.{◌≡◌, ℕ, List, [], ◌∷◌, ◌++◌, Option, Some, None, Result, Ok, Err, refl, sym, ap, ◌∙◌, subst, inl, inr}
use Rattle.std.proofs.lemmas.List.{append_assoc, append-nil}
use Rattle.a2_text.specs.Lines.{lines}
use Rattle.a2_stream.specs.Stream.{Taker, Giver, Sends, Breaks, SendsOrBreaks}
use Rattle.a2_stream.specs.declared.WriteFault.{WriteFault}
use Rattle.a2_stream.proofs.Joined.{Sends-nil, Sends-then, Breaks-then, Breaks-more}
use Rattle.a2_tty.specs.declared.session.fault.TalkFault.{TalkFault}
use Rattle.a2_tty.specs.declared.session.fault.TalkFault.TheVariants.{Read, Write, Endless}
use Rattle.a2_tty.specs.declared.session.hearing.Heard.{Heard}
use Rattle.a2_tty.specs.declared.session.hearing.Heard.TheVariants.{Line, Long, End}
use Rattle.a2_tty.specs.LineReading.{Loses, IsLineRead, IsTextOf}
use Rattle.a2_tty.specs.Turns.{RepliesTo, MeetsOr, AreAnswered, AnsweredLines, IsTalk, IsQuit, closing}

pub loses-nil : (a : Option (List ℕ)) → Loses a a []
loses-nil None = tt
loses-nil (Some input) = refl

pub loses-more : (a b c : Option (List ℕ)) (heard more : List (List ℕ)) → Loses a b heard → Loses b c more → Loses a c (heard ++ more)
loses-more None b c heard more p q = tt
loses-more (Some input) None c heard more p q = absurd p
loses-more (Some input) (Some rest) None heard more p q = absurd q
loses-more (Some input) (Some rest) (Some left) heard more p q = p ∙ ap (λ l. heard ++ l) q ∙ sym (append_assoc heard more (lines left))

module _ {S : Type 0} (Meets : List ℕ → S → List ℕ → S → Type 0) (prompt : List ℕ) where
  -- one more line
  answered-more : (heard : List (List ℕ)) (line output text : List ℕ) (old here new : S) → AreAnswered Meets prompt heard old output here → Meets line here text new
      → AreAnswered Meets prompt (heard ++ line ∷ []) old (output ++ (prompt ++ text)) new
  answered-more [] line output text old here new (none, same) meets =
      (text, new, [], subst (λ s. Meets line s text new) same meets, (refl, refl), ap (λ l. l ++ (prompt ++ text)) none ∙ ap (λ l. prompt ++ l) (sym (append-nil text)))
  answered-more (first ∷ others) line output text old here new (words, next, rest, meets, are, is) last = (
    words,
    next,
    rest ++ (prompt ++ text),
    meets,
    answered-more others line rest text next here new are last,
    ap (λ l. l ++ (prompt ++ text)) is ∙ append_assoc prompt (words ++ rest) (prompt ++ text) ∙ ap (λ l. prompt ++ l) (append_assoc words rest (prompt ++ text)),
  )

  -- the lines so far were answered
  pub record SoFar (old here : S) (from now : Giver) (before after : Taker) : Type 0 where
    pub told : AnsweredLines Meets prompt old here from.bytes now.bytes
    pub sent : Sends before after told.output
    pub counted : now.failures ≡ from.failures

  pub far-nil : (old : S) (from : Giver) (before : Taker) → SoFar old old from from before before
  far-nil old from before = record {
    told = record { heard = []; read = loses-nil from.bytes; output = []; answered = (refl, refl) };
    sent = Sends-nil before;
    counted = refl;
  }

  told-more : (old here new : S) (a b c : Option (List ℕ)) (line text : List ℕ) → AnsweredLines Meets prompt old here a b → Loses b c (line ∷ []) → Meets line here text new → AnsweredLines Meets prompt old new a c
  told-more old here new a b c line text told loses meets = record {
    heard = told.heard ++ line ∷ [];
    read = loses-more a b c told.heard (line ∷ []) told.read loses;
    output = told.output ++ (prompt ++ text);
    answered = answered-more told.heard line told.output text old here new told.answered meets;
  }

  pub far-more : (old here new : S) (from now next : Giver) (a b c d : Taker) (line : List ℕ) → SoFar old here from now a b → Sends b c prompt
      → Loses now.bytes next.bytes (line ∷ []) → next.failures ≡ now.failures → RepliesTo Meets line here new c d (Ok tt) → SoFar old new from next a d
  unfolding told-more
  far-more old here new from now next a b c d line far prompted loses counts (text, meets, sends) = record {
    told = told-more old here new from.bytes now.bytes next.bytes line text far.told loses meets;
    sent = Sends-then a b d far.told.output (prompt ++ text) far.sent (Sends-then b c d prompt text prompted sends);
    counted = counts ∙ far.counted;
  }

  -- writing the prompt failed
  pub broke-prompt : (old here : S) (from now : Giver) (a b c : Taker) → SoFar old here from now a b → Breaks b c prompt → IsTalk Meets prompt old here from now a c (Err Write)
  broke-prompt old here from now a b c far breaks =
      (far.told, Breaks-then a b c far.told.output (prompt ++ closing prompt) far.sent (Breaks-more b c prompt (closing prompt) breaks))

  -- a read failed after the prompt
  pub unread : (old here : S) (from now next : Giver) (a b c : Taker) → SoFar old here from now a b → Sends b c prompt → IsTalk Meets prompt old here from next a c (Err Read)
  unread old here from now next a b c far prompted = (now.bytes, far.told, Sends-then a b c far.told.output prompt far.sent prompted)

  pub endless-line : (old here : S) (from now next : Giver) (a b c : Taker) → SoFar old here from now a b → Sends b c prompt → IsTalk Meets prompt old here from next a c (Err Endless)
  endless-line old here from now next a b c far prompted = (now.bytes, far.told, prompt, Sends-then a b c far.told.output prompt far.sent prompted)

  -- it failed, for any reason except a write
  pub failed : (fault : TalkFault) (old here : S) (from now next : Giver) (a b c : Taker) → (fault ≡ Write → ⊥) → SoFar old here from now a b → Sends b c prompt
      → IsTalk Meets prompt old here from next a c (Err fault)
  failed Read old here from now next a b c other far prompted = unread old here from now next a b c far prompted
  failed Write old here from now next a b c other far prompted = absurd (other refl)
  failed Endless old here from now next a b c other far prompted = endless-line old here from now next a b c far prompted

  pub endless-lines : (old here : S) (from now : Giver) (a b : Taker) → SoFar old here from now a b → IsTalk Meets prompt old here from now a b (Err Endless)
  endless-lines old here from now a b far = (now.bytes, far.told, [], Sends-then a b b far.told.output [] far.sent (Sends-nil b))

  -- the end of the input
  end-told : (old here : S) (a b c : Option (List ℕ)) → AnsweredLines Meets prompt old here a b → Loses b c [] → AnsweredLines Meets prompt old here a c
  end-told old here a b c told loses = record {
    heard = told.heard ++ [];
    read = loses-more a b c told.heard [] told.read loses;
    output = told.output;
    answered = subst (λ l. AreAnswered Meets prompt l old told.output here) (sym (append-nil told.heard)) told.answered;
  }

  pub ended : (old here : S) (from now next : Giver) (a b c d : Taker) → SoFar old here from now a b → Sends b c prompt → Loses now.bytes next.bytes [] → IsAtEnd next.bytes
      → Sends c d (closing prompt) → IsTalk Meets prompt old here from next a d (Ok tt)
  unfolding end-told
  ended old here from now next a b c d far prompted loses end closes = inl (
    end-told old here from.bytes now.bytes next.bytes far.told loses,
    end,
    Sends-then a b d far.told.output (prompt ++ closing prompt) far.sent (Sends-then b c d prompt (closing prompt) prompted closes),
  )

  pub broke-end : (old here : S) (from now next : Giver) (a b c d : Taker) → SoFar old here from now a b → Sends b c prompt → Loses now.bytes next.bytes []
      → Breaks c d (closing prompt) → IsTalk Meets prompt old here from next a d (Err Write)
  unfolding end-told
  broke-end old here from now next a b c d far prompted loses breaks = (
    end-told old here from.bytes now.bytes next.bytes far.told loses,
    Breaks-then a b d far.told.output (prompt ++ closing prompt) far.sent (Breaks-then b c d prompt (closing prompt) prompted breaks),
  )

  pub heard-ended : (old here : S) (from now next : Giver) (a b c d : Taker) (heard : Heard) (kept text : List ℕ) → heard ≡ End → text ≡ closing prompt
      → SoFar old here from now a b → Sends b c prompt → IsLineRead now next heard kept → Sends c d text → IsTalk Meets prompt old here from next a d (Ok tt)
  heard-ended old here from now next a b c d heard kept text is told far prompted hears closes =
      let (loses, end) = subst (λ h. IsLineRead now next h kept) is hears in
      ended old here from now next a b c d far prompted loses end (subst (λ t. Sends c d t) told closes)

  pub heard-broke-end : (old here : S) (from now next : Giver) (a b c d : Taker) (heard : Heard) (kept text : List ℕ) → heard ≡ End → text ≡ closing prompt
      → SoFar old here from now a b → Sends b c prompt → IsLineRead now next heard kept → Breaks c d text → IsTalk Meets prompt old here from next a d (Err Write)
  heard-broke-end old here from now next a b c d heard kept text is told far prompted hears breaks =
      let (loses, end) = subst (λ h. IsLineRead now next h kept) is hears in
      broke-end old here from now next a b c d far prompted loses (subst (λ t. Breaks c d t) told breaks)

  -- a line that ends the session
  pub quits : (old here : S) (from now next : Giver) (a b c : Taker) (quit : List ℕ) → SoFar old here from now a b → Sends b c prompt → IsQuit quit
      → Loses now.bytes next.bytes (quit ∷ []) → IsTalk Meets prompt old here from next a c (Ok tt)
  quits old here from now next a b c quit far prompted is loses = inr (now.bytes, far.told, quit, is, loses, Sends-then a b c far.told.output prompt far.sent prompted)

  pub heard-quits : (old here : S) (from now next : Giver) (a b c : Taker) (heard : Heard) (kept : List ℕ) → heard ≡ Line → IsQuit kept
      → SoFar old here from now a b → Sends b c prompt → IsLineRead now next heard kept → IsTalk Meets prompt old here from next a c (Ok tt)
  heard-quits old here from now next a b c heard kept is quit far prompted hears =
      let (said, loses, texts) = subst (λ h. IsLineRead now next h kept) is hears in
      quits old here from now next a b c said far prompted (subst (λ l. IsQuit l) (sym texts.0) quit) loses

  -- writing an answer failed
  pub broke-answer : (old here new : S) (from now next : Giver) (a b c d : Taker) (line : List ℕ) (e : WriteFault) → SoFar old here from now a b → Sends b c prompt
      → Loses now.bytes next.bytes (line ∷ []) → RepliesTo Meets line here new c d (Err e) → IsTalk Meets prompt old new from next a d (Err Write)
  unfolding told-more
  broke-answer old here new from now next a b c d line e far prompted loses (text, meets, breaks) =
      let told = told-more old here new from.bytes now.bytes next.bytes line text far.told loses meets in (
        told,
        Breaks-more a d told.output (prompt ++ closing prompt)
            (Breaks-then a b d far.told.output (prompt ++ text) far.sent (Breaks-then b c d prompt text prompted breaks)),
      )

-- the reply to a line, and the message for a line that is too long
module _ {S : Type 0} (Meets : List ℕ → S → List ℕ → S → Type 0) where
  pub line-replied : (heard : Heard) (said kept : List ℕ) (old new : S) (a b : Taker) (r : Result (Unit {0}) WriteFault) → heard ≡ Line → IsTextOf heard said kept
      → RepliesTo Meets kept old new a b r → RepliesTo (MeetsOr Meets) said old new a b r
  line-replied heard said kept old new a b r is texts (text, meets, sends) =
      let (same, few) = subst (λ h. IsTextOf h said kept) is texts in
      (text, inl (few, subst (λ l. Meets l old text new) (sym same) meets), sends)

  pub long-told : (heard : Heard) (said kept : List ℕ) (old : S) (a b : Taker) (r : Result (Unit {0}) WriteFault) → (heard ≡ Line → ⊥) → IsTextOf heard said kept
      → SendsOrBreaks a b r (codes "LINE TOO LONG: AT MOST 255 BYTES\n") → RepliesTo (MeetsOr Meets) said old old a b r
  long-told Line said kept old a b r other texts sends = absurd (other refl)
  long-told Long said kept old a b r other texts sends = (codes "LINE TOO LONG: AT MOST 255 BYTES\n", inr (texts, refl, refl), sends)
  long-told End said kept old a b r other texts sends = absurd texts
