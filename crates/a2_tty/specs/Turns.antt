-- A session: lines that are answered one after another, each after a prompt. This project's profile.
use Rattle.std.specs.Prelude.{◌≡◌, ◌⊎◌, ℕ, ◌<◌, ◌≤◌, ◌==◌, List, [], ◌∷◌, ◌++◌, length, map, codes, Option, Result, Ok, Err, if◌then◌else◌}
use Rattle.std.specs.Io.KnownBytes.{IsAtEnd}
use Rattle.a2_text.specs.Bytes.{capital}
use Rattle.a2_stream.specs.Stream.{Taker, Giver, Sends, Breaks, SendsOrBreaks}
use Rattle.a2_stream.specs.declared.WriteFault.{WriteFault}
use Rattle.a2_tty.specs.declared.session.fault.TalkFault.{TalkFault}
use Rattle.a2_tty.specs.declared.session.fault.TalkFault.TheVariants.{Read, Write, Endless}
use Rattle.a2_tty.specs.LineReading.{Loses}

-- the result of the call for one line; `Meets line old text new` states which text answers a line, and the state after
-- it
abbrev pub RepliesTo : {S : Type 0} → (List ℕ → S → List ℕ → S → Type 0) → List ℕ → S → S → Taker → Taker → Result (Unit {0}) WriteFault → Type 0
RepliesTo Meets line old new before after answer = (text : List ℕ) × Meets line old text new × SendsOrBreaks before after answer text

-- the same, but a line of more than 255 bytes is reported as too long, and changes nothing
abbrev pub MeetsOr : {S : Type 0} → (List ℕ → S → List ℕ → S → Type 0) → List ℕ → S → List ℕ → S → Type 0
MeetsOr Meets line old text new =
    ((length line ≤ 255) × Meets line old text new)
    ⊎ ((255 < length line) × (text ≡ codes "LINE TOO LONG: AT MOST 255 BYTES\n") × (new ≡ old))

-- these lines, one after another, each after a prompt
abbrev pub AreAnswered : {S : Type 0} → (List ℕ → S → List ℕ → S → Type 0) → List ℕ → List (List ℕ) → S → List ℕ → S → Type 0
AreAnswered Meets prompt [] old output new = (output ≡ []) × (new ≡ old)
AreAnswered {S} Meets prompt (line ∷ others) old output new =
    (text : List ℕ) × (next : S) × (rest : List ℕ) × Meets line old text next × AreAnswered Meets prompt others next rest new
    × (output ≡ prompt ++ (text ++ rest))

-- the text after the last prompt: a line feed, if the prompt is not empty
abbrev pub closing : List ℕ → List ℕ
closing prompt = if length prompt == 0 then [] else codes "\n"

-- a line ends the session
abbrev pub IsQuit : List ℕ → Type 0
IsQuit line = map capital line ≡ codes "QUIT"

-- the lines that were read, with nothing after them, and the output that answers them
pub record AnsweredLines {S : Type 0} (Meets : List ℕ → S → List ℕ → S → Type 0) (prompt : List ℕ) (old new : S) (from to : Option (List ℕ)) : Type 0 where
  pub heard : List (List ℕ)
  pub read : Loses from to heard
  pub output : List ℕ
  pub answered : AreAnswered Meets prompt heard old output new

-- the lines of an input, the last of which may be QUIT, are answered. If a write failed, a prefix of the output was
-- written; if a read failed, the lines before it were answered.
abbrev pub IsTalk : {S : Type 0} → (List ℕ → S → List ℕ → S → Type 0) → List ℕ → S → S → Giver → Giver → Taker → Taker → Result (Unit {0}) TalkFault → Type 0
IsTalk Meets prompt old new from to before after (Ok _) =
    ((told : AnsweredLines Meets prompt old new from.bytes to.bytes) × IsAtEnd to.bytes × Sends before after (told.output ++ (prompt ++ closing prompt)))
    ⊎ ((between : Option (List ℕ)) × (told : AnsweredLines Meets prompt old new from.bytes between) × (quit : List ℕ) × IsQuit quit × Loses between to.bytes (quit ∷ [])
    × Sends before after (told.output ++ prompt))
IsTalk Meets prompt old new from to before after (Err Write) =
    (told : AnsweredLines Meets prompt old new from.bytes to.bytes) × Breaks before after (told.output ++ (prompt ++ closing prompt))
IsTalk Meets prompt old new from to before after (Err Read) =
    (between : Option (List ℕ)) × (told : AnsweredLines Meets prompt old new from.bytes between) × Sends before after (told.output ++ prompt)
IsTalk Meets prompt old new from to before after (Err Endless) =
    (between : Option (List ℕ)) × (told : AnsweredLines Meets prompt old new from.bytes between) × (front : List ℕ) × Sends before after (told.output ++ front)
