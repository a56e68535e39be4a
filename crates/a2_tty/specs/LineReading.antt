-- The lines that are read from an input, one by one.
use Rattle.std.specs.Prelude.{◌≡◌, ℕ, ◌<◌, ◌≤◌, ◌==◌, Bool, true, false, List, [], ◌∷◌, ◌++◌, length, take, All, Option, Some, None, Result, Err}
use Rattle.std.specs.Io.KnownBytes.{Consumes, IsAtEnd}
use Rattle.a2_text.specs.Lines.{lines}
use Rattle.a2_stream.specs.Stream.{Giver}
use Rattle.a2_tty.specs.declared.session.fault.TalkFault.{TalkFault}
use Rattle.a2_tty.specs.declared.session.fault.TalkFault.TheVariants.{Read}
use Rattle.a2_tty.specs.declared.session.hearing.Ending.{Ending}
use Rattle.a2_tty.specs.declared.session.hearing.Ending.TheVariants.{Feed, Input}
use Rattle.a2_tty.specs.declared.session.hearing.Heard.{Heard}
use Rattle.a2_tty.specs.declared.session.hearing.Heard.TheVariants.{Line, Long, End}

-- a read failed
abbrev pub is_unread : {T : Type 0} → Result T TalkFault → Bool
is_unread (Err Read) = true
is_unread _ = false

-- the bytes that end a piece
abbrev pub ending_bytes : Ending → List ℕ
ending_bytes Feed = 10 ∷ []
ending_bytes Input = []

-- nothing is left after the end of an input
abbrev pub EndsThere : Ending → Option (List ℕ) → Type 0
EndsThere Feed new = Unit {0}
EndsThere Input new = IsAtEnd new

-- a piece without line feeds was read, and what ends it; the first bytes of the piece are kept
pub record IsPiece (old new : Giver) (ending : Ending) (kept : List ℕ) : Type 0 where
  pub piece : List ℕ
  pub plain : All (λ c. (c == 10) ≡ false) piece
  pub came : Consumes old.bytes new.bytes (piece ++ ending_bytes ending)
  pub end : EndsThere ending new.bytes
  pub front : kept ≡ take 257 piece

-- known bytes begin with these lines, which are then removed
abbrev pub Loses : Option (List ℕ) → Option (List ℕ) → List (List ℕ) → Type 0
Loses None new heard = Unit {0}
Loses (Some input) None heard = ⊥
Loses (Some input) (Some rest) heard = lines input ≡ heard ++ lines rest

-- a line, and what is kept of it: everything, if it is not too long
abbrev pub IsTextOf : Heard → List ℕ → List ℕ → Type 0
IsTextOf Line said kept = (said ≡ kept) × (length said ≤ 255)
IsTextOf Long said kept = 255 < length said
IsTextOf End said kept = ⊥

-- a line was read, and nothing after it; or the input ended
abbrev pub IsLineRead : Giver → Giver → Heard → List ℕ → Type 0
IsLineRead old new End kept = Loses old.bytes new.bytes [] × IsAtEnd new.bytes
IsLineRead old new heard kept = (said : List ℕ) × Loses old.bytes new.bytes (said ∷ []) × IsTextOf heard said kept
