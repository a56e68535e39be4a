-- How writing a file whole changes the files. This project's profile.
use Rattle.std.specs.Prelude.{◌≡◌, ◌≢◌, ℕ, List, [], Option, Some, None, Result, Ok, Err, IfOk, IfSome}
use Rattle.a2_stream.specs.Stream.{Taker}

-- the contents of the files by name, if they are known
abbrev pub Files : Type 0
Files = Option (List ℕ → Option (List ℕ))

-- an empty draft was begun, or none was; and no file changed
pub record Begins {D E : Type 0} (taker : D → Taker) (old new : Files) (result : Result D E) : Type 0 where
  pub kept : new ≡ old
  pub empty : IfOk result (λ draft. IfSome old (λ _. (taker draft).bytes ≡ Some []))

-- the file with this name has this content, and every other file is unchanged
abbrev pub Saves : List ℕ → List ℕ → Files → Files → Type 0
Saves name text None new = new ≡ None
Saves name text (Some old) None = ⊥
Saves name text (Some old) (Some new) = (new name ≡ Some text) × ((other : List ℕ) → other ≢ name → new other ≡ old other)

-- the file with this name has the content that was taken, if that is known; or no file changed
abbrev pub Finishes : {T E : Type 0} → List ℕ → Taker → Files → Files → Result T E → Type 0
Finishes name taken old new (Ok _) = IfSome taken.bytes (λ text. Saves name text old new)
Finishes name taken old new (Err _) = new ≡ old
