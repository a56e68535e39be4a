-- A source in columns that is printed, whose name is printed, or that replaces its file. This project's profile.
use Rattle.std.specs.Prelude.{◌≡◌, ◌≢◌, ℕ, Bool, true, false, List, ◌++◌, codes, IfSome, Result, Ok, Err}
use Rattle.a2_stream.specs.Stream.{Taker, Sends, Breaks}
use Rattle.a2_host.specs.Desks.{Files, Saves}
use Rattle.a2_fmt.specs.Formatted.{CanBeFormatted, IsFormatFault}
use Rattle.a2_fmt.specs.Layout.{laid}
use Rattle.a2lab_sources.specs.declared.fmt.FmtFault.{FmtFault}
use Rattle.a2lab_sources.specs.declared.fmt.FmtFault.TheVariants.{Layout, Write}

-- the text was printed in columns and means the same; or it cannot be laid out and nothing was printed; or a part was printed and a
-- write failed
abbrev pub Shows : List ℕ → Taker → Taker → Result (Unit {0}) FmtFault → Type 0
Shows text old new (Ok _) = CanBeFormatted text × Sends old new (laid text)
Shows text old new (Err (Layout fault)) = IsFormatFault text fault × (new ≡ old)
Shows text old new (Err Write) = Breaks old new (laid text)

-- the text is in columns and nothing was printed; or it is not and its name was printed; or it cannot be laid out and nothing was
-- printed; or a part of the name was printed and a write failed
abbrev pub Names : List ℕ → List ℕ → Taker → Taker → Result Bool FmtFault → Type 0
Names name text old new (Ok true) = (laid text ≡ text) × (new ≡ old)
Names name text old new (Ok false) = CanBeFormatted text × (laid text ≢ text) × Sends old new (name ++ codes "\n")
Names name text old new (Err (Layout fault)) = IsFormatFault text fault × (new ≡ old)
Names name text old new (Err Write) = Breaks old new (name ++ codes "\n")

-- If the contents of the files are known: the file of this name has the text in columns, which means the same, and no other file
-- changed; no file changed if the text was in columns already, or if the call failed.
abbrev pub Rewrites : List ℕ → List ℕ → Files → Files → Result (Unit {0}) FmtFault → Type 0
Rewrites name text old new (Ok _) = CanBeFormatted text
    × (laid text ≡ text → new ≡ old) × (laid text ≢ text → IfSome old (λ _. Saves name (laid text) old new))
Rewrites name text old new (Err (Layout fault)) = IsFormatFault text fault × (new ≡ old)
Rewrites name text old new (Err Write) = new ≡ old
