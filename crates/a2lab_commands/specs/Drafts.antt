-- What becomes of the draft of a file. This project's profile.
use Rattle.std.specs.Prelude.{◌≡◌, ℕ, List, IfSome, Result, Ok, Err}
use Rattle.a2_stream.specs.Stream.{Taker}
use Rattle.a2_stream.specs.declared.WriteFault.{WriteFault}
use Rattle.a2_host.specs.Desks.{Files, Saves}

-- A draft to which all of its text was written became the file of this name, or that failed and no file changed. Any other draft was
-- discarded, and the fault is the same. The first argument says which fault a failed write is.
abbrev pub Settles : {T F : Type 0} → (WriteFault → F → Type 0) → List ℕ → Taker → Result T F → Files → Files → Result T F → Type 0
Settles gives name taken (Ok made) old new (Ok done) = (done ≡ made) × IfSome taken.bytes (λ text. Saves name text old new)
Settles gives name taken (Ok made) old new (Err fault) = ((write : WriteFault) × gives write fault) × (new ≡ old)
Settles gives name taken (Err fault) old new (Ok done) = ⊥
Settles gives name taken (Err fault) old new (Err other) = (other ≡ fault) × (new ≡ old)
