-- What is sent of a line that reports an error. This project's profile.
use Rattle.std.specs.Prelude.{◌⊎◌, ℕ, List, ◌++◌, codes}
use Rattle.a2_stream.specs.Stream.{Taker, Sends, Breaks}

-- the text with LF was sent; or a front of it, and a call failed
abbrev pub ReportsLine : Taker → Taker → List ℕ → Type 0
ReportsLine old new text = Sends old new (text ++ codes "\n") ⊎ Breaks old new (text ++ codes "\n")
