-- A message with its length, as the base protocol of the Language Server Protocol 3.17 defines it
-- (microsoft.github.io/language-server-protocol, "Base Protocol").
use Rattle.std.specs.Prelude.{ℕ, ◌≤◌, List, [], ◌∷◌, codes, length, ◌++◌, Option, None, Some, IsTrue, nat_eq}
use Rattle.std.specs.List.{ends_with}
use Rattle.std.specs.Io.KnownBytes.{Consumes, IsAtEnd}
use Rattle.std.specs.Fmt.{decimal}

-- what is before the length in its line
unfoldable pub length_name : List ℕ
length_name = codes "Content-Length: "

-- the lines before a message of so many bytes: the one with its length, and a blank one
abbrev pub head : ℕ → List ℕ
head count = length_name ++ (decimal count ++ codes "\r\n\r\n")

-- the bytes of a message with the lines before it
abbrev pub packet : List ℕ → List ℕ
packet body = head (length body) ++ body

-- a read found the end of the input, or took this byte
abbrev pub GivesByte : Option ℕ → Option (List ℕ) → Option (List ℕ) → Type 0
GivesByte None old new = Consumes old new [] × IsAtEnd new
GivesByte (Some byte) old new = Consumes old new (byte ∷ [])

-- the bytes that end the lines before a message: the end of the last of them, and a blank line
abbrev pub blank : List ℕ
blank = codes "\r\n\r\n"

-- a read found the end of the input, or took these lines, which end with a blank one
abbrev pub GivesHead : Option (List ℕ) → Option (List ℕ) → Option (List ℕ) → Type 0
GivesHead None old new = Consumes old new [] × IsAtEnd new
GivesHead (Some head) old new = Consumes old new head × IsTrue (ends_with nat_eq head blank)

-- a read found the end of the input, or took a message with the lines before it, and no byte after it
abbrev pub GivesPacket : Option (List ℕ) → Option (List ℕ) → Option (List ℕ) → Type 0
GivesPacket None old new = Consumes old new [] × IsAtEnd new
GivesPacket (Some body) old new = (head : List ℕ) × Consumes old new (head ++ body) × IsTrue (ends_with nat_eq head blank) × (length body ≤ 4194304)
