-- The words that begin lines.
use Rattle.std.specs.Prelude.{◌≡◌, ◌⊎◌, ℕ, ◌<◌, List, [], length, map, codes}
use Rattle.std.specs.Borrow.{Bor}
use Rattle.a2_debugger.specs.declared.verbs.Verb.{Verb}
use Rattle.a2_debugger.specs.declared.verbs.Verb.TheVariants.{Step, Next, Out, Back, Rnext, Go, Until, Rback, Watch, Who, Break, Clear, Unwatch, Keys, Set, Goto, Where, Regs, Print, Mem, Screen, List as Lines, Info, Stack, Help}

-- the full word of a verb, in capitals
abbrev pub letters : Verb → List ℕ
letters Step = codes "STEP"
letters Next = codes "NEXT"
letters Out = codes "OUT"
letters Back = codes "BACK"
letters Rnext = codes "RNEXT"
letters Go = codes "GO"
letters Until = codes "UNTIL"
letters Rback = codes "RBACK"
letters Watch = codes "WATCH"
letters Who = codes "WHO"
letters Break = codes "BREAK"
letters Clear = codes "CLEAR"
letters Unwatch = codes "UNWATCH"
letters Keys = codes "KEYS"
letters Set = codes "SET"
letters Goto = codes "GOTO"
letters Where = codes "WHERE"
letters Regs = codes "REGS"
letters Print = codes "PRINT"
letters Mem = codes "MEM"
letters Screen = codes "SCREEN"
letters Lines = codes "LIST"
letters Info = codes "INFO"
letters Stack = codes "STACK"
letters Help = codes "HELP"

-- the letter that abbreviates it, if there is one
abbrev pub letter : Verb → List ℕ
letter Step = codes "S"
letter Next = codes "N"
letter Out = codes "O"
letter Back = codes "B"
letter Go = codes "G"
letter Until = codes "U"
letter Rback = codes "R"
letter Where = codes "W"
letter Print = codes "P"
letter Mem = codes "X"
letter Lines = codes "L"
letter Info = codes "I"
letter Help = codes "H"
letter verb = []

-- a word in capitals that is not empty stands for this verb
abbrev pub IsVerb : List ℕ → Verb → Type 0
IsVerb word verb = (word ≡ letters verb) ⊎ ((word ≡ letter verb) × (0 < length word))

-- the rows of a table: a word and the verb it stands for
abbrev pub listed : List (Bor (List ℕ) × Verb) → List (List ℕ × Verb)
listed rows = map (λ row. (row.0.now, row.1)) rows
