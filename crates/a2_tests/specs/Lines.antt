-- The lines of a WANT file. This project's profile.
use Rattle.std.specs.Prelude.{◌≡◌, ℕ, List, codes}
use Rattle.std.specs.Str.Parse.{digits_value}
use Rattle.a2_run.specs.Limits.{IsStepLimit}
use Rattle.a2_tests.specs.declared.line.Verb.{Verb}
use Rattle.a2_tests.specs.declared.line.Verb.TheVariants.{Case, Keys, KeysAt, Replay, Free, Limit, Call, Screen, Mem, Reg, Stop, Stops, Cycles, Bytes, Must, Attr}

-- the letters of a verb
abbrev pub verb_letters : Verb → List ℕ
verb_letters Case = codes "case"
verb_letters Keys = codes "keys"
verb_letters KeysAt = codes "keys-at"
verb_letters Replay = codes "replay"
verb_letters Free = codes "free"
verb_letters Limit = codes "limit"
verb_letters Call = codes "call"
verb_letters Screen = codes "screen"
verb_letters Mem = codes "mem"
verb_letters Reg = codes "reg"
verb_letters Stop = codes "stop"
verb_letters Stops = codes "stops"
verb_letters Cycles = codes "cycles"
verb_letters Bytes = codes "bytes"
verb_letters Must = codes "must"
verb_letters Attr = codes "attr"

-- a word spells a number, 0 to 100,000,000
abbrev pub IsNumber : List ℕ → ℕ → Type 0
IsNumber word n = IsStepLimit word × (n ≡ digits_value 10 word)
