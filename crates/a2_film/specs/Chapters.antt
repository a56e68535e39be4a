-- Which chapters a script has, and which line of it is not one. This project's profile.
use Rattle.std.specs.Prelude.{◌≡◌, ℕ, ◌+◌, ◌==◌, Bool, not, false, List, ◌∷◌, ◌++◌, codes, length, filter}
use Rattle.std.specs.List.{AllZip}
use Rattle.std.specs.Str.Parse.{digits_value}
use Rattle.a2_text.specs.Lines.{lines}
use Rattle.a2_text.specs.Words.{after_blanks}
use Rattle.a2_run.specs.Limits.{IsStepLimit}
use Rattle.a2_film.specs.declared.chapters.Place.{Place}
use Rattle.a2_film.specs.declared.chapters.Place.TheVariants.{Step, Line}
use Rattle.a2_film.specs.declared.chapters.Chapter.{Chapter}
use Rattle.a2_film.specs.declared.chapters.ScriptFault.{ScriptFault}
use Rattle.a2_film.specs.declared.chapters.ScriptFault.TheVariants as fault

-- a number up to 100,000,000, one blank, and a text of any bytes
abbrev pub IsNumbered : List ℕ → ℕ → List ℕ → Type 0
IsNumbered line number text = (word : List ℕ) × IsStepLimit word × (number ≡ digits_value 10 word) × (line ≡ word ++ 0x20 ∷ text)

-- a line is a chapter: the number of a step and a text; or `line`, the number of a line of the source, and a text
abbrev pub Tells : List ℕ → Place → List ℕ → Type 0
Tells line (Step number) text = IsNumbered line number text
Tells line (Line number) text = (rest : List ℕ) × (line ≡ codes "line " ++ rest) × IsNumbered rest number text

-- only blanks
abbrev pub is_silent : List ℕ → Bool
is_silent line = length (after_blanks line) == 0

-- one for each line that is not silent, in order
abbrev pub AreChapters : List (List ℕ) → List Chapter → Type 0
AreChapters texts chapters =
    AllZip (λ line chapter. Tells line chapter.place chapter.text.now) (filter (λ line. not (is_silent line)) texts) chapters

-- the line with this number, counted from 1, is the first that is neither silent nor a chapter
abbrev pub FirstOther : List (List ℕ) → ℕ → Type 0
FirstOther texts n =
    (before : List (List ℕ)) × (line : List ℕ) × (after : List (List ℕ)) × (texts ≡ before ++ line ∷ after)
    × (n ≡ length before + 1)
    × ((chapters : List Chapter) × AreChapters before chapters)
    × (is_silent line ≡ false) × ((place : Place) (text : List ℕ) → Tells line place text → ⊥)

-- why a script has no chapters, except for lack of memory
abbrev pub IsScriptRefusal : List ℕ → ScriptFault → Type 0
IsScriptRefusal script refusal = (n : ℕ) × (refusal ≡ fault.Line n) × FirstOther (lines script) n
