-- What a case runs: the source, preceded by lines that call a routine if the case calls one. This project's profile.
use Rattle.std.specs.Prelude.{ℕ, ◌==◌, Bool, true, false, List, [], ◌∷◌, ◌++◌, codes, Option, Some, None, if◌then◌else◌}
use Rattle.std.specs.List.{concat}
use Rattle.a2_text.specs.Bytes.{capital}
use Rattle.a2_text.specs.Words.{words}
use Rattle.a2_tests.specs.Settings.{name_in, digits_in, operand_mark, tight}
use Rattle.a2_tests.specs.declared.line.NumberedLine.{NumberedLine}
use Rattle.a2_tests.specs.declared.line.Line.{Line}
use Rattle.a2_tests.specs.declared.line.Line.TheVariants as line
use Rattle.a2_tests.specs.declared.line.Call.{Call}

-- the mnemonic of the instruction that loads a register
abbrev pub load_of : List ℕ → Option (List ℕ)
load_of (c ∷ []) =
    if capital c == 0x41 then Some (codes " LDA ")
    else if capital c == 0x58 then Some (codes " LDX ")
    else if capital c == 0x59 then Some (codes " LDY ")
    else None
load_of _ = None

-- the lines for a word such as X=04 or RESULT=04: a load of a register, or a store elsewhere
abbrev pub load_lines : List ℕ → List ℕ
load_lines word = elim (load_of (name_in word)) [
  | Some load ↦ concat (load ∷ operand_mark (digits_in word) ∷ digits_in word ∷ codes "\n" ∷ [])
  | None ↦ []
]

abbrev pub store_lines : List ℕ → List ℕ
store_lines word =
    elim (load_of (name_in word)) [
      | Some load ↦ []
      | None ↦ concat (codes " LDA " ∷ operand_mark (digits_in word) ∷ digits_in word ∷ codes "\n STA " ∷ name_in word ∷ codes "\n" ∷ [])
    ]

abbrev pub setting_lines : Bool → List ℕ → List ℕ
setting_lines stores word = if stores then store_lines word else load_lines word

-- the lines for all words
abbrev pub all_lines : Bool → List (List ℕ) → List ℕ
all_lines stores [] = []
all_lines stores (word ∷ more) = setting_lines stores word ++ all_lines stores more

-- the lines that call a routine and return, after which a source begins as it would without them
unfoldable pub call_lines : List ℕ → List ℕ
call_lines name = concat (codes " JSR " ∷ name ∷ codes "\n RTS\n ORG $300\n" ∷ [])

-- lines at $BF00 that store the bytes, load the registers and call the routine, and then the source
abbrev pub calling_text : List ℕ → List ℕ → List ℕ → List ℕ
calling_text name settings source =
    let set = words (tight settings) in codes " ORG $BF00\n" ++ (all_lines true set ++ (all_lines false set ++ (call_lines name ++ source)))

-- the call of a line, or the earlier one if the line has none
abbrev pub call_or : Option Call → Line → Option Call
call_or before (line.Call call) = Some call
call_or before _ = before

-- the call of the last line that calls a routine
abbrev pub call_from : Option Call → List NumberedLine → Option Call
call_from before [] = before
call_from before (asked ∷ rest) = call_from (call_or before asked.line) rest

abbrev pub text_of : Option Call → List ℕ → List ℕ
text_of None source = source
text_of (Some call) source = calling_text call.name.now call.settings.now source

-- the text that runs in a case
abbrev pub case_text : List NumberedLine → List ℕ → List ℕ
case_text lines source = text_of (call_from None lines) source
