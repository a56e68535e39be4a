-- How lines are read before a label, for the contracts of private functions. This project's own.
use Rattle.std.specs.Prelude.{◌≡◌, ℕ, suc, not, List, slice_get, Some, None, IfSome}
use Rattle.std.specs.List.{list_any}
use Rattle.a2_asm.specs.Values.{Names, name_value}
use Rattle.a2_promise.specs.declared.finding.Finding.{Finding}
use Rattle.a2_promise.specs.declared.finding.SourceLine.{SourceLine}
use Rattle.a2_promise.specs.declared.promises.Block.{Block}
use Rattle.a2_promise.specs.PromisedTerms.{AreFound, AreLines, IsPromise, IsStated, Line, is_promising, label_of, terms_of, texts_before}
use Rattle.a2_promise.specs.Reading.{AddsLine}

-- a block says what texts after `;:` say
pub record Says (names : Names) (texts : List (List ℕ)) (block : Block) : Type 0 where
  pub told : List Line
  pub are_lines : AreLines names texts told
  pub promise : IsPromise block.promise (terms_of block.promise.address told)
  pub is_within : block.is_within ≡ not (list_any is_promising told)

-- it does if it has no error
abbrev pub IsRead : Names → List (List ℕ) → Block → Type 0
IsRead names texts block = block.refused ≡ None → Says names texts block

-- another text was read; a block that has an error keeps it
abbrev pub ReadsLine : Names → List ℕ → Block → Block → Type 0
ReadsLine names text before after = after.refused ≡ None → (before.refused ≡ None) × AddsLine names text before after

-- a line of these lines, with this many lines above it
pub record IsLineAt (lines : List (List ℕ)) (above : ℕ) (line : SourceLine) : Type 0 where
  pub number : line.number ≡ suc above
  pub stands : slice_get lines above ≡ Some line.whole.now
  pub label : label_of line.whole.now ≡ line.label.now

-- a block is what was read directly above a line
pub record IsAbove (lines : List (List ℕ)) (names : Names) (block : Block) (line : SourceLine) : Type 0 where
  pub above : ℕ
  pub is_line : IsLineAt lines above line
  pub read : IsRead names (texts_before above lines) block

-- a block has no error, and this is the address of the label after it
abbrev pub IsEntry : Names → Block → List ℕ → ℕ → Type 0
IsEntry names block label address = (block.refused ≡ None) × (name_value names label ≡ Some address)

-- all promises so far are promises of the lines
abbrev pub AreFoundSoFar : List (List ℕ) → Names → Finding → Type 0
AreFoundSoFar lines names finding =
    AreFound lines names finding.found.items × IfSome finding.last (λ routine. IsStated lines names routine.promise)

-- the same, with the lines directly above a line
abbrev pub AreRead : List (List ℕ) → Names → ℕ → Block → Finding → Type 0
AreRead lines names above block finding = IsRead names (texts_before above lines) block × AreFoundSoFar lines names finding
