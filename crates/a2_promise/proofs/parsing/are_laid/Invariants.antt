use Rattle.std.proofs.Common.{ℕ, List, IsTrue, take}
use Rattle.a2_promise.specs.Phrases.{Phrase}
use Rattle.a2_promise.specs.Grammar.{is_text}
use Rattle.a2_promise.specs.Reading.{IsPlaced, IsTop, state_of}
use Rattle.a2_promise.proofs.Laying.{LaidSoFar}
use Rattle.a2_promise.proofs.parsing.are_laid.Given as goal

abbrev pub invariant-loop-further : goal.invariant-loop-further
invariant-loop-further l =
    (phrase : ℕ → Phrase) (top : List Phrase) (quote : ℕ) → IsPlaced l.place phrase top l.fn.reader.parts.items → IsTrue (is_text quote l.text) → IsTop quote l.top
    → LaidSoFar quote phrase top (take l.further l.text) (state_of l.fn.reader) (state_of l.reader)
