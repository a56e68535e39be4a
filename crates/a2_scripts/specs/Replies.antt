-- The lines of a script, each repeated after a mark and answered.
use Rattle.std.specs.Prelude.{◌≡◌, ℕ, List, [], ◌∷◌, ◌++◌, codes, Result}
use Rattle.a2_stream.specs.Stream.{Taker, SendsOrBreaks}
use Rattle.a2_stream.specs.declared.WriteFault.{WriteFault}

-- a line as it is repeated
abbrev pub echo : List ℕ → List ℕ → List ℕ
echo mark line = mark ++ (line ++ codes "\n")

-- one line after another, where `Meets line old text new` says which text a line has, and which state it leaves
abbrev pub AreReplied : {S : Type 0} → (List ℕ → S → List ℕ → S → Type 0) → List ℕ → List (List ℕ) → S → List ℕ → Type 0
AreReplied Meets mark [] old output = output ≡ []
AreReplied {S} Meets mark (line ∷ others) old output =
    (text : List ℕ) × (new : S) × (rest : List ℕ) × Meets line old text new × AreReplied Meets mark others new rest
    × (output ≡ echo mark line ++ (text ++ rest))

-- in each state with a property, each line has a text, and the state after it has the property
pub record AnswersEach {S : Type 0} (Meets : List ℕ → S → List ℕ → S → Type 0) (Holds : S → Type 0) : Type 0 where
  pub text : (line : List ℕ) (old : S) → Holds old → (text : List ℕ) × (new : S) × Meets line old text new
  pub stays : (line : List ℕ) (old : S) (text : List ℕ) (new : S) → Meets line old text new → Holds old → Holds new

-- the result of a call for one line, and for several
abbrev pub RepliesTo : {S : Type 0} → (List ℕ → S → List ℕ → S → Type 0) → List ℕ → S → S → Taker → Taker → Result (Unit {0}) WriteFault → Type 0
RepliesTo Meets line old new before after answer = (text : List ℕ) × Meets line old text new × SendsOrBreaks before after answer text

abbrev pub RepliesToAll : {S : Type 0} → (List ℕ → S → List ℕ → S → Type 0) → List ℕ → List (List ℕ) → S → Taker → Taker → Result (Unit {0}) WriteFault → Type 0
RepliesToAll Meets mark lines old before after answer = (output : List ℕ) × AreReplied Meets mark lines old output × SendsOrBreaks before after answer output
