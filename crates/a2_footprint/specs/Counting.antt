-- The states of inputs, numbered, so that counting up to their product reaches each of them. This project's own.
use Rattle.std.specs.Prelude.{◌≡◌, ◌<◌, ℕ, ◌*◌, ◌/◌, ◌%◌, List, [], ◌∷◌}

-- how many states there are, given how many values each input has
abbrev pub states_of : List ℕ → ℕ
states_of [] = 1
states_of (values ∷ rest) = states_of rest * values

-- the state with a number: the value of the first input is the number's lowest digit
abbrev pub state_at : List ℕ → ℕ → List ℕ
state_at [] number = []
state_at (values ∷ rest) number = (number % values) ∷ state_at rest (number / values)

-- a value for each input
abbrev pub IsState : List ℕ → List ℕ → Type 0
IsState [] [] = Unit {0}
IsState (values ∷ rest) (value ∷ state) = (value < values) × IsState rest state
IsState _ _ = ⊥

pub record HasNumber (inputs state : List ℕ) : Type 0 where
  pub number : ℕ
  pub below : number < states_of inputs
  pub is : state_at inputs number ≡ state

-- each state has a number
abbrev pub StatesAreCounted : Type 0
StatesAreCounted = (inputs state : List ℕ) → IsState inputs state → HasNumber inputs state
