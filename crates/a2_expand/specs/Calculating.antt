-- The calculation of a value from left to right. No public clause cites this file.
use Rattle.std.specs.Prelude.{◌≡◌, ℕ, Bool, true, false, ◌&&◌, ◌==◌, nat_lt, List, [], ◌∷◌, reverse, Option, Some, None, option_map, option_and_then, ℤ, pos, Result, Ok, Err, ◌⊎◌, if◌then◌else◌}
use Rattle.a2_text.specs.Signs.{sign as code}
use Rattle.a2_expand.specs.declared.fault.ExpandFault.{ExpandFault}
use Rattle.a2_expand.specs.declared.fault.Problem.TheVariants.{Memory}
use Rattle.a2_expand.specs.declared.value.Calculator.{Calculator}
use Rattle.a2_expand.specs.declared.value.Constant.{Constant}
use Rattle.a2_expand.specs.declared.value.Prefix.TheVariants.{Low, High, Negate, Invert}
use Rattle.a2_expand.specs.declared.value.Infix.{Infix}
use Rattle.a2_expand.specs.declared.value.Infix.TheVariants.{Equal, Unequal, Less, Greater, AtMost, AtLeast, Add, Subtract, Or, Multiply, Divide, Remainder, And, Xor, ShiftLeft, ShiftRight}
use Rattle.a2_expand.specs.declared.value.Waiting.{Waiting}
use Rattle.a2_expand.specs.declared.value.Waiting.TheVariants as waits
use Rattle.a2_expand.specs.Expressions.{Piece, number_piece, name_piece, sign, signs, prefix_rank, infix_rank, changed, combined, value_of_name}

-- what was returned is this, or memory ran out; there is an error where this is nothing
abbrev pub Tells : {X Y : Type 0} → (X → Y) → Result X ExpandFault → Option Y → Type 0
Tells view (Ok x) answer = answer ≡ Some (view x)
Tells view (Err fault) answer = (fault.problem ≡ Memory) ⊎ (answer ≡ None)

-- the values and the operators that wait, the last ones first, and whether a term has ended
pub record State : Type 0 where
  pub values : List ℤ
  pub waiting : List Waiting
  pub after : Bool

abbrev pub state : {A : Type 0} → Calculator A → State
state calculator = record { values = reverse calculator.values.items; waiting = reverse calculator.waiting.items; after = calculator.after_term }

abbrev pub start : State
start = record { values = []; waiting = []; after = false }

abbrev pub first : {X : Type 0} → List X → Option X
first [] = None
first (x ∷ xs) = Some x

abbrev pub waiting_rank : Waiting → ℕ
waiting_rank waits.Open = 0
waiting_rank (waits.Prefix op) = prefix_rank op
waiting_rank (waits.Infix op) = infix_rank op

abbrev pub applied : Waiting → List ℤ → Option (List ℤ)
applied (waits.Prefix op) (a ∷ values) = option_map (λ z. z ∷ values) (changed op a)
applied (waits.Infix op) (b ∷ a ∷ values) = option_map (λ z. z ∷ values) (combined op a b)
applied _ _ = None

abbrev pub settled : ℕ → List ℤ → List Waiting → Option (List ℤ × List Waiting)
settled rank values [] = Some (values, [])
settled rank values (w ∷ waiting) =
    if nat_lt (waiting_rank w) rank then Some (values, w ∷ waiting) else
    elim (applied w values) [ None ↦ None | Some after ↦ settled rank after waiting ]

-- whether an expression begins here, or one in brackets
abbrev pub is_beginning : List Waiting → Bool
is_beginning [] = true
is_beginning (waits.Open ∷ waiting) = true
is_beginning _ = false

abbrev pub opening : Bool → Piece → Option Waiting
opening begins (sign c) =
    if c == code "-" then Some (waits.Prefix Negate) else
    if c == code "~" then Some (waits.Prefix Invert) else
    if c == code "(" then Some waits.Open else
    if begins && c == code "<" then Some (waits.Prefix Low) else
    if begins && c == code ">" then Some (waits.Prefix High) else None
opening begins _ = None

abbrev pub sign_infix : ℕ → Option Infix
sign_infix c =
    if c == code "+" then Some Add else if c == code "-" then Some Subtract else if c == code "|" then Some Or else
    if c == code "*" then Some Multiply else if c == code "/" then Some Divide else if c == code "%" then Some Remainder else
    if c == code "&" then Some And else if c == code "^" then Some Xor else if c == code "=" then Some Equal else
    if c == code "<" then Some Less else if c == code ">" then Some Greater else None

abbrev pub signs_infix : ℕ → ℕ → Option Infix
signs_infix c d =
    if c == code "<" && d == code "<" then Some ShiftLeft else if c == code ">" && d == code ">" then Some ShiftRight else
    if c == code "<" && d == code ">" then Some Unequal else if c == code "<" && d == code "=" then Some AtMost else
    if c == code ">" && d == code "=" then Some AtLeast else None

abbrev pub infix_of : Piece → Option Infix
infix_of (sign c) = sign_infix c
infix_of (signs c d) = signs_infix c d
infix_of _ = None

abbrev pub term_value : {A : Type 0} → List (Constant A) → Piece → Option ℤ
term_value constants (number_piece n) = Some (pos n)
term_value constants (name_piece word) = value_of_name constants word
term_value constants _ = None

-- the state after a piece where a term is expected, after `)`, and after another piece that follows a term
abbrev pub begun : {A : Type 0} → List (Constant A) → State → Piece → Option State
begun constants s p =
    elim (opening (is_beginning s.waiting) p) [
      | Some w ↦ Some (record { values = s.values; waiting = w ∷ s.waiting; after = false })
      | None ↦ option_map (λ z. record { values = z ∷ s.values; waiting = s.waiting; after = true }) (term_value constants p)
    ]

abbrev pub without_open : List ℤ → List Waiting → Option State
without_open values (waits.Open ∷ waiting) = Some (record { values = values; waiting = waiting; after = true })
without_open values _ = None

abbrev pub closed : State → Option State
closed s = option_and_then (λ t. without_open t.0 t.1) (settled 1 s.values s.waiting)

abbrev pub joining : State → Infix → Option State
joining s op =
    option_map (λ t. record { values = t.0; waiting = waits.Infix op ∷ t.1; after = false }) (settled (infix_rank op) s.values s.waiting)

abbrev pub is_close : Piece → Bool
is_close (sign c) = c == code ")"
is_close _ = false

abbrev pub continued : State → Piece → Option State
continued s p = if is_close p then closed s else option_and_then (joining s) (infix_of p)

abbrev pub step : {A : Type 0} → List (Constant A) → State → Piece → Option State
step constants s p = if s.after then continued s p else begun constants s p

abbrev pub run : {A : Type 0} → List (Constant A) → State → List Piece → Option State
run constants s [] = Some s
run constants s (p ∷ more) = elim (step constants s p) [ None ↦ None | Some t ↦ run constants t more ]

abbrev pub only_value : List ℤ → List Waiting → Option ℤ
only_value (z ∷ values) [] = Some z
only_value _ _ = None

abbrev pub finished : State → Option ℤ
finished s = if s.after then option_and_then (λ t. only_value t.0 t.1) (settled 1 s.values s.waiting) else None

abbrev pub calculated : {A : Type 0} → List (Constant A) → List Piece → Option ℤ
calculated constants all = option_and_then finished (run constants start all)
