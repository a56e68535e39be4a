-- A reader of words and signs that finds every expression that is allowed. It need not reject those that are not.
use Rattle.std.specs.Prelude.{ℕ, zero, suc, Bool, false, nat_le, List, [], ◌∷◌, codes, length, Option, Some, None, if◌then◌else◌}
use Rattle.std.specs.Str.{bytes_eq}
use Rattle.a2_asm.specs.Values.{name_value}
use Rattle.a2_promise.specs.declared.expr.Atom.{Atom}
use Rattle.a2_promise.specs.declared.expr.Atom.TheVariants.{A, X, Y, S, Carry, Zero, Negative, Overflow, Decimal, Interrupt, Cycles, Steps}
use Rattle.a2_promise.specs.declared.expr.Operation.TheVariants as operation
use Rattle.a2_promise.specs.declared.words.Infix.{Infix}
use Rattle.a2_promise.specs.declared.words.Infix.TheVariants.{Iff, Or, And, Compare, Apply}
use Rattle.a2_promise.specs.declared.words.Relation.TheVariants.{Equal, Other, Less, AtMost, More, AtLeast}
use Rattle.a2_promise.specs.Tokens.{Token, word, decimal as digits, place, sign, quoted}
use Rattle.a2_promise.specs.Written.{Written, decimal, literal, byte, byte_in, word_of, word_in, text, text_in, atom, counted, group, minus, magnitude, signed, before, there, bit, least, greatest, negated, joined, provided, one_of, for_all, sum_of}
use Rattle.a2_promise.specs.Grammar.{infix_rank, tightest, Scope, inside, address_of, number_of, number_among}

-- Tables of words and signs

abbrev pub named : {X : Type 0} → List (List ℕ × X) → List ℕ → Option X
named [] name = None
named (row ∷ rows) name = if bytes_eq name row.0 then Some row.1 else named rows name

abbrev pub joint_words : List (List ℕ × Infix)
joint_words = (codes "iff", Iff) ∷ (codes "or", Or) ∷ (codes "and", And) ∷ []

abbrev pub joint_signs : List (List ℕ × Infix)
joint_signs =
    (codes "=", Compare Equal) ∷ (codes "<>", Compare Other) ∷ (codes "<", Compare Less) ∷ (codes "<=", Compare AtMost)
    ∷ (codes ">", Compare More) ∷ (codes ">=", Compare AtLeast)
    ∷ (codes "|", Apply operation.BitOr) ∷ (codes "^", Apply operation.BitXor) ∷ (codes "&", Apply operation.BitAnd)
    ∷ (codes "+", Apply operation.Plus) ∷ (codes "-", Apply operation.Minus) ∷ (codes "*", Apply operation.Times)
    ∷ (codes "/", Apply operation.Over) ∷ (codes "%", Apply operation.Modulo) ∷ []

abbrev pub joint_of : Token → Option Infix
joint_of (word name) = named joint_words name
joint_of (sign name) = named joint_signs name
joint_of _ = None

-- the opening of an operand
pub data Opening : Type 0 where
  it : Atom → Opening
  opens_old : Opening
  opens_at : Opening
  opens_text : Opening
  opens_not : Opening
  opens_if : Opening
  opens_for : Opening
  opens_sum : Opening
  opens_min : Opening
  opens_max : Opening
  opens_abs : Opening
  opens_bit : Opening
  opens_signed : Opening
  opens_word : Opening
  opens_group : Opening
  opens_byte : Opening
  opens_minus : Opening
  opens_literal : Opening

abbrev pub opening_words : List (List ℕ × Opening)
opening_words =
    (codes "A", it A) ∷ (codes "X", it X) ∷ (codes "Y", it Y) ∷ (codes "S", it S) ∷ (codes "C", it Carry) ∷ (codes "Z", it Zero)
    ∷ (codes "N", it Negative) ∷ (codes "V", it Overflow) ∷ (codes "D", it Decimal) ∷ (codes "I", it Interrupt)
    ∷ (codes "cycles", it Cycles) ∷ (codes "steps", it Steps)
    ∷ (codes "old", opens_old) ∷ (codes "at", opens_at) ∷ (codes "text", opens_text) ∷ (codes "not", opens_not) ∷
    (codes "if", opens_if)
    ∷ (codes "for", opens_for) ∷ (codes "sum", opens_sum) ∷ (codes "min", opens_min) ∷ (codes "max", opens_max)
    ∷ (codes "abs", opens_abs) ∷ (codes "bit", opens_bit) ∷ (codes "signed", opens_signed) ∷ (codes "word", opens_word) ∷ []

abbrev pub opening_signs : List (List ℕ × Opening)
opening_signs = (codes "(", opens_group) ∷ (codes "[", opens_byte) ∷ (codes "-", opens_minus) ∷ (codes "#", opens_literal) ∷ []

-- What was read, and what follows it

abbrev pub Read : Type 0
Read = Option (Written × List Token)

-- a reader of an expression in its surroundings in which no operator binds looser than this
abbrev pub Reading : Type 0
Reading = Scope → ℕ → List Token → Read

abbrev pub then_by : {X Y : Type 0} → Option X → (X → Option Y) → Option Y
then_by None f = None
then_by (Some x) f = f x

abbrev pub by_case : {X Y : Type 0} → Option X → Y → (X → Y) → Y
by_case None y f = y
by_case (Some x) y f = f x

abbrev pub behind_one : List Token → List Token
behind_one [] = []
behind_one (token ∷ more) = more

abbrev pub is_else : List Token → Bool
is_else (word name ∷ more) = bytes_eq name (codes "else")
is_else _ = false

-- One operand

abbrev pub laid_behind : (ℕ → List ℕ → Written) → List Token → Read
laid_behind f (quoted quote characters ∷ rest) = Some (f quote characters, rest)
laid_behind f _ = None

abbrev pub named_behind : List Token → (List ℕ → List Token → Read) → Read
named_behind (word name ∷ more) f = f name (behind_one more)
named_behind _ f = None

module _ (given : Reading) (scope : Scope) where
  abbrev pub one_behind : ℕ → List Token → (Written → Written) → Read
  one_behind r tokens f = then_by (given scope r tokens) (λ e. Some (f e.0, e.1))

  abbrev pub one_up_to : List Token → (Written → Written) → Read
  one_up_to tokens f = then_by (given scope 1 tokens) (λ e. Some (f e.0, behind_one e.1))

  abbrev pub two_up_to : List Token → (Written → Written → Written) → Read
  two_up_to tokens f =
      then_by (given scope 1 tokens) (λ e. then_by (given scope 1 (behind_one e.1)) (λ g. Some (f e.0 g.0, behind_one g.1)))

  abbrev pub label_behind : List Token → Read
  label_behind (word label ∷ more) = then_by (name_value scope.names label) (λ a. one_behind tightest more (λ e. there label a e))
  label_behind _ = None

  abbrev pub text_after_marker : List Token → Read
  text_after_marker [] = None
  text_after_marker (sign opening ∷ more) =
      then_by (given scope 1 more) (λ e. laid_behind (λ quote characters. text_in e.0 quote characters)
      (behind_one (behind_one e.1)))
  text_after_marker (token ∷ more) =
      then_by (address_of scope.names token) (λ a. laid_behind (λ quote characters. text token a quote characters)
      (behind_one more))

  abbrev pub word_after_opcode : List Token → Read
  word_after_opcode [] = None
  word_after_opcode (sign opening ∷ more) = one_up_to more word_in
  word_after_opcode (token ∷ more) = then_by (address_of scope.names token) (λ a. Some (word_of token a, more))

  abbrev pub number_behind : List Token → Read
  number_behind [] = None
  number_behind (token ∷ more) = then_by (number_of scope.names token) (λ n. Some (literal token n, more))

  abbrev pub choice_behind : List Token → Read
  choice_behind tokens =
      then_by (given scope 1 tokens) (λ c. then_by (given scope 1 (behind_one c.1)) (λ e.
      if is_else e.1 then then_by (given scope 1 (behind_one e.1)) (λ f. Some (one_of c.0 e.0 f.0, f.1))
      else Some (provided c.0 e.0, e.1)))

  abbrev pub bit_behind : List Token → Read
  bit_behind tokens =
      then_by (given scope tightest tokens) (λ e. then_by (given scope tightest (behind_one e.1)) (λ f. Some (bit e.0 f.0, f.1)))

  abbrev pub count_behind : ℕ → List Token → (List ℕ → ℕ → Written → Written → Written) → Read
  count_behind r tokens f =
      named_behind tokens (λ name more. then_by (given scope 6 more) (λ e.
      then_by (given (inside name scope) r (behind_one e.1)) (λ g. Some (f name (length scope.around) e.0 g.0, g.1))))

  abbrev pub opened : Opening → List Token → Read
  opened (it a) more = Some (atom a, more)
  opened opens_old more = one_behind tightest more before
  opened opens_at more = label_behind more
  opened opens_text more = text_after_marker more
  opened opens_not more = one_behind 4 more negated
  opened opens_if more = choice_behind more
  opened opens_for more = count_behind 1 (behind_one more) for_all
  opened opens_sum more = count_behind 6 more sum_of
  opened opens_min more = two_up_to (behind_one more) least
  opened opens_max more = two_up_to (behind_one more) greatest
  opened opens_abs more = one_behind tightest more magnitude
  opened opens_bit more = bit_behind more
  opened opens_signed more = one_behind tightest more signed
  opened opens_word more = word_after_opcode more
  opened opens_group more = one_up_to more group
  opened opens_byte more = one_up_to more byte_in
  opened opens_minus more = one_behind tightest more minus
  opened opens_literal more = number_behind more

  -- a bound name, or a name of the source
  abbrev pub plain : List ℕ → List Token → Option ℕ → Read
  plain name more (Some k) = Some (counted name k, more)
  plain name more None = then_by (name_value scope.names name) (λ a. Some (byte (word name) a, more))

  abbrev pub worded : List ℕ → List Token → Option Opening → Read
  worded name more (Some opening) = opened opening more
  worded name more None = plain name more (number_among scope.around name)

  abbrev pub operand : List Token → Read
  operand [] = None
  operand (word name ∷ more) = worded name more (named opening_words name)
  operand (sign name ∷ more) = then_by (named opening_signs name) (λ opening. opened opening more)
  operand (digits decimals ∷ more) = then_by (number_of scope.names (digits decimals))
      (λ n. Some (decimal (digits decimals) n, more))
  operand (place hexadecimal ∷ more) =
      then_by (address_of scope.names (place hexadecimal)) (λ a. Some (byte (place hexadecimal) a, more))
  operand (quoted quote characters ∷ more) = None

-- Operators after an operand

abbrev pub if_tight : ℕ → Option Infix → Option Infix
if_tight r None = None
if_tight r (Some join) = if nat_le r (infix_rank join) then Some join else None

abbrev pub joint_next : ℕ → List Token → Option Infix
joint_next r [] = None
joint_next r (token ∷ more) = if_tight r (joint_of token)

module _ (given : Reading) (scope : Scope) where
  abbrev pub joints : ℕ → ℕ → Written → List Token → Read
  joints zero r left tokens = Some (left, tokens)
  joints (suc k) r left tokens =
      by_case (joint_next r tokens) (Some (left, tokens)) (λ join.
      then_by (given scope (suc (infix_rank join)) (behind_one tokens)) (λ e. joints k r (joined join left e.0) e.1))

-- An expression with less nesting, and fewer operators in a row, than this

abbrev pub reading : ℕ → Reading
reading zero scope r tokens = None
reading (suc n) scope r tokens =
    then_by (operand (reading n) scope tokens) (λ e. joints (reading n) scope n r e.0 e.1)
