-- The expressions that are allowed in a promise: how tightly words and signs bind, which places need a number and
-- which need a fact, and what names and digits stand for. This project's profile; docs/manual/promises.md shows it as
-- a table.
use Rattle.std.specs.Prelude.{ℕ, suc, ◌^◌, Bool, true, false, not, ◌&&◌, ◌||◌, ◌==◌, nat_lt, nat_le, min, List, [], ◌∷◌, ◌++◌, length, codes, map, Option, Some, None, if◌then◌else◌}
use Rattle.std.specs.List.{list_any, list_all}
use Rattle.std.specs.Str.{bytes_eq}
use Rattle.a2_text.specs.Bytes.{number_in, value_of_digits}
use Rattle.a2_syntax.specs.Numbers.{is_quote, is_quotable}
use Rattle.a2_asm.specs.Values.{Names, name_value}
use Rattle.a2_promise.specs.declared.expr.Atom.{Atom}
use Rattle.a2_promise.specs.declared.expr.Atom.TheVariants.{A, X, Y, S, Carry, Zero, Negative, Overflow, Decimal, Interrupt, Cycles, Steps}
use Rattle.a2_promise.specs.declared.expr.Operation.{Operation}
use Rattle.a2_promise.specs.declared.expr.Operation.TheVariants as operation
use Rattle.a2_promise.specs.declared.words.Infix.{Infix}
use Rattle.a2_promise.specs.declared.words.Infix.TheVariants.{Iff, Or, And, Compare, Apply}
use Rattle.a2_promise.specs.declared.words.Kind.{Kind}
use Rattle.a2_promise.specs.declared.words.Kind.TheVariants.{Number, Fact, Flag}
use Rattle.a2_promise.specs.Tokens.{Token, word, decimal as digits, place}
use Rattle.a2_promise.specs.Written.{Written, decimal, literal, byte, byte_in, word_of, word_in, text, text_in, atom, counted, group, minus, magnitude, signed, before, there, bit, least, greatest, negated, joined, provided, one_of, for_all, sum_of, atom_name}

-- Precedence

-- an expression that is not two joined by an operator binds the tightest
abbrev pub tightest : ℕ
tightest = 10

-- a greater rank binds tighter. An operation without a sign has a rank that nothing reaches, so it is not an
-- operator.
abbrev pub operation_rank : Operation → ℕ
operation_rank operation.BitOr = 6
operation_rank operation.BitXor = 6
operation_rank operation.BitAnd = 7
operation_rank operation.Plus = 8
operation_rank operation.Minus = 8
operation_rank operation.Times = 9
operation_rank operation.Over = 9
operation_rank operation.Modulo = 9
operation_rank _ = tightest

abbrev pub infix_rank : Infix → ℕ
infix_rank Iff = 1
infix_rank Or = 2
infix_rank And = 3
infix_rank (Compare relation) = 5
infix_rank (Apply op) = operation_rank op

abbrev pub rank : Written → ℕ
rank (joined join e f) = infix_rank join
rank _ = tightest

-- the lowest rank of a following operator that would belong to the expression's own last part; the tightest rank if
-- no operator would
abbrev pub takes_from : Written → ℕ
takes_from (joined join e f) = min (suc (infix_rank join)) (takes_from f)
takes_from (negated e) = min 4 (takes_from e)
takes_from (provided e f) = 1
takes_from (one_of e f g) = 1
takes_from (for_all name k e f) = 1
takes_from (sum_of name k e f) = min 6 (takes_from f)
takes_from (minus e) = takes_from e
takes_from (magnitude e) = takes_from e
takes_from (signed e) = takes_from e
takes_from (before e) = takes_from e
takes_from (there label a e) = takes_from e
takes_from (bit e f) = takes_from f
takes_from _ = tightest

-- whether a following `else` would belong to the expression's own last part
abbrev pub takes_else : Written → Bool
takes_else (provided e f) = true
takes_else (joined join e f) = takes_else f
takes_else (negated e) = takes_else e
takes_else (one_of e f g) = takes_else g
takes_else (for_all name k e f) = takes_else f
takes_else (sum_of name k e f) = takes_else f
takes_else (minus e) = takes_else e
takes_else (magnitude e) = takes_else e
takes_else (signed e) = takes_else e
takes_else (before e) = takes_else e
takes_else (there label a e) = takes_else e
takes_else (bit e f) = takes_else f
takes_else _ = false

-- Kinds

abbrev pub atom_kind : Atom → Kind
atom_kind Carry = Flag
atom_kind Zero = Flag
atom_kind Negative = Flag
atom_kind Overflow = Flag
atom_kind Decimal = Flag
atom_kind Interrupt = Flag
atom_kind _ = Number

-- a flag is both a number and a fact
abbrev pub may_be_number : Kind → Bool
may_be_number Fact = false
may_be_number _ = true

abbrev pub may_be_fact : Kind → Bool
may_be_fact Number = false
may_be_fact _ = true

abbrev pub infix_kind : Infix → Kind
infix_kind (Apply op) = Number
infix_kind _ = Fact

abbrev pub kind : Written → Kind
kind (text token a quote characters) = Fact
kind (text_in e quote characters) = Fact
kind (atom it) = atom_kind it
kind (group e) = kind e
kind (before e) = kind e
kind (there label a e) = kind e
kind (negated e) = Fact
kind (joined join e f) = infix_kind join
kind (provided e f) = Fact
kind (one_of e f g) = if may_be_fact (kind f) && may_be_fact (kind g) then Fact else Number
kind (for_all name k e f) = Fact
kind _ = Number

abbrev pub is_number : Written → Bool
is_number e = may_be_number (kind e)

abbrev pub is_fact : Written → Bool
is_fact e = may_be_fact (kind e)

-- The meaning of words and digits

-- a bound name hides a name of the source; a word that opens an expression also cannot be a name of the source
abbrev pub openings : List (List ℕ)
openings =
    map atom_name (A ∷ X ∷ Y ∷ S ∷ Carry ∷ Zero ∷ Negative ∷ Overflow ∷ Decimal ∷ Interrupt ∷ Cycles ∷ Steps ∷ [])
    ++ codes "old" ∷ codes "at" ∷ codes "text" ∷ codes "not" ∷ codes "if" ∷ codes "for" ∷ codes "sum" ∷ codes "min" ∷ codes "max"
    ∷ codes "abs" ∷ codes "bit" ∷ codes "signed" ∷ codes "word" ∷ []

abbrev pub is_name_among : List (List ℕ) → List ℕ → Bool
is_name_among names name = list_any (bytes_eq name) names

-- a word that may be bound as a name
abbrev pub may_count : List ℕ → Bool
may_count name = not (is_name_among openings name) && not (is_name_among (codes "iff" ∷ codes "or" ∷ codes "and" ∷ []) name)

-- one to four hexadecimal digits, or a name of the source
abbrev pub address_of : Names → Token → Option ℕ
address_of names (place hexadecimal) = number_in 16 4 hexadecimal
address_of names (word name) = name_value names name
address_of names _ = None

-- the same, or decimal digits below 2 to the 32
abbrev pub number_of : Names → Token → Option ℕ
number_of names (digits decimals) =
    if nat_lt (value_of_digits 10 decimals) (2 ^ 32) then Some (value_of_digits 10 decimals) else None
number_of names token = address_of names token

abbrev pub is_digits : Token → Bool
is_digits (digits decimals) = true
is_digits _ = false

abbrev pub is_free : List (List ℕ) → Token → Bool
is_free around (word name) = not (is_name_among openings name) && not (is_name_among around name)
is_free around _ = true

abbrev pub is_just : ℕ → Option ℕ → Bool
is_just n None = false
is_just n (Some m) = m == n

-- the number of a name among the enclosing bound names, innermost first; the innermost has the greatest number
abbrev pub number_among : List (List ℕ) → List ℕ → Option ℕ
number_among [] name = None
number_among (one ∷ around) name = if bytes_eq name one then Some (length around) else number_among around name

abbrev pub is_text : ℕ → List ℕ → Bool
is_text quote characters = is_quote quote && nat_lt 0 (length characters) && list_all (is_quotable quote) characters

-- Which expressions are allowed

-- whether an expression is a comparison; its left operand may be another comparison
abbrev pub is_comparison : Written → Bool
is_comparison (joined (Compare relation) e f) = true
is_comparison _ = false

abbrev pub joins : Infix → Written → Written → Bool
joins (Apply op) e f = is_number e && is_number f
joins (Compare relation) e f = (is_comparison e || is_number e) && is_number f
joins _ e f = is_fact e && is_fact f

-- whether an expression is not two joined by an operator: one operand, or what a word or sign makes
abbrev pub is_one : Written → Bool
is_one e = rank e == tightest

-- the surroundings of an expression: the names of the source, whether `at` is allowed, and the enclosing bound names,
-- innermost first
pub record Scope : Type 0 where
  pub names : Names
  pub is_within : Bool
  pub around : List (List ℕ)

abbrev pub inside : List ℕ → Scope → Scope
inside name scope = record scope { around = name ∷ scope.around }

-- whether the name is bound here under this number
abbrev pub counts : Scope → List ℕ → ℕ → Bool
counts scope name k = may_count name && length scope.around == k && nat_lt k 4

-- whether an expression is allowed in its surroundings
unfoldable pub fits : Scope → Written → Bool
fits scope (decimal token n) = is_digits token && is_just n (number_of scope.names token)
fits scope (literal token n) = is_just n (number_of scope.names token)
fits scope (byte token a) = is_free scope.around token && is_just a (address_of scope.names token)
fits scope (byte_in e) = is_number e && fits scope e
fits scope (word_of token a) = is_just a (address_of scope.names token)
fits scope (word_in e) = is_number e && fits scope e
fits scope (text token a quote characters) = is_just a (address_of scope.names token) && is_text quote characters
fits scope (text_in e quote characters) = is_number e && fits scope e && is_text quote characters
fits scope (atom it) = true
fits scope (counted name k) = is_just k (number_among scope.around name)
fits scope (group e) = fits scope e
fits scope (minus e) = is_one e && is_number e && fits scope e
fits scope (magnitude e) = is_one e && is_number e && fits scope e
fits scope (signed e) = is_one e && is_number e && fits scope e
fits scope (before e) = is_one e && fits scope e
fits scope (there label a e) = scope.is_within && is_just a (name_value scope.names label) && is_one e && fits scope e
fits scope (bit e f) = is_one e && is_number e && is_one f && is_number f && fits scope e && fits scope f
fits scope (least e f) = is_number e && is_number f && fits scope e && fits scope f
fits scope (greatest e f) = is_number e && is_number f && fits scope e && fits scope f
fits scope (negated e) = nat_le 4 (rank e) && is_fact e && fits scope e
fits scope (joined join e f) =
    nat_le (infix_rank join) (rank e) && nat_lt (infix_rank join) (takes_from e) && nat_lt (infix_rank join) (rank f)
    && joins join e f && fits scope e && fits scope f
fits scope (provided e f) = is_fact e && is_fact f && fits scope e && fits scope f
fits scope (one_of e f g) =
    is_fact e && ((is_number f && is_number g) || (is_fact f && is_fact g)) && not (takes_else f)
    && fits scope e && fits scope f && fits scope g
fits scope (for_all name k e f) =
    counts scope name k && nat_le 6 (rank e) && is_number e && is_fact f
    && fits scope e && fits (inside name scope) f
fits scope (sum_of name k e f) =
    counts scope name k && nat_le 6 (rank e) && is_number e && nat_le 6 (rank f) && is_number f
    && fits scope e && fits (inside name scope) f
