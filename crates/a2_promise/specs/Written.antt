-- The written form of an expression in a promise: its words and signs, and what it says. This project's profile;
-- docs/manual/promises.md describes each form.
use Rattle.std.specs.Prelude.{ℕ, suc, ◌+◌, pos, List, [], ◌∷◌, ◌++◌, codes, Option, Some, None}
use Rattle.a2_syntax.specs.Numbers.{code_in}
use Rattle.a2_promise.specs.declared.expr.Atom.{Atom}
use Rattle.a2_promise.specs.declared.expr.Atom.TheVariants.{A, X, Y, S, Carry, Zero, Negative, Overflow, Decimal, Interrupt, Cycles, Steps}
use Rattle.a2_promise.specs.declared.expr.Function.TheVariants as function
use Rattle.a2_promise.specs.declared.expr.Operation.{Operation}
use Rattle.a2_promise.specs.declared.expr.Operation.TheVariants as operation
use Rattle.a2_promise.specs.declared.words.Infix.{Infix}
use Rattle.a2_promise.specs.declared.words.Infix.TheVariants.{Iff, Or, And, Compare, Apply}
use Rattle.a2_promise.specs.declared.words.Relation.{Relation}
use Rattle.a2_promise.specs.declared.words.Relation.TheVariants.{Equal, Other, Less, AtMost, More, AtLeast}
use Rattle.a2_promise.specs.Phrases.{Phrase, number, held, bound, old, at, of, pair, choice, each, sum}
use Rattle.a2_promise.specs.Tokens.{Token, word, sign, quoted}

-- An expression with its words and signs. Numbers, addresses and labels carry their values. A bound name carries its
-- number among the enclosing bound names.
pub data Written : Type 0 where
  decimal : Token → ℕ → Written
  literal : Token → ℕ → Written
  byte : Token → ℕ → Written
  byte_in : Written → Written
  word_of : Token → ℕ → Written
  word_in : Written → Written
  text : Token → ℕ → ℕ → List ℕ → Written
  text_in : Written → ℕ → List ℕ → Written
  atom : Atom → Written
  counted : List ℕ → ℕ → Written
  group : Written → Written
  minus : Written → Written
  magnitude : Written → Written
  signed : Written → Written
  before : Written → Written
  there : List ℕ → ℕ → Written → Written
  bit : Written → Written → Written
  least : Written → Written → Written
  greatest : Written → Written → Written
  negated : Written → Written
  joined : Infix → Written → Written → Written
  provided : Written → Written → Written
  one_of : Written → Written → Written → Written
  for_all : List ℕ → ℕ → Written → Written → Written
  sum_of : List ℕ → ℕ → Written → Written → Written

-- Spelling

abbrev pub atom_name : Atom → List ℕ
atom_name A = codes "A"
atom_name X = codes "X"
atom_name Y = codes "Y"
atom_name S = codes "S"
atom_name Carry = codes "C"
atom_name Zero = codes "Z"
atom_name Negative = codes "N"
atom_name Overflow = codes "V"
atom_name Decimal = codes "D"
atom_name Interrupt = codes "I"
atom_name Cycles = codes "cycles"
atom_name Steps = codes "steps"

abbrev pub relation_sign : Relation → List ℕ
relation_sign Equal = codes "="
relation_sign Other = codes "<>"
relation_sign Less = codes "<"
relation_sign AtMost = codes "<="
relation_sign More = codes ">"
relation_sign AtLeast = codes ">="

abbrev pub operation_sign : Operation → List ℕ
operation_sign operation.BitOr = codes "|"
operation_sign operation.BitXor = codes "^"
operation_sign operation.BitAnd = codes "&"
operation_sign operation.Plus = codes "+"
operation_sign operation.Minus = codes "-"
operation_sign operation.Times = codes "*"
operation_sign operation.Over = codes "/"
operation_sign operation.Modulo = codes "%"
operation_sign _ = []

abbrev pub infix_token : Infix → Token
infix_token Iff = word (codes "iff")
infix_token Or = word (codes "or")
infix_token And = word (codes "and")
infix_token (Compare relation) = sign (relation_sign relation)
infix_token (Apply op) = sign (operation_sign op)

abbrev pub between : List ℕ → List ℕ → List Token → List Token
between first last tokens = sign first ∷ (tokens ++ sign last ∷ [])

abbrev pub enclosed : List Token → List Token
enclosed tokens = between (codes "(") (codes ")") tokens

abbrev pub bracketed : List Token → List Token
bracketed tokens = between (codes "[") (codes "]") tokens

abbrev pub laid_text : ℕ → List ℕ → List Token
laid_text quote characters = sign (codes "=") ∷ quoted quote characters ∷ []

-- the words and signs of an expression
unfoldable pub spelled : Written → List Token
spelled (decimal token n) = token ∷ []
spelled (literal token n) = sign (codes "#") ∷ token ∷ []
spelled (byte token a) = token ∷ []
spelled (byte_in e) = bracketed (spelled e)
spelled (word_of token a) = word (codes "word") ∷ token ∷ []
spelled (word_in e) = word (codes "word") ∷ bracketed (spelled e)
spelled (text token a quote characters) = word (codes "text") ∷ token ∷ laid_text quote characters
spelled (text_in e quote characters) = word (codes "text") ∷ (bracketed (spelled e) ++ laid_text quote characters)
spelled (atom it) = word (atom_name it) ∷ []
spelled (counted name k) = word name ∷ []
spelled (group e) = enclosed (spelled e)
spelled (minus e) = sign (codes "-") ∷ spelled e
spelled (magnitude e) = word (codes "abs") ∷ spelled e
spelled (signed e) = word (codes "signed") ∷ spelled e
spelled (before e) = word (codes "old") ∷ spelled e
spelled (there label a e) = word (codes "at") ∷ word label ∷ spelled e
spelled (bit e f) = word (codes "bit") ∷ (spelled e ++ word (codes "of") ∷ spelled f)
spelled (least e f) = word (codes "min") ∷ enclosed (spelled e ++ sign (codes ",") ∷ spelled f)
spelled (greatest e f) = word (codes "max") ∷ enclosed (spelled e ++ sign (codes ",") ∷ spelled f)
spelled (negated e) = word (codes "not") ∷ spelled e
spelled (joined join e f) = spelled e ++ infix_token join ∷ spelled f
spelled (provided e f) = word (codes "if") ∷ (spelled e ++ word (codes "then") ∷ spelled f)
spelled (one_of e f g) = word (codes "if") ∷ (spelled e ++ word (codes "then") ∷ (spelled f ++ word (codes "else") ∷ spelled g))
spelled (for_all name k e f) =
    word (codes "for") ∷ word (codes "all") ∷ word name ∷ sign (codes "<") ∷ (spelled e ++ sign (codes ":") ∷ spelled f)
spelled (sum_of name k e f) = word (codes "sum") ∷ word name ∷ sign (codes "<") ∷ (spelled e ++ sign (codes ":") ∷ spelled f)

-- Meaning

abbrev pub negation : Phrase → Phrase
negation e = choice e (number (pos 0)) (number (pos 1))

abbrev pub both : Phrase → Phrase → Phrase
both e f = choice e f (number (pos 0))

abbrev pub compared : Relation → Phrase → Phrase → Phrase
compared Equal e f = pair operation.Equal e f
compared Other e f = negation (pair operation.Equal e f)
compared Less e f = pair operation.Less e f
compared AtMost e f = pair operation.AtMost e f
compared More e f = pair operation.Less f e
compared AtLeast e f = pair operation.AtMost f e

-- what an expression says; for a comparison also its last number, with which another comparison may continue, as in 3
-- < A < 9
pub record PhraseWithLast : Type 0 where
  pub phrase : Phrase
  pub last : Option Phrase

abbrev pub plain : Phrase → PhraseWithLast
plain phrase = record { phrase = phrase; last = None }

abbrev pub comparison : Relation → PhraseWithLast → Phrase → PhraseWithLast
comparison relation e f = record {
  phrase = elim e.last [ None ↦ compared relation e.phrase f | Some last ↦ both e.phrase (compared relation last f) ];
  last = Some f;
}

abbrev pub joint : Infix → PhraseWithLast → Phrase → PhraseWithLast
joint Iff e f = plain (pair operation.Equal e.phrase f)
joint Or e f = plain (choice e.phrase (number (pos 1)) f)
joint And e f = plain (both e.phrase f)
joint (Compare relation) e f = comparison relation e f
joint (Apply op) e f = plain (pair op e.phrase f)

-- the byte at a place is the code of a character between these quotes
abbrev pub is_laid : ℕ → Phrase → ℕ → Phrase
is_laid quote place character = pair operation.Equal (of function.Byte place) (number (pos (code_in quote character)))

-- the bytes from a place on are those of a text: given what was said of this many bytes, adds the others
abbrev pub are_laid_from : ℕ → (ℕ → Phrase) → Phrase → ℕ → List ℕ → Phrase
are_laid_from quote place said k [] = said
are_laid_from quote place said k (c ∷ characters) =
    are_laid_from quote place (both said (is_laid quote (place k) c)) (suc k) characters

abbrev pub are_laid : ℕ → (ℕ → Phrase) → List ℕ → Phrase
are_laid quote place [] = number (pos 1)
are_laid quote place (c ∷ characters) = are_laid_from quote place (is_laid quote (place 0) c) 1 characters

unfoldable pub meant : Written → PhraseWithLast
meant (decimal token n) = plain (number (pos n))
meant (literal token n) = plain (number (pos n))
meant (byte token a) = plain (of function.Byte (number (pos a)))
meant (byte_in e) = plain (of function.Byte (meant e).phrase)
meant (word_of token a) = plain (of function.Word (number (pos a)))
meant (word_in e) = plain (of function.Word (meant e).phrase)
meant (text token a quote characters) = plain (are_laid quote (λ k. number (pos (a + k))) characters)
meant (text_in e quote characters) = plain (are_laid quote (λ k. pair operation.Plus (meant e).phrase (number (pos k))) characters)
meant (atom it) = plain (held it)
meant (counted name k) = plain (bound k)
meant (group e) = plain (meant e).phrase
meant (minus e) = plain (pair operation.Minus (number (pos 0)) (meant e).phrase)
meant (magnitude e) = plain (of function.Abs (meant e).phrase)
meant (signed e) = plain (of function.Signed (meant e).phrase)
meant (before e) = plain (old (meant e).phrase)
meant (there label a e) = plain (at a (meant e).phrase)
meant (bit e f) = plain (pair operation.Bit (meant e).phrase (meant f).phrase)
meant (least e f) = plain (pair operation.Min (meant e).phrase (meant f).phrase)
meant (greatest e f) = plain (pair operation.Max (meant e).phrase (meant f).phrase)
meant (negated e) = plain (negation (meant e).phrase)
meant (joined join e f) = joint join (meant e) (meant f).phrase
meant (provided e f) = plain (choice (meant e).phrase (meant f).phrase (number (pos 1)))
meant (one_of e f g) = plain (choice (meant e).phrase (meant f).phrase (meant g).phrase)
meant (for_all name k e f) = plain (each k (meant e).phrase (meant f).phrase)
meant (sum_of name k e f) = plain (sum k (meant e).phrase (meant f).phrase)

-- what an expression says
abbrev pub said : Written → Phrase
said e = (meant e).phrase
