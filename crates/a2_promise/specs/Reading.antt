-- How a line of a promise is read, for the contracts of private functions. This project's own.
use Rattle.std.specs.Prelude.{◌≡◌, pos, not, ◌&&◌, ◌||◌, ◌⊎◌, ◌<◌, ◌≤◌, ℕ, zero, suc, ◌+◌, nat_le, min, Bool, true, false, IsTrue, List, [], ◌∷◌, ◌++◌, length, take, map, reverse, codes, Option, Some, None, if◌then◌else◌}
use Rattle.std.specs.List.{fold, flat_map, list_any, list_all, slice_range}
use Rattle.std.specs.Borrow.{Bor}
use Rattle.std.specs.Str.{bytes_eq}
use Rattle.a2_text.specs.Signs.{sign as code}
use Rattle.a2_syntax.specs.Numbers.{is_quotable, code_in}
use Rattle.a2_promise.specs.declared.reading.Class.{Class}
use Rattle.a2_promise.specs.declared.reading.Class.TheVariants as class
use Rattle.a2_asm.specs.Values.{Names}
use Rattle.a2_promise.specs.declared.expr.Expr.{Expr}
use Rattle.a2_promise.specs.declared.parsing.Piece.{Piece}
use Rattle.a2_promise.specs.declared.parts.Part.{Part}
use Rattle.a2_promise.specs.declared.parts.Part.TheVariants as part
use Rattle.a2_promise.specs.declared.promises.Clause.{Clause}
use Rattle.a2_bus.specs.KeyText.{SpellsKeys}
use Rattle.a2_promise.specs.declared.texts.Text.{Text}
use Rattle.a2_promise.specs.declared.expr.Atom.{Atom}
use Rattle.a2_promise.specs.declared.expr.Atom.TheVariants as atom
use Rattle.a2_promise.specs.declared.promises.Block.{Block}
use Rattle.a2_promise.specs.declared.promises.Changes.{Changes}
use Rattle.a2_promise.specs.declared.promises.Verb.{Verb}
use Rattle.a2_promise.specs.declared.promises.Verb.TheVariants as verb
use Rattle.a2_promise.specs.declared.reader.Reader.{Reader}
use Rattle.a2_promise.specs.declared.reader.Span.{Span}
use Rattle.a2_promise.specs.declared.words.Infix.{Infix}
use Rattle.a2_promise.specs.declared.words.Infix.TheVariants as joint
use Rattle.a2_promise.specs.declared.parsing.Place.{Place}
use Rattle.a2_promise.specs.declared.parsing.Place.TheVariants.{Fixed, Made}
use Rattle.a2_promise.specs.declared.words.Kind.{Kind}
use Rattle.a2_promise.specs.declared.words.Kind.TheVariants as kinds
use Rattle.a2_promise.specs.declared.words.Making.{Making}
use Rattle.a2_promise.specs.declared.words.Making.TheVariants as making
use Rattle.a2_promise.specs.declared.words.Relation.{Relation}
use Rattle.a2_promise.specs.declared.words.Relation.TheVariants as relation
use Rattle.a2_promise.specs.declared.expr.Function.{Function}
use Rattle.a2_promise.specs.declared.expr.Operation.TheVariants as operation
use Rattle.a2_promise.specs.declared.words.Opening.{Opening}
use Rattle.a2_promise.specs.declared.words.Opening.TheVariants as opening
use Rattle.a2_promise.specs.Tokens.{Token, word, decimal, place, sign, quoted, is_letter, front, following, quoted_from, tokens}
use Rattle.a2_promise.specs.Phrases.{Phrase, phrase_of, number, held, bound, old, at, of, pair, choice, each, sum}
use Rattle.a2_promise.specs.Written.{Written, atom_name, infix_token, spelled, meant, said, enclosed, bracketed, joined}
use Rattle.a2_promise.specs.Grammar.{Scope, fits, inside, infix_rank, is_comparison, is_number, is_fact, may_be_number, may_be_fact, address_of, counts, kind, rank as rank_of, takes_else, takes_from, tightest}
use Rattle.a2_promise.specs.PromisedTerms.{Change, Line, IsLine, wanted_in, promised_in, changes_in, printed_in, taken_in, is_promising, change_fits, change_spelled, more_spelled, AreChanges, is_a, is_x, is_y, ranges_in}

-- the token with a class and a text; none at the end
abbrev pub token_of : Class → List ℕ → Option Token
token_of class.End text = None
token_of class.Word text = Some (word text)
token_of class.Decimal text = Some (decimal text)
token_of class.Place text = Some (place text)
token_of class.Single text = Some (quoted 39 text)
token_of class.Double text = Some (quoted 34 text)
token_of class.Sign text = Some (sign text)

-- a token together with the text after it
abbrev pub with_rest : Option Token → List ℕ → Option (Token × List ℕ)
with_rest None following = None
with_rest (Some token) following = Some (token, following)

-- the token with this spelling: a word if it begins with a letter, otherwise a sign
abbrev pub spelling : List ℕ → Token
spelling [] = sign []
spelling (c ∷ text) = if is_letter c then word (c ∷ text) else sign (c ∷ text)

-- the class of a word or a sign agrees with its spelling
abbrev pub IsWritten : Class → List ℕ → Type 0
IsWritten class.Word text = spelling text ≡ word text
IsWritten class.Sign text = spelling text ≡ sign text
IsWritten _ text = Unit {0}

-- whether a token is the word or sign with this spelling
abbrev pub is_named : Class → List ℕ → List ℕ → Bool
is_named class.Word text other = bytes_eq text other
is_named class.Sign text other = bytes_eq text other
is_named _ text other = false

-- the text from a quote to the next one, and what follows it; a quote that is not closed is a sign
abbrev pub up_to : ℕ → List ℕ → Token × List ℕ
up_to quote text = quoted_from quote (front (is_quotable quote) text) (following (is_quotable quote) text) text

-- the word or sign that opens an expression
abbrev pub making_token : Making → Token
making_token making.Least = word (codes "min")
making_token making.Greatest = word (codes "max")
making_token making.Abs = word (codes "abs")
making_token making.Bit = word (codes "bit")
making_token making.Signed = word (codes "signed")
making_token making.Word = word (codes "word")
making_token making.Byte = sign (codes "[")
making_token making.Literal = sign (codes "#")
making_token making.Minus = sign (codes "-")

abbrev pub opening_token : Opening → Token
opening_token (opening.Held it) = word (atom_name it)
opening_token opening.Old = word (codes "old")
opening_token opening.At = word (codes "at")
opening_token opening.Text = word (codes "text")
opening_token opening.Not = word (codes "not")
opening_token opening.If = word (codes "if")
opening_token opening.Each = word (codes "for")
opening_token opening.Sum = word (codes "sum")
opening_token opening.Group = sign (codes "(")
opening_token (opening.Make it) = making_token it

-- the rows of a table: a class, a text, and the meaning of a token that has both
abbrev pub listed : {T : Type 0} → List (Class × Bor (List ℕ) × T) → List (Class × List ℕ × T)
listed rows = map (λ row. (row.0, row.1.now, row.2)) rows

-- there is a token, and it has this property
abbrev pub IsJust : Option Token → (Token → Type 0) → Type 0
IsJust None holds = ⊥
IsJust (Some token) holds = holds token

-- the number that is added to the code of a character between these quotes
abbrev pub IsTop : ℕ → ℕ → Type 0
IsTop quote top = (c : ℕ) → code_in quote c ≡ c + top

-- the state of a reader: the remaining tokens, the parts made so far, and the meaning of names
pub record State : Type 0 where
  pub left : List Token
  pub parts : List Part
  pub scope : Scope

-- the bound names of a reader, at most four, innermost first
abbrev pub around_of : Reader → List (List ℕ)
around_of reader = reverse (take (min reader.named 4) (map (λ name. name.now) reader.names))

abbrev pub scope_of : Reader → Scope
scope_of reader = record { names = reader.program.now.names; is_within = reader.is_within; around = around_of reader }

abbrev pub state_of : Reader → State
state_of reader = record { left = tokens reader.rest.now; parts = reader.parts.items; scope = scope_of reader }

-- the start of a line's text: no parts yet, and no bound names
abbrev pub beginning_of : List ℕ → Names → State
beginning_of text names =
    record { left = tokens text; parts = []; scope = record { names = names; is_within = false; around = [] } }

abbrev pub first : List Token → Option Token
first [] = None
first (token ∷ more) = Some token

-- one token was read
pub record Takes (token : Token) (before after : State) : Type 0 where
  pub left : before.left ≡ token ∷ after.left
  pub parts : after.parts ≡ before.parts
  pub scope : after.scope ≡ before.scope

-- parts were appended
pub record Puts (more : List Part) (before after : State) : Type 0 where
  pub left : after.left ≡ before.left
  pub parts : after.parts ≡ before.parts ++ more
  pub scope : after.scope ≡ before.scope

-- a name was bound under this number
pub record Binds (name : List ℕ) (k : ℕ) (before after : State) : Type 0 where
  pub left : after.left ≡ before.left
  pub parts : after.parts ≡ before.parts
  pub scope : after.scope ≡ inside name before.scope
  pub number : length before.scope.around ≡ k
  pub room : k < 4

-- the scope of the innermost bound name, which has this number, ended
pub record Unbinds (k : ℕ) (before after : State) : Type 0 where
  pub left : after.left ≡ before.left
  pub parts : after.parts ≡ before.parts
  pub scope : (name : List ℕ) (scope : Scope) → before.scope ≡ inside name scope → length scope.around ≡ k → after.scope ≡ scope

-- what a part makes of the phrases before it, last first; nothing if there are too few
abbrev pub made_by : Part → List Phrase → List Phrase
made_by (part.Number n) phrases = number n ∷ phrases
made_by (part.Held it) phrases = held it ∷ phrases
made_by (part.Bound k) phrases = bound k ∷ phrases
made_by part.Old (e ∷ phrases) = old e ∷ phrases
made_by (part.At a) (e ∷ phrases) = at a e ∷ phrases
made_by (part.Of f) (e ∷ phrases) = of f e ∷ phrases
made_by (part.Pair op) (f ∷ e ∷ phrases) = pair op e f ∷ phrases
made_by (part.Turned op) (f ∷ e ∷ phrases) = pair op f e ∷ phrases
made_by part.Choice (g ∷ f ∷ e ∷ phrases) = choice e f g ∷ phrases
made_by (part.Each k) (f ∷ e ∷ phrases) = each k e f ∷ phrases
made_by (part.Sum k) (f ∷ e ∷ phrases) = sum k e f ∷ phrases
made_by _ _ = []

unfoldable pub made : List Part → List Phrase → List Phrase
made parts phrases = fold (λ phrases part. made_by part phrases) phrases parts

-- what the expressions made so far say, last first
abbrev pub stack_of : List Expr → List Phrase
stack_of exprs = reverse (map phrase_of exprs)

-- these parts add one phrase, whatever was made before
abbrev pub Makes : List Part → Phrase → Type 0
Makes parts phrase = (phrases : List Phrase) → made parts phrases ≡ phrase ∷ phrases

-- an operator that comes next binds looser than this
abbrev pub Stops : ℕ → List Token → Type 0
Stops limit left = (join : Infix) → first left ≡ Some (infix_token join) → infix_rank join < tightest → infix_rank join < limit

-- no `else` comes next that would belong to what was read
abbrev pub NoElse : Bool → List Token → Type 0
NoElse takes left = IsTrue takes → first left ≡ Some (word (codes "else")) → ⊥

-- tokens were read, and parts were appended
pub record Goes (taken : List Token) (put : List Part) (before after : State) : Type 0 where
  pub left : before.left ≡ taken ++ after.left
  pub parts : after.parts ≡ before.parts ++ put
  pub scope : after.scope ≡ before.scope

-- tokens were read, and the appended parts make this of what was made before them
pub record Steps (taken : List Token) (making : List Phrase → List Phrase) (before after : State) : Type 0 where
  pub left : before.left ≡ taken ++ after.left
  pub parts : List Part
  pub puts : after.parts ≡ before.parts ++ parts
  pub makes : (phrases : List Phrase) → made parts phrases ≡ making phrases
  pub scope : after.scope ≡ before.scope

-- an expression was read, and nothing that follows would belong to it
pub record Reads (e : Written) (before after : State) : Type 0 where
  pub steps : Steps (spelled e) (λ phrases. said e ∷ phrases) before after
  pub fits : IsTrue (fits before.scope e)
  pub stops : Stops (takes_from e) after.left
  pub no_else : NoElse (takes_else e) after.left

-- the parts in a span make this phrase
abbrev pub IsMade : Span → Phrase → List Part → Type 0
IsMade span e parts = (span.ended ≤ length parts) × Makes (slice_range parts span.begun span.ended) e

-- the parts of the last number of a comparison, with which another comparison may continue
abbrev pub IsLast : List Part → Option Span → Written → Type 0
IsLast parts None e = (meant e).last ≡ None
IsLast parts (Some span) e =
    IsTrue (is_comparison e) × ((phrase : Phrase) × ((meant e).last ≡ Some phrase) × IsMade span phrase parts)

-- what is recorded about an expression that was read
pub record IsPiece (piece : Piece) (e : Written) (after : State) : Type 0 where
  pub kind : kind e ≡ piece.kind
  pub last : IsLast after.parts piece.last e

-- an expression was read that has this property and binds at least this tightly; no operator that binds as tightly
-- follows
pub record ReadsSuch (limit : ℕ) (holds : Written → Type 0) (before after : State) : Type 0 where
  pub e : Written
  pub reads : Reads e before after
  pub rank : IsTrue (nat_le limit (rank_of e))
  pub is : holds e
  pub stops : Stops limit after.left

abbrev pub ReadsOne : ℕ → (Written → Bool) → State → State → Type 0
ReadsOne limit test before after = ReadsSuch limit (λ e. IsTrue (test e)) before after

abbrev pub ReadsPiece : ℕ → Piece → State → State → Type 0
ReadsPiece limit piece before after = ReadsSuch limit (λ e. IsPiece piece e after) before after

-- an expression of this kind was read that is not two joined by an operator
pub record ReadsKind (as_kind : Kind) (before after : State) : Type 0 where
  pub e : Written
  pub reads : Reads e before after
  pub rank : IsTrue (nat_le tightest (rank_of e))
  pub kind : kind e ≡ as_kind

-- a number was read, and the `]` that closes it
pub record ReadsAddress (before after : State) : Type 0 where
  pub e : Written
  pub steps : Steps (spelled e ++ sign (codes "]") ∷ []) (λ phrases. said e ∷ phrases) before after
  pub fit : IsTrue (is_number e && fits before.scope e)

-- an expression was read that this operator joins to another
pub record ReadsJoined (join : Infix) (e : Written) (piece : Piece) (before after : State) : Type 0 where
  pub f : Written
  pub reads : Reads (joined join e f) before after
  pub piece_is : IsPiece piece (joined join e f) after

-- two numbers in parentheses were read, separated by a comma
pub record ReadsTwo (before after : State) : Type 0 where
  pub e : Written
  pub f : Written
  pub steps : Steps (enclosed (spelled e ++ sign (codes ",") ∷ spelled f)) (λ phrases. said f ∷ said e ∷ phrases) before after
  pub fit : IsTrue (is_number e && is_number f && fits before.scope e && fits before.scope f)

-- an address or a number was read, and the parts made from it were appended
pub record ReadsToken (value_of : Names → Token → Option ℕ) (parts_of : ℕ → List Part) (before after : State) : Type 0 where
  pub token : Token
  pub n : ℕ
  pub value : value_of before.scope.names token ≡ Some n
  pub goes : Goes (token ∷ []) (parts_of n) before after

-- something was read in this way, and then this part was appended
pub record ReadsThen (reads : State → State → Type 0) (it : Part) (before after : State) : Type 0 where
  pub middle : State
  pub read : reads before middle
  pub puts : Puts (it ∷ []) middle after

-- the head of a count was read: a name, `<`, a number and `:`
pub record ReadsCounted (k : ℕ) (before after : State) : Type 0 where
  pub name : List ℕ
  pub e : Written
  pub middle : State
  pub steps : Steps (word name ∷ sign (codes "<") ∷ (spelled e ++ sign (codes ":") ∷ [])) (λ phrases. said e ∷ phrases) before middle
  pub binds : Binds name k middle after
  pub fit : IsTrue (counts before.scope name k && nat_le 6 (rank_of e) && is_number e)
  pub fits : IsTrue (fits before.scope e)

-- the place of a text was read
abbrev pub ReadsPlace : Place → State → State → Type 0
ReadsPlace (Fixed a) before after = (token : Token) × Takes token before after × (address_of before.scope.names token ≡ Some a)
ReadsPlace (Made span) before after =
    (e : Written) × Steps (bracketed (spelled e)) (λ phrases. said e ∷ phrases) before after
    × IsTrue (is_number e && fits before.scope e) × IsMade span (said e) after.parts

-- the parts that negate a fact; then those that combine two facts with AND, and those of a comparison
abbrev pub negating : List Part
negating = part.Number (pos 0) ∷ part.Number (pos 1) ∷ part.Choice ∷ []

abbrev pub joining : List Part
joining = part.Number (pos 0) ∷ part.Choice ∷ []

abbrev pub comparing : Relation → List Part
comparing relation.Equal = part.Pair operation.Equal ∷ []
comparing relation.Other = part.Pair operation.Equal ∷ negating
comparing relation.Less = part.Pair operation.Less ∷ []
comparing relation.AtMost = part.Pair operation.AtMost ∷ []
comparing relation.More = part.Turned operation.Less ∷ []
comparing relation.AtLeast = part.Turned operation.AtMost ∷ []

-- the parts before and after the second of two joined facts
abbrev pub parts_before : Infix → List Part
parts_before joint.Or = part.Number (pos 1) ∷ []
parts_before _ = []

abbrev pub parts_known_after : Infix → List Part
parts_known_after joint.Or = part.Choice ∷ []
parts_known_after joint.And = joining
parts_known_after _ = part.Pair operation.Equal ∷ []

abbrev pub parts_of_address : Function → ℕ → List Part
parts_of_address f a = part.Number (pos a) ∷ part.Of f ∷ []

abbrev pub number_parts : ℕ → List Part
number_parts n = part.Number (pos n) ∷ []

-- after a comparison that continues another one, the parts that combine the two
abbrev pub parts_chaining : Option Span → List Part
parts_chaining None = []
parts_chaining (Some last) = joining

-- a comparison ended; the parts of its last number begin at this index
pub record EndsCompared (last : Option Span) (relation : Relation) (begun : ℕ) (piece : Piece) (before after : State) : Type 0 where
  pub kind : piece.kind ≡ kinds.Fact
  pub last_is : piece.last ≡ Some (record { begun = begun; ended = length before.parts })
  pub puts : Puts (comparing relation ++ parts_chaining last) before after

-- what a place that was read says about each byte from it on, and what is on top for the first byte
abbrev pub IsPlaced : Place → (ℕ → Phrase) → List Phrase → List Part → Type 0
IsPlaced (Fixed a) phrase top parts = ((k : ℕ) → phrase k ≡ number (pos (a + k))) × (top ≡ [])
IsPlaced (Made span) phrase top parts =
    (e : Phrase) × ((k : ℕ) → phrase k ≡ pair operation.Plus e (number (pos k))) × (top ≡ e ∷ []) × IsMade span e parts

abbrev pub pushed : ℕ → List Phrase → List Phrase
pushed zero top = top
pushed (suc k) top = []

-- parts were appended that make a phrase of what is on top
pub record PutsOf (top : List Phrase) (phrase : Phrase) (before after : State) : Type 0 where
  pub parts : List Part
  pub puts : Puts parts before after
  pub makes : (phrases : List Phrase) → made parts (top ++ phrases) ≡ phrase ∷ phrases

-- the kind of an `if` with two branches: a fact if both are facts, otherwise a number, and then both must be numbers
abbrev pub IsEither : Kind → Kind → Kind → Type 0
IsEither one other it =
    IsTrue ((may_be_number one && may_be_number other) || (may_be_fact one && may_be_fact other))
    × ((if may_be_fact one && may_be_fact other then kinds.Fact else kinds.Number) ≡ it)

-- what clauses say
abbrev pub said_by : List Clause → List Phrase
said_by clauses = map (λ clause. phrase_of clause.expr) clauses

-- the whole line was read, and the new clause says what its parts make
pub record AddsWhole (after : State) (clauses others : List Clause) : Type 0 where
  pub ended : after.left ≡ []
  pub clause : Clause
  pub more : List Phrase
  pub made_of : made after.parts [] ≡ phrase_of clause.expr ∷ more
  pub adds : others ≡ clauses ++ clause ∷ []

-- the whole line was read as a new clause: it spells a fact that is allowed here, and the clause says the same as the
-- fact
pub record AddsFact (before : State) (clauses others : List Clause) : Type 0 where
  pub e : Written
  pub is_spelled : before.left ≡ spelled e
  pub fit : IsTrue (is_fact e && fits before.scope e)
  pub adds : said_by others ≡ said_by clauses ++ said e ∷ []

-- the rest of the line was read as a new text, whose spelling in double quotes gives these characters
pub record AddsText (written : List ℕ) (texts others : List Text) : Type 0 where
  pub inner : List ℕ
  pub characters : List ℕ
  pub is_quoted : written ≡ code "\"" ∷ (inner ++ code "\"" ∷ [])
  pub spells : SpellsKeys inner characters
  pub adds : map (λ text. text.characters.items) others ≡ map (λ text. text.characters.items) texts ++ characters ∷ []

-- whether a register or flag may be listed in `changes`
abbrev pub is_listed : Atom → Bool
is_listed atom.Cycles = false
is_listed atom.Steps = false
is_listed _ = true

abbrev pub ranges_of : Changes → List (ℕ × ℕ)
ranges_of changes = map (λ range. (range.first, range.last)) changes.ranges.items

-- this change, and then a list of changes, was added to what may change
pub record LetsChange (change : Change) (before after : Changes) : Type 0 where
  pub a : after.a ≡ (before.a || is_a change)
  pub x : after.x ≡ (before.x || is_x change)
  pub y : after.y ≡ (before.y || is_y change)
  pub ranges : ranges_of after ≡ ranges_of before ++ ranges_in change

pub record LetAllChange (all : List Change) (before after : Changes) : Type 0 where
  pub a : after.a ≡ (before.a || list_any is_a all)
  pub x : after.x ≡ (before.x || list_any is_x all)
  pub y : after.y ≡ (before.y || list_any is_y all)
  pub ranges : ranges_of after ≡ ranges_of before ++ flat_map ranges_in all

-- an address was read after `..`, or nothing was read
abbrev pub IsUpTo : ℕ → ℕ → State → State → Type 0
IsUpTo a b before after =
    ((other : Token) × Goes (sign (codes "..") ∷ other ∷ []) [] before after × (address_of before.scope.names other ≡ Some b))
    ⊎ ((a ≡ b) × (after ≡ before))

-- one thing that may change was read, and then all of them up to the end of the line
pub record AddsChange (before after : State) (changes others : Changes) : Type 0 where
  pub change : Change
  pub goes : Goes (change_spelled change) [] before after
  pub fit : IsTrue (change_fits before.scope.names change)
  pub lets : LetsChange change changes others

pub record AddsChanges (before : State) (changes others : Changes) : Type 0 where
  pub change : Change
  pub more : List Change
  pub are_spelled : before.left ≡ change_spelled change ++ more_spelled more
  pub fit : IsTrue (list_all (change_fits before.scope.names) (change ∷ more))
  pub let_all : LetAllChange (change ∷ more) changes others

pub record IsChanges (before : State) (changes others : Changes) : Type 0 where
  pub all : List Change
  pub are_changes : AreChanges before.scope.names before.left all
  pub let_all : LetAllChange all changes others

-- the spelling of a verb, and then whether it says what holds within a routine
abbrev pub verb_name : Verb → List ℕ
verb_name verb.Requires = codes "requires"
verb_name verb.Ensures = codes "ensures"
verb_name verb.Changes = codes "changes"
verb_name verb.Prints = codes "prints"
verb_name verb.Takes = codes "takes"
verb_name verb.Invariant = codes "invariant"
verb_name verb.Decreases = codes "decreases"
verb_name verb.Note = codes "note"

abbrev pub says_within : Verb → Bool
says_within verb.Invariant = true
says_within verb.Decreases = true
says_within verb.Note = true
says_within _ = false

abbrev pub characters_of : List Text → List (List ℕ)
characters_of texts = map (λ text. text.characters.items) texts

-- a line's text says this, and it was added to a block
pub record AddsLine (names : Names) (text : List ℕ) (before after : Block) : Type 0 where
  pub line : Line
  pub is_line : IsLine names text line
  pub wanted : said_by after.promise.wanted.items ≡ said_by before.promise.wanted.items ++ wanted_in line
  pub promised : said_by after.promise.promised.items ≡ said_by before.promise.promised.items ++ promised_in line
  pub let_all : LetAllChange (changes_in line) before.promise.changes after.promise.changes
  pub prints : characters_of after.promise.texts.prints.items ≡ characters_of before.promise.texts.prints.items ++ printed_in line
  pub takes : characters_of after.promise.texts.takes.items ≡ characters_of before.promise.texts.takes.items ++ taken_in line
  pub is_within : after.is_within ≡ (before.is_within && not (is_promising line))
  pub refused : after.refused ≡ before.refused
