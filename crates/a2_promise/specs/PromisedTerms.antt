-- What a source promises before the line of a label. This project's profile; docs/manual/promises.md.
use Rattle.std.specs.Prelude.{◌≡◌, ℕ, suc, Bool, true, false, not, ◌&&◌, ◌||◌, ◌==◌, nat_le, IsTrue, List, [], ◌∷◌, ◌++◌, length, take, map, slice_get, codes, Option, Some, None, if◌then◌else◌}
use Rattle.std.specs.List.{All, list_all, list_any, flat_map}
use Rattle.a2_text.specs.Signs.{sign as code}
use Rattle.a2_text.specs.Words.{after_blanks}
use Rattle.a2_syntax.specs.Names.{is_name_byte}
use Rattle.a2_syntax.specs.Bare.{BareLine}
use Rattle.a2_asm.specs.Values.{Names, name_value}
use Rattle.a2_bus.specs.KeyText.{SpellsKeys}
use Rattle.a2_promise.specs.declared.expr.Atom.{Atom}
use Rattle.a2_promise.specs.declared.expr.Atom.TheVariants as atom
use Rattle.a2_promise.specs.declared.promises.Found.{Found}
use Rattle.a2_promise.specs.declared.promises.Found.TheVariants as found
use Rattle.a2_promise.specs.declared.promises.Promise.{Promise}
use Rattle.a2_promise.specs.Phrases.{Phrase, phrase_of}
use Rattle.a2_promise.specs.Tokens.{Token, word, sign, front, token_from, tokens}
use Rattle.a2_promise.specs.Written.{Written, atom_name, spelled, said}
use Rattle.a2_promise.specs.Grammar.{address_of, fits, is_fact, is_just, is_name_among}

-- What a line says

-- a thing listed in `changes`: a register or a flag, a byte, or the bytes from one address to another
pub data Change : Type 0 where
  held : Atom → Change
  byte : Token → ℕ → Change
  bytes : Token → ℕ → Token → ℕ → Change

-- what follows `;:` in a line; the last kind says what holds at a label, and promises nothing
pub data Line : Type 0 where
  requires : Written → Line
  ensures : Written → Line
  changes : List Change → Line
  prints : List ℕ → Line
  takes : List ℕ → Line
  underway : List Token → Line

abbrev pub may_change : Atom → Bool
may_change atom.S = false
may_change atom.Cycles = false
may_change atom.Steps = false
may_change _ = true

abbrev pub change_names : List (List ℕ)
change_names = map codes ("A" ∷ "X" ∷ "Y" ∷ "S" ∷ "C" ∷ "Z" ∷ "N" ∷ "V" ∷ "D" ∷ "I" ∷ [])

abbrev pub is_other_name : List (List ℕ) → Token → Bool
is_other_name names (word name) = not (is_name_among names name)
is_other_name names _ = true

abbrev pub change_fits : Names → Change → Bool
change_fits names (held it) = may_change it
change_fits names (byte token a) = is_other_name change_names token && is_just a (address_of names token)
change_fits names (bytes token a other b) =
    is_other_name change_names token && is_just a (address_of names token) && is_just b (address_of names other) && nat_le a b

abbrev pub change_spelled : Change → List Token
change_spelled (held it) = word (atom_name it) ∷ []
change_spelled (byte token a) = token ∷ []
change_spelled (bytes token a other b) = token ∷ sign (codes "..") ∷ other ∷ []

abbrev pub more_spelled : List Change → List Token
more_spelled [] = []
more_spelled (change ∷ more) = sign (codes ",") ∷ (change_spelled change ++ more_spelled more)

-- `nothing`, or changes separated by commas
abbrev pub AreChanges : Names → List Token → List Change → Type 0
AreChanges names tokens [] = tokens ≡ word (codes "nothing") ∷ []
AreChanges names tokens (change ∷ more) =
    (tokens ≡ change_spelled change ++ more_spelled more)
    × IsTrue (list_all (change_fits names) (change ∷ more))
    × (tokens ≡ word (codes "nothing") ∷ [] → ⊥)

-- a verb followed by a text in double quotes, spelt as keys are
pub record IsSpelt (verb text characters : List ℕ) : Type 0 where
  pub rest : List ℕ
  pub inner : List ℕ
  pub begins : token_from (after_blanks text) ≡ Some (word verb, rest)
  pub is_quoted : after_blanks rest ≡ code "\"" ∷ (inner ++ code "\"" ∷ [])
  pub spells : SpellsKeys inner characters

-- a fact after a verb; it has no enclosing bound names, and `at` is not allowed in it
abbrev pub IsFact : Names → List ℕ → List Token → Written → Type 0
IsFact names verb tokens e =
    (tokens ≡ word verb ∷ spelled e) × IsTrue (is_fact e && fits (record { names = names; is_within = false; around = [] }) e)

-- one of three verbs, followed by anything
abbrev pub IsLabelClause : List Token → List Token → Type 0
IsLabelClause tokens told =
    (verb : List ℕ) × (rest : List Token) × (tokens ≡ word verb ∷ rest) × (told ≡ tokens)
    × IsTrue (is_name_among (codes "invariant" ∷ codes "decreases" ∷ codes "note" ∷ []) verb)

-- the text of a line, after its `;:`, says this
abbrev pub IsLine : Names → List ℕ → Line → Type 0
IsLine names text (requires e) = IsFact names (codes "requires") (tokens text) e
IsLine names text (ensures e) = IsFact names (codes "ensures") (tokens text) e
IsLine names text (changes all) = (rest : List Token) × (tokens text ≡ word (codes "changes") ∷ rest) × AreChanges names rest all
IsLine names text (prints characters) = IsSpelt (codes "prints") text characters
IsLine names text (takes characters) = IsSpelt (codes "takes") text characters
IsLine names text (underway told) = IsLabelClause (tokens text) told

abbrev pub AreLines : Names → List (List ℕ) → List Line → Type 0
AreLines names [] [] = Unit {0}
AreLines names (text ∷ texts) (line ∷ lines) = IsLine names text line × AreLines names texts lines
AreLines names _ _ = ⊥

-- The lines before a label

-- the text after `;:` in a line, if it has one; there may be spaces before it
abbrev pub text_after_marker : List ℕ → List (List ℕ)
text_after_marker (c ∷ d ∷ rest) = if c == code ";" && d == code ":" then rest ∷ [] else []
text_after_marker _ = []

abbrev pub begins_with : ℕ → List ℕ → Bool
begins_with c [] = false
begins_with c (d ∷ rest) = d == c

-- whether a line is blank or a comment; lines with `;:` are comments too
abbrev pub is_blank_or_comment : List ℕ → Bool
is_blank_or_comment line = length (after_blanks line) == 0 || begins_with (code ";") (after_blanks line) || begins_with (code "*") line

-- the label of a line, and then of a source's line, counted from 0; empty if the line has no label
abbrev pub label_of : List ℕ → List ℕ
label_of line = front is_name_byte line

abbrev pub label_or_none : Option (List ℕ) → List ℕ
label_or_none None = []
label_or_none (Some name) = name

abbrev pub label_in : List BareLine → ℕ → List ℕ
label_in source k = elim (slice_get source k) [ None ↦ [] | Some line ↦ label_or_none line.label ]

-- the texts after `;:` in the last of these lines, with only comments and blank lines in between, added after the
-- texts already found
abbrev pub texts_last : List (List ℕ) → List (List ℕ) → List (List ℕ)
texts_last texts [] = texts
texts_last texts (line ∷ lines) = texts_last (if is_blank_or_comment line then texts ++ text_after_marker (after_blanks line) else []) lines

-- the same for the lines directly above the line with this many lines above it
abbrev pub texts_before : ℕ → List (List ℕ) → List (List ℕ)
texts_before above lines = texts_last [] (take above lines)

-- What is promised

-- the promise of the routine at an address: what it requires and ensures; the registers and the ranges of bytes that
-- may be different after it; and the characters of each text that it prints and of each text that it takes as keys. A
-- missing text differs from an empty one.
pub record Terms : Type 0 where
  pub address : ℕ
  pub wanted : List Phrase
  pub promised : List Phrase
  pub a : Bool
  pub x : Bool
  pub y : Bool
  pub ranges : List (ℕ × ℕ)
  pub prints : List (List ℕ)
  pub takes : List (List ℕ)

abbrev pub wanted_in : Line → List Phrase
wanted_in (requires e) = said e ∷ []
wanted_in _ = []

abbrev pub promised_in : Line → List Phrase
promised_in (ensures e) = said e ∷ []
promised_in _ = []

abbrev pub changes_in : Line → List Change
changes_in (changes all) = all
changes_in _ = []

abbrev pub printed_in : Line → List (List ℕ)
printed_in (prints characters) = characters ∷ []
printed_in _ = []

abbrev pub taken_in : Line → List (List ℕ)
taken_in (takes characters) = characters ∷ []
taken_in _ = []

abbrev pub is_a : Change → Bool
is_a (held atom.A) = true
is_a _ = false

abbrev pub is_x : Change → Bool
is_x (held atom.X) = true
is_x _ = false

abbrev pub is_y : Change → Bool
is_y (held atom.Y) = true
is_y _ = false

abbrev pub ranges_in : Change → List (ℕ × ℕ)
ranges_in (held it) = []
ranges_in (byte token a) = (a, a) ∷ []
ranges_in (bytes token a other b) = (a, b) ∷ []

abbrev pub terms_of : ℕ → List Line → Terms
terms_of address lines =
    let all = flat_map changes_in lines in
    record {
      address = address;
      wanted = flat_map wanted_in lines;
      promised = flat_map promised_in lines;
      a = list_any is_a all;
      x = list_any is_x all;
      y = list_any is_y all;
      ranges = flat_map ranges_in all;
      prints = flat_map printed_in lines;
      takes = flat_map taken_in lines;
    }

abbrev pub is_promising : Line → Bool
is_promising (underway told) = false
is_promising _ = true

-- The lines of a source with these names promise this of the routine whose label begins a line; that line has this
-- many lines above it.
pub record IsPromisedBy (lines : List (List ℕ)) (names : Names) (above : ℕ) (label : List ℕ) (terms : Terms) : Type 0 where
  pub line : List ℕ
  pub stands : slice_get lines above ≡ Some line
  pub is_label : label_of line ≡ label
  pub told : List Line
  pub are_lines : AreLines names (texts_before above lines) told
  pub is_promise : IsTrue (list_any is_promising told)
  pub address : name_value names label ≡ Some terms.address
  pub are_terms : terms ≡ terms_of terms.address told

-- a promise that was read says this
pub record IsPromise (promise : Promise) (terms : Terms) : Type 0 where
  pub address : promise.address ≡ terms.address
  pub wanted : map (λ clause. phrase_of clause.expr) promise.wanted.items ≡ terms.wanted
  pub promised : map (λ clause. phrase_of clause.expr) promise.promised.items ≡ terms.promised
  pub a : promise.changes.a ≡ terms.a
  pub x : promise.changes.x ≡ terms.x
  pub y : promise.changes.y ≡ terms.y
  pub ranges : map (λ range. (range.first, range.last)) promise.changes.ranges.items ≡ terms.ranges
  pub prints : map (λ text. text.characters.items) promise.texts.prints.items ≡ terms.prints
  pub takes : map (λ text. text.characters.items) promise.texts.takes.items ≡ terms.takes

-- the lines of a source with these names promise this of the routine whose label is in the promise's line
pub record IsStated (lines : List (List ℕ)) (names : Names) (promise : Promise) : Type 0 where
  pub above : ℕ
  pub line : promise.line ≡ suc above
  pub terms : Terms
  pub told : IsPromisedBy lines names above promise.name.now terms
  pub says : IsPromise promise terms

-- what was found, if it is not an error, is a promise of the lines; then for all that was found
abbrev pub IsFound : List (List ℕ) → Names → Found → Type 0
IsFound lines names (found.Promise promise) = IsStated lines names promise
IsFound lines names (found.Refused refusal label) = Unit {0}

abbrev pub AreFound : List (List ℕ) → Names → List Found → Type 0
AreFound lines names all = All (IsFound lines names) all
