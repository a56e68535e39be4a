-- What a line says after its verb.
use Rattle.std.specs.Prelude.{◌≡◌, ℕ, Bool, false, not, ◌&&◌, List, [], ◌∷◌, ◌++◌, map, Option, Some, refl}
use Rattle.std.specs.List.{Contains}
use Rattle.std.proofs.Common.{ap, sym, ◌∙◌}
use Rattle.std.proofs.lemmas.List.{append-nil}
use Rattle.a2_text.specs.Words.{after_blanks}
use Rattle.a2_asm.specs.Values.{Names}
use Rattle.a2_promise.specs.declared.parts.Part.{Part}
use Rattle.a2_promise.specs.declared.promises.Block.{Block}
use Rattle.a2_promise.specs.declared.promises.Changes.{Changes}
use Rattle.a2_promise.specs.declared.promises.Clause.{Clause}
use Rattle.a2_promise.specs.declared.promises.TheConstants.{VERBS}
use Rattle.a2_promise.specs.declared.promises.Verb.{Verb}
use Rattle.a2_promise.specs.declared.reading.Class.{Class}
use Rattle.a2_promise.specs.declared.texts.Text.{Text}
use Rattle.a2_promise.specs.Tokens.{Token, word, token_from, tokens}
use Rattle.a2_promise.specs.PromisedTerms.{Line, IsLine, IsFact, IsSpelt, wanted_in, promised_in, changes_in, printed_in, taken_in, is_promising}
use Rattle.a2_promise.specs.Reading.{AddsFact, AddsText, AddsLine, LetAllChange, said_by, characters_of, token_of, verb_name, with_rest}
use Rattle.a2_promise.proofs.Names.{token_by}
use Rattle.a2_promise.proofs.States.{first_is, rest_is}
use Rattle.a2_promise.proofs.TakenChanges.{or_false}

abbrev verbs : List (Class × List ℕ × Verb)
verbs = map (λ row. (row.0, row.1.now, row.2)) VERBS

abbrev IsVerb : Verb → Option Token → Type 0
IsVerb it token = token ≡ Some (word (verb_name it))

pub verb_found : (class : Class) (text : List ℕ) (it : Verb) → Contains verbs (class, text, it) → IsVerb it (token_of class text)
verb_found class text it listed =
    token_by IsVerb verbs class text it (refl, (refl, (refl, (refl, (refl, (refl, (refl, (refl, tt)))))))) listed

-- a verb was read, and this follows it
pub record Begins (verb line rest : List ℕ) : Type 0 where
  pub found : token_from (after_blanks line) ≡ Some (word verb, rest)
  pub left : tokens line ≡ word verb ∷ tokens rest

pub begins : {verb : List ℕ} (line rest : List ℕ) {found : Option Token} → with_rest found rest ≡ token_from (after_blanks line)
    → found ≡ Some (word verb) → Begins verb line rest
begins {verb} line rest {found} e f = record {
  found = sym e ∙ ap (λ found. with_rest found rest) f;
  left = rest_is found rest line (word verb) e (sym (first_is found rest line e) ∙ f);
}

pub fact_of : {verb line rest : List ℕ} {names : Names} {is_within : Bool} {around : List (List ℕ)} {parts : List Part} {clauses others : List Clause}
    → Begins verb line rest → is_within ≡ false → around ≡ []
    → (f : AddsFact (record { left = tokens rest; parts = parts; scope = record { names = names; is_within = is_within; around = around } }) clauses others)
    → IsFact names verb (tokens line) f.e
fact_of {verb} b w a f = (b.left ∙ ap (λ left. word verb ∷ left) f.is_spelled, rw (w, a) at f.fit)

pub spelt_of : {verb line rest : List ℕ} {texts others : List Text} → Begins verb line rest → (f : AddsText (after_blanks rest) texts others)
    → IsSpelt verb line f.characters
spelt_of {rest = rest} b f = record { rest = rest; inner = f.inner; begins = b.found; is_quoted = f.is_quoted; spells = f.spells }

-- what a line says, and what a block then says about each thing
pub says : {names : Names} {text : List ℕ} {before after : Block} (line : Line) → IsLine names text line
    → said_by after.promise.wanted.items ≡ said_by before.promise.wanted.items ++ wanted_in line
    → said_by after.promise.promised.items ≡ said_by before.promise.promised.items ++ promised_in line
    → LetAllChange (changes_in line) before.promise.changes after.promise.changes
    → characters_of after.promise.texts.prints.items ≡ characters_of before.promise.texts.prints.items ++ printed_in line
    → characters_of after.promise.texts.takes.items ≡ characters_of before.promise.texts.takes.items ++ taken_in line
    → after.is_within ≡ (before.is_within && not (is_promising line)) → after.refused ≡ before.refused → AddsLine names text before after
says line is wanted promised let_all prints takes within refused = record {
  line = line;
  is_line = is;
  wanted = wanted;
  promised = promised;
  let_all = let_all;
  prints = prints;
  takes = takes;
  is_within = within;
  refused = refused;
}

pub same : {A : Type 0} {all : List A} → all ≡ all ++ []
same {all = all} = sym (append-nil all)

pub unchanged : {changes : Changes} → LetAllChange [] changes changes
unchanged {changes} = record { a = or_false changes.a; x = or_false changes.x; y = or_false changes.y; ranges = same }
