-- Lines give at most one promise: each says at most one thing, and the lines determine which of them come before a
-- label.
use Rattle.std.specs.Prelude.{◌≡◌, ℕ, true, false, ◌||◌, List, [], ◌∷◌, ◌++◌, length, codes, Option, Some, None}
use Rattle.std.specs.Str.{bytes_eq}
use Rattle.std.proofs.Common.{refl, sym, ap, ap₂, subst, ◌∙◌, inl, inr}
use Rattle.std.proofs.lemmas.Bool.{false≢true, and_parts, or_cases}
use Rattle.std.proofs.lemmas.Option.{same_Some, some_pair_parts}
use Rattle.std.proofs.lemmas.List.{append_cancel_right}
use Rattle.std.proofs.lemmas.Slice.Eq.{bytes_eq-Decides}
use Rattle.a2_text.specs.Signs.{sign as code}
use Rattle.a2_text.specs.Words.{after_blanks}
use Rattle.a2_asm.specs.Values.{Names}
use Rattle.a2_bus.specs.KeyText.{BeginsWith, SpellsKeys}
use Rattle.a2_bus.proofs.KeyReading.{begins_only, empty_begins}
use Rattle.a2_promise.specs.Tokens.{Token, word, token_from, tokens, tokens_up_to}
use Rattle.a2_promise.specs.Written.{Written}
use Rattle.a2_promise.specs.Grammar.{Scope, is_fact, fits, is_name_among}
use Rattle.a2_promise.specs.PromisedTerms.{Line, requires, ensures, changes, prints, takes, underway, IsSpelt, IsFact, IsLine, AreLines, AreChanges, terms_of, texts_before}
use Rattle.a2_promise.specs.OneReading.{LinesGiveOnePromise}
use Rattle.a2_promise.proofs.Finder.{named, behind_one}
use Rattle.a2_promise.proofs.Joints.{one_expression}
use Rattle.a2_promise.proofs.Changing.{changes_same}

-- The verb of a line

abbrev verbs : List (List ℕ × ℕ)
verbs = (codes "requires", 1) ∷ (codes "ensures", 2) ∷ (codes "changes", 3) ∷ (codes "prints", 4) ∷ (codes "takes", 5) ∷ []

abbrev verb_of : List Token → Option ℕ
verb_of (word name ∷ more) = named verbs name
verb_of _ = None

abbrev verb_in : Line → Option ℕ
verb_in (requires e) = Some 1
verb_in (ensures e) = Some 2
verb_in (changes all) = Some 3
verb_in (prints characters) = Some 4
verb_in (takes characters) = Some 5
verb_in (underway told) = None

underway_named : (verb : List ℕ) → is_name_among (codes "invariant" ∷ codes "decreases" ∷ codes "note" ∷ []) verb ≡ true
    → named verbs verb ≡ None
underway_named verb h = elim (or_cases (bytes_eq verb (codes "invariant"))
    (bytes_eq verb (codes "decreases") || (bytes_eq verb (codes "note") || false)) h) [
      | inl e ↦ ap (λ name. named verbs name) ((bytes_eq-Decides verb (codes "invariant")).0 e)
      | inr k ↦ elim (or_cases (bytes_eq verb (codes "decreases")) (bytes_eq verb (codes "note") || false) k) [
        | inl e ↦ ap (λ name. named verbs name) ((bytes_eq-Decides verb (codes "decreases")).0 e)
        | inr l ↦ elim (or_cases (bytes_eq verb (codes "note")) false l) [
          | inl e ↦ ap (λ name. named verbs name) ((bytes_eq-Decides verb (codes "note")).0 e)
          | inr never ↦ absurd (false≢true never)
        ]
      ]
    ]

-- the start of a text is its first word or sign
tail_of : List ℕ → List ℕ → List Token
tail_of [] rest = []
tail_of (c ∷ cs) rest = tokens_up_to (length cs) rest

first_token : (verb text rest : List ℕ) → token_from (after_blanks text) ≡ Some (word verb, rest)
    → tokens text ≡ word verb ∷ tail_of text rest
unfolding tokens tail_of
first_token verb [] rest h = let never : ⊥ = cc in absurd never
first_token verb (c ∷ cs) rest h =
    ap (λ (o : Option (Token × List ℕ)). elim o [ None ↦ [] | Some found ↦ found.0 ∷ tokens_up_to (length cs) found.1 ]) h

verb_is : (names : Names) (text : List ℕ) (line : Line) → IsLine names text line → verb_of (tokens text) ≡ verb_in line
verb_is names text (requires e) h = ap verb_of h.0
verb_is names text (ensures e) h = ap verb_of h.0
verb_is names text (changes all) h = ap verb_of h.1
verb_is names text (prints characters) h = ap verb_of (first_token (codes "prints") text h.rest h.begins)
verb_is names text (takes characters) h = ap verb_of (first_token (codes "takes") text h.rest h.begins)
verb_is names text (underway told) h = ap verb_of h.2 ∙ underway_named h.0 h.4

-- After the verb

fact_same : (names : Names) (verb : List ℕ) (tokens : List Token) (one other : Written) → IsFact names verb tokens one
    → IsFact names verb tokens other → one ≡ other
fact_same names verb tokens one other h k =
    let scope : Scope = record { names = names; is_within = false; around = [] } in
    one_expression scope one other refl (and_parts (is_fact one) (fits scope one) h.1).1
    (and_parts (is_fact other) (fits scope other) k.1).1
    (ap behind_one (sym h.0 ∙ k.0))

keys_same : (text one other : List ℕ) → SpellsKeys text one → SpellsKeys text other → one ≡ other
keys_same text [] [] h k = refl
keys_same text [] (key ∷ keys) h k =
    absurd (empty_begins key k.0 (subst (λ (t : List ℕ). BeginsWith t key k.0) h k.1))
keys_same text (key ∷ keys) [] h k =
    absurd (empty_begins key h.0 (subst (λ (t : List ℕ). BeginsWith t key h.0) k h.1))
keys_same text (key ∷ keys) (other ∷ others) h k =
    let only = begins_only text key other h.0 k.0 h.1 k.1 in
    ap (λ c. c ∷ keys) only.same_key
    ∙ ap (λ cs. other ∷ cs) (keys_same k.0 keys others (subst (λ (t : List ℕ). SpellsKeys t keys) only.same_rest h.2) k.2)

spelt_same : (verb text one other : List ℕ) → IsSpelt verb text one → IsSpelt verb text other → one ≡ other
spelt_same verb text one other h k =
    let rest : h.rest ≡ k.rest = (some_pair_parts (word verb) (word verb) h.rest k.rest (sym h.begins ∙ k.begins)).1 in
    let quoted : code "\"" ∷ (h.inner ++ code "\"" ∷ []) ≡ code "\"" ∷ (k.inner ++ code "\"" ∷ []) =
    sym h.is_quoted ∙ ap after_blanks rest ∙ k.is_quoted in
    let closed : h.inner ++ code "\"" ∷ [] ≡ k.inner ++ code "\"" ∷ [] = cc in
    let inner = append_cancel_right h.inner k.inner (code "\"" ∷ []) closed in
    keys_same k.inner one other (subst (λ (t : List ℕ). SpellsKeys t one) inner h.spells) k.spells

-- one line with one verb
said_same : (names : Names) (text : List ℕ) (one other : Line) → verb_in one ≡ verb_in other → IsLine names text one
    → IsLine names text other
    → one ≡ other
said_same names text (requires e) (requires f) v h k = ap requires (fact_same names (codes "requires") (tokens text) e f h k)
said_same names text (ensures e) (ensures f) v h k = ap ensures (fact_same names (codes "ensures") (tokens text) e f h k)
said_same names text (changes all) (changes others) v h k =
    let rest : h.0 ≡ k.0 = ap behind_one (sym h.1 ∙ k.1) in
    ap changes (changes_same names k.0 all others (subst (λ (ts : List Token). AreChanges names ts all) rest h.2) k.2)
said_same names text (prints characters) (prints others) v h k = ap prints
    (spelt_same (codes "prints") text characters others h k)
said_same names text (takes characters) (takes others) v h k = ap takes (spelt_same (codes "takes") text characters others h k)
said_same names text (underway told) (underway others) v h k = ap underway (h.3 ∙ sym k.3)
said_same names text one other v h k = let never : ⊥ = cc in absurd never

line_same : (names : Names) (text : List ℕ) (one other : Line) → IsLine names text one → IsLine names text other → one ≡ other
line_same names text one other h k =
    said_same names text one other (sym (verb_is names text one h) ∙ verb_is names text other k) h k

lines_same : (names : Names) (texts : List (List ℕ)) (one other : List Line) → AreLines names texts one
    → AreLines names texts other → one ≡ other
lines_same names [] [] [] h k = refl
lines_same names [] [] (other ∷ others) h k = absurd k
lines_same names [] (one ∷ more) others h k = absurd h
lines_same names (text ∷ texts) [] others h k = absurd h
lines_same names (text ∷ texts) (one ∷ more) [] h k = absurd k
lines_same names (text ∷ texts) (one ∷ more) (other ∷ others) h k =
    ap (λ l. l ∷ more) (line_same names text one other h.0 k.0) ∙ ap (λ ls. other ∷ ls)
    (lines_same names texts more others h.1 k.1)

pub one_promise : LinesGiveOnePromise
one_promise lines names above label one other h k =
    let told = lines_same names (texts_before above lines) h.told k.told h.are_lines k.are_lines in
    let address = same_Some one.address other.address (sym h.address ∙ k.address) in
    h.are_terms ∙ ap₂ (λ a ls. terms_of a ls) address told ∙ sym k.are_terms
