-- The lines above a label, and what they promise.
use Rattle.std.specs.Prelude.{◌≡◌, ℕ, zero, suc, ◌+◌, IsTrue, Bool, true, false, not, ◌&&◌, ◌||◌, ◌==◌, List, [], ◌∷◌, ◌++◌, length, map, take, slice_get, Option, Some, None, IfSome, refl, if◌then◌else◌}
use Rattle.std.specs.List.{flat_map, list_any}
use Rattle.std.proofs.Common.{ap, sym, subst, ◌∙◌, arith, append_assoc}
use Rattle.std.proofs.lemmas.Bool.{and_parts, eqb-true, false≢true}
use Rattle.std.proofs.lemmas.Grind.{flat_map-append}
use Rattle.std.proofs.lemmas.List.{append-nil}
use Rattle.std.proofs.lemmas.List.Folds.{list_any-append}
use Rattle.std.proofs.lemmas.Option.{none-some, same_Some, slice_get-map}
use Rattle.a2_text.specs.Signs.{sign as code}
use Rattle.a2_text.specs.Words.{after_blanks}
use Rattle.a2_asm.specs.Values.{Names}
use Rattle.a2_promise.specs.declared.promises.Block.{Block}
use Rattle.a2_promise.specs.declared.promises.Promise.{Promise}
use Rattle.a2_promise.specs.declared.finding.SourceLine.{SourceLine}
use Rattle.a2_promise.specs.PromisedTerms.{Line, IsLine, AreLines, Change, IsPromise, IsStated, text_after_marker, is_blank_or_comment, begins_with, texts_last, texts_before, wanted_in, promised_in, changes_in, printed_in, taken_in, is_a, is_x, is_y, ranges_in, is_promising, terms_of}
use Rattle.a2_promise.specs.MarkedLines as marked
use Rattle.a2_promise.specs.Reading.{AddsLine}
use Rattle.a2_promise.specs.Finding.{Says, IsRead, ReadsLine, IsLineAt, IsAbove, IsEntry}

-- What a block says with one line more

lines_more : (names : Names) (texts : List (List ℕ)) (told : List Line) (text : List ℕ) (line : Line) → AreLines names texts told
    → IsLine names text line → AreLines names (texts ++ text ∷ []) (told ++ line ∷ [])
lines_more names [] [] text line h k = (k, tt)
lines_more names (t ∷ ts) (l ∷ ls) text line h k = (h.0, lines_more names ts ls text line h.1 k)
lines_more names [] (l ∷ ls) text line h k = absurd h
lines_more names (t ∷ ts) [] text line h k = absurd h

one_more : {A B : Type 0} (f : A → List B) (told : List A) (line : A) → flat_map f told ++ f line ≡ flat_map f (told ++ line ∷ [])
one_more f told line = sym (flat_map-append f told (line ∷ []) ∙ ap (λ l. flat_map f told ++ l) (append-nil (f line)))

any_more : (test : Change → Bool) (told : List Line) (line : Line) (before after : Bool) → before ≡ list_any test (flat_map changes_in told)
    → after ≡ (before || list_any test (changes_in line)) → after ≡ list_any test (flat_map changes_in (told ++ line ∷ []))
any_more test told line before after b a =
    a ∙ ap (λ b. b || list_any test (changes_in line)) b ∙ sym (list_any-append test (flat_map changes_in told) (changes_in line))
    ∙ ap (list_any test) (one_more changes_in told line)

neither : (a b : Bool) → (not a && not b) ≡ not (a || (b || false))
neither true b = refl
neither false true = refl
neither false false = refl

says_more : {names : Names} {texts : List (List ℕ)} {text : List ℕ} {before after : Block} → Says names texts before
    → AddsLine names text before after → Says names (texts ++ text ∷ []) after
says_more {names} {texts} {text} {before} {after} s a =
    let told = s.told ++ a.line ∷ [] in
    let was = before.promise.changes in
    let is = after.promise.changes in
    record {
      told = told;
      are_lines = lines_more names texts s.told text a.line s.are_lines a.is_line;
      promise = record {
        address = refl;
        wanted = a.wanted ∙ ap (λ l. l ++ wanted_in a.line) s.promise.wanted ∙ one_more wanted_in s.told a.line;
        promised = a.promised ∙ ap (λ l. l ++ promised_in a.line) s.promise.promised ∙ one_more promised_in s.told a.line;
        a = any_more is_a s.told a.line was.a is.a s.promise.a a.let_all.a;
        x = any_more is_x s.told a.line was.x is.x s.promise.x a.let_all.x;
        y = any_more is_y s.told a.line was.y is.y s.promise.y a.let_all.y;
        ranges = a.let_all.ranges ∙ ap (λ l. l ++ flat_map ranges_in (changes_in a.line)) s.promise.ranges
            ∙ sym (flat_map-append ranges_in (flat_map changes_in s.told) (changes_in a.line))
            ∙ ap (flat_map ranges_in) (one_more changes_in s.told a.line);
        prints = a.prints ∙ ap (λ l. l ++ printed_in a.line) s.promise.prints ∙ one_more printed_in s.told a.line;
        takes = a.takes ∙ ap (λ l. l ++ taken_in a.line) s.promise.takes ∙ one_more taken_in s.told a.line;
      };
      is_within = a.is_within ∙ ap (λ b. b && not (is_promising a.line)) s.is_within
          ∙ neither (list_any is_promising s.told) (is_promising a.line) ∙ ap not (sym (list_any-append is_promising s.told (a.line ∷ [])));
    }

read_more : {names : Names} {texts : List (List ℕ)} {text : List ℕ} {before after : Block} → IsRead names texts before
    → ReadsLine names text before after → IsRead names (texts ++ text ∷ []) after
read_more r l none = let n = l none in says_more (r n.0) n.1

-- a line that was read with another first line and other labels in the block
pub line_read : {names : Names} {text : List ℕ} {middle last : Block} (before after : Block) → AddsLine names text middle last
    → before.promise ≡ middle.promise → before.is_within ≡ middle.is_within → before.refused ≡ middle.refused → after.promise ≡ last.promise
    → after.is_within ≡ last.is_within → after.refused ≡ last.refused → ReadsLine names text before after
line_read before after a from_promise from_within from_refused to_promise to_within to_refused = λ none.
    let none_before : before.refused ≡ None = from_refused ∙ sym a.refused ∙ sym to_refused ∙ none in (
      none_before,
      record {
        line = a.line;
        is_line = a.is_line;
        wanted = rw (to_promise, from_promise) a.wanted;
        promised = rw (to_promise, from_promise) a.promised;
        let_all = rw (to_promise, from_promise) a.let_all;
        prints = rw (to_promise, from_promise) a.prints;
        takes = rw (to_promise, from_promise) a.takes;
        is_within = rw (to_within, from_within) a.is_within;
        refused = none ∙ sym none_before;
      },
    )

-- Which lines these are

last_more : (texts lines : List (List ℕ)) (line : List ℕ)
    → texts_last texts (lines ++ line ∷ []) ≡ (if is_blank_or_comment line then texts_last texts lines ++ text_after_marker (after_blanks line) else [])
last_more texts [] line = refl
last_more texts (l ∷ lines) line =
    last_more (if is_blank_or_comment l then texts ++ text_after_marker (after_blanks l) else []) lines line

up_to : (lines : List (List ℕ)) (k : ℕ) (line : List ℕ) → slice_get lines k ≡ Some line → take (suc k) lines ≡ take k lines ++ line ∷ []
up_to [] k line h = absurd (none-some line h)
up_to (l ∷ lines) zero line h = ap (λ l. l ∷ []) (same_Some l line h)
up_to (l ∷ lines) (suc k) line h = ap (λ ls. l ∷ ls) (up_to lines k line h)

texts_more : (lines : List (List ℕ)) (k : ℕ) {line : List ℕ} → slice_get lines k ≡ Some line
    → texts_before (suc k) lines ≡ (if is_blank_or_comment line then texts_before k lines ++ text_after_marker (after_blanks line) else [])
texts_more lines k {line} h = ap (texts_last []) (up_to lines k line h) ∙ last_more [] (take k lines) line

unmarked : (text : List ℕ) → ((rest : List ℕ) → text ≡ 0x3B ∷ 0x3A ∷ rest → ⊥) → text_after_marker text ≡ []
unmarked [] never = refl
unmarked (c ∷ []) never = refl
unmarked (c ∷ d ∷ rest) never = by (c == code ";" && d == code ":") refl
  where
    by : (b : Bool) → (c == code ";" && d == code ":") ≡ b → (if b then rest ∷ [] else []) ≡ []
    by true e =
        let is = and_parts (c == code ";") (d == code ":") e in
        absurd (never rest (ap (λ c. c ∷ d ∷ rest) (eqb-true c 0x3B is.0) ∙ ap (λ d. 0x3B ∷ d ∷ rest) (eqb-true d 0x3A is.1)))
    by false e = refl

one_is_true : (b c : Bool) → (b || true || c) ≡ true
one_is_true true c = refl
one_is_true false c = refl

pub read_marked : {names : Names} (lines : List (List ℕ)) (k : ℕ) {line rest : List ℕ} {before after : Block}
    → slice_get lines k ≡ Some line → marked.Says line rest → IsRead names (texts_before k lines) before → ReadsLine names rest before after
    → IsRead names (texts_before (suc k) lines) after
read_marked {names} lines k {line} {rest} h m r l =
    let same : texts_before (suc k) lines ≡ texts_before k lines ++ rest ∷ [] =
    texts_more lines k h
    ∙ ap (λ t. if length t == 0 || begins_with (code ";") t || begins_with (code "*") line then texts_before k lines ++ text_after_marker t else []) m
    ∙ ap (λ b. if b then texts_before k lines ++ rest ∷ [] else []) (one_is_true (suc (suc (length rest)) == 0) (begins_with (code "*") line)) in
    rw same (read_more r l)

pub read_comment : {names : Names} (lines : List (List ℕ)) (k : ℕ) {line : List ℕ} {block : Block} → slice_get lines k ≡ Some line
    → ((rest : List ℕ) → marked.Says line rest → ⊥) → is_blank_or_comment line ≡ true → IsRead names (texts_before k lines) block
    → IsRead names (texts_before (suc k) lines) block
read_comment lines k {line} h never is r =
    let same : texts_before (suc k) lines ≡ texts_before k lines =
    texts_more lines k h ∙ ap (λ b. if b then texts_before k lines ++ text_after_marker (after_blanks line) else []) is
    ∙ ap (λ t. texts_before k lines ++ t) (unmarked (after_blanks line) never) ∙ append-nil (texts_before k lines) in
    rw same r

pub read_other : {names : Names} (lines : List (List ℕ)) (k : ℕ) {line : List ℕ} {block : Block} → slice_get lines k ≡ Some line
    → is_blank_or_comment line ≡ false → IsRead names [] block → IsRead names (texts_before (suc k) lines) block
read_other lines k {line} h is r =
    let same : texts_before (suc k) lines ≡ [] =
    texts_more lines k h ∙ ap (λ b. if b then texts_before k lines ++ text_after_marker (after_blanks line) else []) is in
    rw same r

-- What is found

pub within_changed : {lines : List (List ℕ)} {names : Names} {promise : Promise} (other : Promise) → other.name ≡ promise.name → other.line ≡ promise.line
    → other.address ≡ promise.address → other.wanted ≡ promise.wanted → other.promised ≡ promise.promised → other.changes ≡ promise.changes
    → other.texts ≡ promise.texts → IsStated lines names promise → IsStated lines names other
within_changed other n l a w p c t s = record {
  above = s.above;
  line = l ∙ s.line;
  terms = s.terms;
  told = rw n s.told;
  says = record {
    address = a ∙ s.says.address;
    wanted = rw w s.says.wanted;
    promised = rw p s.says.promised;
    a = rw c s.says.a;
    x = rw c s.says.x;
    y = rw c s.says.y;
    ranges = rw c s.says.ranges;
    prints = rw t s.says.prints;
    takes = rw t s.says.takes;
  };
}

was_true : (b : Bool) → not b ≡ false → IsTrue b
was_true true e = refl
was_true false e = absurd (false≢true (sym e))

pub stated_at : {lines : List (List ℕ)} {names : Names} {block : Block} {line : SourceLine} {address : ℕ} (promise : Promise)
    → IsAbove lines names block line → IsEntry names block line.label.now address → block.is_within ≡ false → promise.name ≡ line.label
    → promise.line ≡ line.number → promise.address ≡ address → promise.wanted ≡ block.promise.wanted → promise.promised ≡ block.promise.promised
    → promise.changes ≡ block.promise.changes → promise.texts ≡ block.promise.texts → IsStated lines names promise
stated_at {block = block} {line} {address} promise above entry within n l a w p c t =
    let s = above.read entry.0 in
    record {
      above = above.above;
      line = l ∙ above.is_line.number;
      terms = terms_of address s.told;
      told = record {
        line = line.whole.now;
        stands = above.is_line.stands;
        is_label = rw n above.is_line.label;
        told = s.told;
        are_lines = s.are_lines;
        is_promise = was_true (list_any is_promising s.told) (sym s.is_within ∙ within);
        address = rw n entry.1;
        are_terms = refl;
      };
      says = record {
        address = a;
        wanted = rw w s.promise.wanted;
        promised = rw p s.promise.promised;
        a = rw c s.promise.a;
        x = rw c s.promise.x;
        y = rw c s.promise.y;
        ranges = rw c s.promise.ranges;
        prints = rw t s.promise.prints;
        takes = rw t s.promise.takes;
      };
    }

pub held_some : {X : Type 0} (P : X → Type 0) {o : Option X} {x : X} → o ≡ Some x → IfSome o P → P x
held_some P e h = subst (λ o. IfSome o P) e h
