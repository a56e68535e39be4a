-- Reading of what may change.
use Rattle.std.specs.Prelude.{◌≡◌, ◌≤◌, ℕ, Bool, true, false, not, ◌||◌, IsTrue, List, [], ◌∷◌, ◌++◌, map, codes, Some, refl}
use Rattle.std.specs.List.{list_any, list_all, flat_map}
use Rattle.std.proofs.lemmas.List.{append-nil}
use Rattle.std.proofs.Common.{ap, ap₂, sym, subst, ◌∙◌, inl, inr, append_assoc}
use Rattle.std.proofs.lemmas.List.{map-append}
use Rattle.std.proofs.lemmas.Bool.{le-leb}
use Rattle.a2_promise.specs.declared.promises.Changes.{Changes}
use Rattle.a2_promise.specs.declared.promises.Range.{Range}
use Rattle.a2_promise.specs.declared.reading.Class.{Class}
use Rattle.a2_promise.specs.declared.reading.Class.TheVariants as classes
use Rattle.a2_promise.specs.Tokens.{Token, word, sign}
use Rattle.a2_promise.specs.Grammar.{Scope, address_of, is_name_among}
use Rattle.a2_promise.specs.PromisedTerms.{Change, byte, bytes, change_names, is_other_name, change_fits, change_spelled, is_a, is_x, is_y, ranges_in}
use Rattle.a2_promise.specs.Reading.{State, Takes, LetsChange, IsUpTo, AddsChange, AddsChanges, ranges_of, first, token_of}
use Rattle.a2_promise.proofs.Names.{word_class}
use Rattle.a2_promise.proofs.Goings.{also}
use Rattle.a2_promise.proofs.Formers.{just}

not_false : (b : Bool) → b ≡ false → IsTrue (not b)
not_false true e = cc
not_false false e = refl

pub or_false : (b : Bool) → b ≡ (b || false)
or_false true = refl
or_false false = refl

or_assoc : (a b c : Bool) → ((a || b) || c) ≡ (a || (b || c))
or_assoc true b c = refl
or_assoc false b c = refl

other_by : (class : Class) (text : List ℕ) (t : Token) → token_of class text ≡ Some t → (class ≡ classes.Word → is_name_among change_names text ≡ false)
    → IsTrue (is_other_name change_names t)
other_by class text (word name) e h =
    let w = word_class class text name e in
    not_false (is_name_among change_names name) (ap (λ text. is_name_among change_names text) (sym w.1) ∙ h w.0)
other_by class text _ e h = refl

-- bytes may change, and nothing else is added
ranges_let : (change : Change) (before after : Changes) (range : Range) → (after.a ≡ before.a) × (after.x ≡ before.x) × (after.y ≡ before.y)
    → after.ranges.items ≡ before.ranges.items ++ range ∷ [] → ranges_in change ≡ (range.first, range.last) ∷ []
    → is_a change ≡ false → is_x change ≡ false → is_y change ≡ false → LetsChange change before after
ranges_let change before after range r e in_ a x y = record {
  a = r.0 ∙ or_false before.a ∙ ap (λ b. before.a || b) (sym a);
  x = r.1 ∙ or_false before.x ∙ ap (λ b. before.x || b) (sym x);
  y = r.2 ∙ or_false before.y ∙ ap (λ b. before.y || b) (sym y);
  ranges = ap (λ items. map (λ (range : Range). (range.first, range.last)) items) e
      ∙ map-append (λ (range : Range). (range.first, range.last)) before.ranges.items (range ∷ [])
      ∙ ap (λ more. ranges_of before ++ more) (sym in_);
}

pub change_read : (from to : ℕ) (class : Class) (text : List ℕ) {a m b : State} {before after : Changes} (range : Range)
    → token_of class text ≡ first a.left → (class ≡ classes.Word → is_name_among change_names text ≡ false)
    → (it : (token : Token) × Takes token a m × (address_of a.scope.names token ≡ Some from)) → IsUpTo from to m b → from ≤ to
    → (after.a ≡ before.a) × (after.x ≡ before.x) × (after.y ≡ before.y)
    → after.ranges.items ≡ before.ranges.items ++ range ∷ [] → range.first ≡ from → range.last ≡ to → AddsChange a b before after
change_read from to class text {a} {before = before} {after} range f o it up l r e i j =
    let t = it.0 in
    let other = other_by class text t (f ∙ ap first it.1.left) o in
    elim up [
      | inl far ↦ record {
        change = bytes t from far.0 to;
        goes = record {
          left = it.1.left ∙ ap (λ left. t ∷ left) far.1.left;
          parts = far.1.parts ∙ ap (λ parts. parts ++ []) it.1.parts;
          scope = far.1.scope ∙ it.1.scope;
        };
        fit = also (also (also other (just it.2)) (just (ap (λ (scope : Scope). address_of scope.names far.0) (sym it.1.scope) ∙ far.2))) (le-leb from to l);
        lets = ranges_let (bytes t from far.0 to) before after range r e (ap₂ (λ x y. (x, y) ∷ []) (sym i) (sym j)) refl refl refl;
      }
      | inr near ↦ record {
        change = byte t from;
        goes = rw near.1 (record { left = it.1.left; parts = it.1.parts ∙ sym (append-nil a.parts); scope = it.1.scope });
        fit = also other (just it.2);
        lets = ranges_let (byte t from) before after range r e (ap₂ (λ x y. (x, y) ∷ []) (sym i) (near.0 ∙ sym j)) refl refl refl;
      }
    ]

pub more_read : {a m n : State} {before middle after : Changes} → AddsChange a m before middle → Takes (sign (codes ",")) m n
    → AddsChanges n middle after → AddsChanges a before after
more_read {a} {n = n} {before} one t all =
    let c = one.change in
    let more = all.change ∷ all.more in
    let scope : n.scope ≡ a.scope = t.scope ∙ one.goes.scope in
    let P : Scope → Type 0 = λ scope. IsTrue (list_all (change_fits scope.names) more) in
    record {
      change = c;
      more = more;
      are_spelled = one.goes.left ∙ ap (λ left. change_spelled c ++ left) (t.left ∙ ap (λ left. sign (codes ",") ∷ left) all.are_spelled);
      fit = also one.fit (subst P scope all.fit);
      let_all = record {
        a = all.let_all.a ∙ ap (λ b. b || list_any is_a more) one.lets.a ∙ or_assoc before.a (is_a c) (list_any is_a more);
        x = all.let_all.x ∙ ap (λ b. b || list_any is_x more) one.lets.x ∙ or_assoc before.x (is_x c) (list_any is_x more);
        y = all.let_all.y ∙ ap (λ b. b || list_any is_y more) one.lets.y ∙ or_assoc before.y (is_y c) (list_any is_y more);
        ranges = all.let_all.ranges ∙ ap (λ ranges. ranges ++ flat_map ranges_in more) one.lets.ranges
            ∙ append_assoc (ranges_of before) (ranges_in c) (flat_map ranges_in more);
      };
    }
