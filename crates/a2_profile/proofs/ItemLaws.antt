-- The items of an array, and the bytes of a string, one after another.
use Rattle.std.specs.Prelude.{◌≡◌, ℕ, suc, ◌+◌, ◌-◌, ◌<◌, Bool, true, false, cond, List, [], ◌∷◌, ◌++◌, length, map, drop, codes, Option, Result, refl}
use Rattle.std.specs.List.{filter, flat_map}
use Rattle.std.specs.Borrow.{Bor}
use Rattle.std.specs.Fmt.{decimal}
use Rattle.std.proofs.Common.{sym, ap, ◌∙◌, arith, get_or, subst}
use Rattle.std.proofs.lemmas.List.{length-map, get_or-map, drop_more}
use Rattle.a2_stream.specs.Stream.{Taker, Sends, SendsOrBreaks}
use Rattle.a2_stream.proofs.Joined.{went_on}
use Rattle.a2_page.proofs.Sending.{IsLeft}
use Rattle.a2_asm.specs.declared.program.Statement.{Statement}
use Rattle.a2_machine.specs.declared.causes.Cause.{Cause}
use Rattle.a2_profile.specs.declared.profile.Count.{Count}
use Rattle.a2_symbols.specs.Statements.{instruction_on}
use Rattle.a2_profile.specs.Table.{is_never_done}
use Rattle.a2_text.specs.Json.{escaped}
use Rattle.a2_profile.specs.Json.{escapes, items, addresses_from, line_object, line_objects, never_numbers, cause_string}
use Rattle.a2_profile.specs.Callgrind.{shown_byte, line_cost, line_costs}

abbrev pub comma : List ℕ
comma = codes ",\n"

-- the first item after a front, and each further item after a comma
abbrev pub following : List ℕ → List (List ℕ) → List ℕ
following front [] = []
following front (text ∷ texts) = (front ++ text) ++ following comma texts

pub items-following : (texts : List (List ℕ)) → following [] texts ≡ items texts
unfolding items
items-following [] = refl
items-following (text ∷ texts) = ap (λ (l : List ℕ). text ++ l) (go texts)
  where
    go : (ts : List (List ℕ)) → following comma ts ≡ flat_map (λ y. comma ++ y) ts
    go [] = refl
    go (t ∷ ts) = ap (λ (l : List ℕ). (comma ++ t) ++ l) (go ts)

pub following-next : (front text : List ℕ) (texts rest : List (List ℕ)) → texts ≡ text ∷ rest → following front texts ≡ (front ++ text) ++ following comma rest
following-next front text texts rest is = ap (following front) is

-- after the head of an array, all items are left
pub left_items : (a b : Taker) (head front : List ℕ) (texts : List (List ℕ)) → front ≡ [] → Sends a b head
    → IsLeft a b (head ++ items texts) (following front texts)
left_items a b head front texts none sends = record {
  sent = head;
  sends = sends;
  parts = ap (λ (l : List ℕ). head ++ l) (ap (λ (l : List ℕ). following l texts) none ∙ items-following texts);
}

-- what is left is the same
pub left_same : (a b : Taker) (whole rest more : List ℕ) → rest ≡ more → IsLeft a b whole rest → IsLeft a b whole more
left_same a b whole rest more is h = subst (IsLeft a b whole) is h

-- the addresses from one on
addresses-next : (i end : ℕ) → i < end → addresses_from i (end - i) ≡ i ∷ addresses_from (i + 1) (end - (i + 1))
unfolding addresses_from
addresses-next i end low =
    let more : end - i ≡ suc (end - (i + 1)) = omega (arith, low) in
    ap (addresses_from i) more

pub shown-over : (p : ℕ → Bool) (f : ℕ → List ℕ) (i left : ℕ) → left ≡ 0 → map f (filter p (addresses_from i left)) ≡ []
unfolding addresses_from
shown-over p f i left none = ap (λ (n : ℕ). map f (filter p (addresses_from i n))) none

kept : {X : Type 0} (p : X → Bool) (f : X → List ℕ) (x : X) (xs : List X) → p x ≡ true → map f (filter p (x ∷ xs)) ≡ f x ∷ map f (filter p xs)
kept p f x xs is = ap (λ (b : Bool). map f (cond b (x ∷ filter p xs) (filter p xs))) is

skipped : {X : Type 0} (p : X → Bool) (f : X → List ℕ) (x : X) (xs : List X) → p x ≡ false → map f (filter p (x ∷ xs)) ≡ map f (filter p xs)
skipped p f x xs is = ap (λ (b : Bool). map f (cond b (x ∷ filter p xs) (filter p xs))) is

pub shown-next : (p : ℕ → Bool) (f : ℕ → List ℕ) (i end : ℕ) → i < end → p i ≡ true
    → map f (filter p (addresses_from i (end - i))) ≡ f i ∷ map f (filter p (addresses_from (i + 1) (end - (i + 1))))
shown-next p f i end low is = ap (λ (l : List ℕ). map f (filter p l)) (addresses-next i end low) ∙ kept p f i _ is

pub shown-skip : (p : ℕ → Bool) (f : ℕ → List ℕ) (i end : ℕ) → i < end → p i ≡ false
    → map f (filter p (addresses_from i (end - i))) ≡ map f (filter p (addresses_from (i + 1) (end - (i + 1))))
shown-skip p f i end low is = ap (λ (l : List ℕ). map f (filter p l)) (addresses-next i end low) ∙ skipped p f i _ is

-- the lines from one on
pub objects-next : (counts : List Count) (statements : List Statement) (n i : ℕ) (texts : List (Bor (List ℕ))) (d : Bor (List ℕ)) (own : Option Statement)
    → own ≡ instruction_on statements n → i < length texts
    → line_objects counts statements n (drop i (map (λ x. x.now) texts))
    ≡ line_object counts own n (get_or texts i d).now ∷ line_objects counts statements (n + 1) (drop (i + 1) (map (λ x. x.now) texts))
objects-next counts statements n i texts d own is_own low =
    let now = λ (x : Bor (List ℕ)). x.now in
    let count = length-map texts now in
    let rest = drop (i + 1) (map now texts) in
    ap (λ (l : List (List ℕ)). line_objects counts statements n l)
    (drop_more (map now texts) i [] (omega (arith, count, low)) ∙ ap (λ (line : List ℕ). line ∷ rest) (get_or-map now texts i d [] low))
    ∙ ap (λ (o : Option Statement). line_object counts o n (get_or texts i d).now ∷ line_objects counts statements (n + 1) rest) (sym is_own)

pub costs-next : (counts : List Count) (statements : List Statement) (n i : ℕ) (texts : List (Bor (List ℕ))) (own : Option Statement)
    → own ≡ instruction_on statements n → i < length texts
    → line_costs counts statements n (drop i (map (λ x. x.now) texts))
    ≡ line_cost counts own n ++ line_costs counts statements (n + 1) (drop (i + 1) (map (λ x. x.now) texts))
costs-next counts statements n i texts own is_own low =
    let now = λ (x : Bor (List ℕ)). x.now in
    let count = length-map texts now in
    let rest = drop (i + 1) (map now texts) in
    ap (λ (l : List (List ℕ)). line_costs counts statements n l) (drop_more (map now texts) i [] (omega (arith, count, low)))
    ∙ ap (λ (o : Option Statement). line_cost counts o n ++ line_costs counts statements (n + 1) rest) (sym is_own)

-- the statements from one on
pub numbers-next : (counts : List Count) (statements : List Statement) (i : ℕ) (d : Statement) → i < length statements
    → is_never_done counts (get_or statements i d) ≡ true
    → never_numbers counts (drop i statements) ≡ decimal (get_or statements i d).line ∷ never_numbers counts (drop (i + 1) statements)
numbers-next counts statements i d low is =
    ap (never_numbers counts) (drop_more statements i d low) ∙ kept (is_never_done counts) (λ (s : Statement). decimal s.line) (get_or statements i d) (drop (i + 1) statements) is

pub numbers-skip : (counts : List Count) (statements : List Statement) (i : ℕ) (d : Statement) → i < length statements
    → is_never_done counts (get_or statements i d) ≡ false
    → never_numbers counts (drop i statements) ≡ never_numbers counts (drop (i + 1) statements)
numbers-skip counts statements i d low is =
    ap (never_numbers counts) (drop_more statements i d low) ∙ skipped (is_never_done counts) (λ (s : Statement). decimal s.line) (get_or statements i d) (drop (i + 1) statements) is

-- the causes from one on
pub causes-next : (causes : List Cause) (i : ℕ) (d : Cause) → i < length causes
    → map cause_string (drop i causes) ≡ cause_string (get_or causes i d) ∷ map cause_string (drop (i + 1) causes)
causes-next causes i d low = ap (map cause_string) (drop_more causes i d low)

-- the bytes from one on
pub escapes-next : (text : List ℕ) (i d : ℕ) → i < length text → escapes (drop i text) ≡ escaped (get_or text i d) ++ escapes (drop (i + 1) text)
unfolding escapes
escapes-next text i d low = ap escapes (drop_more text i d low)

pub escapes-over : (text : List ℕ) → text ≡ [] → escapes text ≡ []
unfolding escapes
escapes-over text none = ap escapes none

-- the rest of a name's line, from a byte on
abbrev pub name_rest : List ℕ → List ℕ
name_rest bytes = map shown_byte bytes ++ codes "\n"

pub name-next : (name : List ℕ) (i d shown : ℕ) → shown ≡ shown_byte (get_or name i d) → i < length name
    → name_rest (drop i name) ≡ (shown ∷ []) ++ name_rest (drop (i + 1) name)
name-next name i d shown is low =
    ap name_rest (drop_more name i d low) ∙ ap (λ (byte : ℕ). byte ∷ name_rest (drop (i + 1) name)) (sym is)

-- the last part was written, or its write failed, as the result says
pub left_last : {T E : Type 0} → (a b c : Taker) (r : Result T E) (whole rest part : List ℕ) → rest ≡ part → IsLeft a b whole rest
    → SendsOrBreaks b c r part → SendsOrBreaks a c r whole
left_last a b c r whole rest part is h p =
    subst (SendsOrBreaks a c r) (ap (λ (l : List ℕ). h.sent ++ l) (sym is) ∙ h.parts) (went_on a b c r h.sent part h.sends p)
