-- What is calculated is the value of the expression that was read.
use Rattle.std.proofs.Common.{◌≡◌, ℕ, suc, ◌≤◌, Bool, true, false, ltb, leb, List, [], ◌∷◌, ◌++◌, Option, Some, None, refl, arith, ap, sym, ◌∙◌, append_assoc}
use Rattle.std.proofs.Common.{subst}
use Rattle.std.proofs.lemmas.Option.{option_and_then_some, same_Some, none-some}
use Rattle.std.proofs.lemmas.List.{append-nil}
use Rattle.std.specs.Prelude.{ℤ, option_map}
use Rattle.a2_expand.specs.declared.value.Constant.{Constant}
use Rattle.a2_expand.specs.declared.value.Prefix.{Prefix}
use Rattle.a2_expand.specs.declared.value.Prefix.TheVariants.{Low, High, Negate, Invert}
use Rattle.a2_expand.specs.declared.value.Infix.{Infix}
use Rattle.a2_expand.specs.declared.value.Waiting.{Waiting}
use Rattle.a2_expand.specs.declared.value.Waiting.TheVariants as waits
use Rattle.a2_expand.specs.Expressions.{Expression, number, name, bracketed, after, joined, Piece, number_piece, name_piece, sign, signs, other, prefix_piece, infix_piece, spelled, prefix_rank, infix_rank, rank, least_after, is_grouped, changed, combined, HasValue, Says}
use Rattle.a2_expand.specs.Calculating.{State, start, waiting_rank, applied, settled, is_beginning, opening, infix_of, is_close, term_value, without_open, joining, begun, continued, step, run, only_value, finished, calculated}
use Rattle.a2_expand.proofs.Grouping.{need, infix_least, infix_most, need_most, infix_means, close_means, opening_means}

-- What was begun: a bracket, an operator before its operand, or one with its left operand and the value of that.
data Part : Type 0 where
  bracket : Part
  ahead : Prefix → Part
  behind : Infix → Expression → ℤ → Part

abbrev wait : Part → Waiting
wait bracket = waits.Open
wait (ahead op) = waits.Prefix op
wait (behind op e z) = waits.Infix op

abbrev waiting_of : List Part → List Waiting
waiting_of [] = []
waiting_of (part ∷ parts) = wait part ∷ waiting_of parts

abbrev values_of : List Part → List ℤ
values_of [] = []
values_of (behind op e z ∷ parts) = z ∷ values_of parts
values_of (bracket ∷ parts) = values_of parts
values_of (ahead op ∷ parts) = values_of parts

-- the pieces of what was begun, the last part first
abbrev read_of : List Part → List Piece
read_of [] = []
read_of (bracket ∷ parts) = read_of parts ++ sign 40 ∷ []
read_of (ahead op ∷ parts) = read_of parts ++ prefix_piece op ∷ []
read_of (behind op e z ∷ parts) = read_of parts ++ (spelled e ++ infix_piece op ∷ [])

abbrev Proper : {A : Type 0} → List (Constant A) → List Part → Type 0
Proper constants [] = Unit {0}
Proper constants (bracket ∷ parts) = Proper constants parts
Proper constants (ahead op ∷ parts) = (need (waiting_of parts) ≤ prefix_rank op) × Proper constants parts
Proper constants (behind op e z ∷ parts) =
    (need (waiting_of parts) ≤ infix_rank op) × (infix_rank op ≤ rank e) × (is_grouped e ≡ true) × HasValue constants e z × Proper constants parts

-- what was begun and a term behind it
record Term {A : Type 0} (constants : List (Constant A)) (read : List Piece) (values : List ℤ) (waiting : List Waiting) (r : ℕ) : Type 0 where
  parts : List Part
  term : Expression
  value : ℤ
  is_values : values ≡ value ∷ values_of parts
  is_waiting : waiting ≡ waiting_of parts
  is_read : read ≡ read_of parts ++ spelled term
  proper : Proper constants parts
  may : need (waiting_of parts) ≤ rank term
  binds : r ≤ rank term
  grouped : is_grouped term ≡ true
  has_value : HasValue constants term value

-- what was begun, where a term is expected
record Begun {A : Type 0} (constants : List (Constant A)) (read : List Piece) (values : List ℤ) (waiting : List Waiting) : Type 0 where
  parts : List Part
  is_values : values ≡ values_of parts
  is_waiting : waiting ≡ waiting_of parts
  is_read : read ≡ read_of parts
  proper : Proper constants parts

-- what waits after that binds less tightly
abbrev is_lower : ℕ → List Waiting → Bool
is_lower r [] = true
is_lower r (w ∷ waiting) = ltb (waiting_rank w) r

record Settled {A : Type 0} (constants : List (Constant A)) (read : List Piece) (t : List ℤ × List Waiting) (r : ℕ) : Type 0 where
  term : Term constants read t.0 t.1 r
  lower : is_lower r t.1 ≡ true

by_test : {P : Type 0} (b : Bool) → (b ≡ true → P) → (b ≡ false → P) → P
by_test true f g = f refl
by_test false f g = g refl

mapped : {X Y P : Type 0} (f : X → Y) (o : Option X) (y : Y) → option_map f o ≡ Some y → ((x : X) → o ≡ Some x → f x ≡ y → P) → P
mapped f None y h k = absurd cc
mapped f (Some x) y h k = k x refl cc

at_least : (a b : ℕ) → a ≤ b → leb a b ≡ true
at_least a b l = grind arith

above : (a b : ℕ) → suc a ≤ b → ltb a b ≡ true
above a b l = grind arith

grouped_after : (op : Prefix) (e : Expression) → least_after op ≤ rank e → is_grouped e ≡ true → is_grouped (after op e) ≡ true
grouped_after op e l g = rw (at_least (least_after op) (rank e) l, g) refl

grouped_joined : (op : Infix) (e f : Expression) → infix_rank op ≤ rank e → suc (infix_rank op) ≤ rank f → is_grouped e ≡ true → is_grouped f ≡ true → is_grouped (joined op e f) ≡ true
grouped_joined op e f l m g h = rw (at_least (infix_rank op) (rank e) l, above (infix_rank op) (rank f) m, g, h) refl

not_lower : (a r : ℕ) → ltb a r ≡ false → r ≤ a
not_lower a r h = grind arith

-- nothing is applied
ended : {A : Type 0} (constants : List (Constant A)) (r : ℕ) (parts : List Part) (e : Expression) (z : ℤ) (t : List ℤ × List Waiting)
    → Proper constants parts → need (waiting_of parts) ≤ rank e → r ≤ rank e → is_grouped e ≡ true → HasValue constants e z
    → is_lower r (waiting_of parts) ≡ true → (z ∷ values_of parts, waiting_of parts) ≡ t → Settled constants (read_of parts ++ spelled e) t r
ended constants r parts e z t p m b g v low is = subst (λ t. Settled constants (read_of parts ++ spelled e) t r) is (record {
  term = record { parts = parts; term = e; value = z; is_values = refl; is_waiting = refl; is_read = refl; proper = p; may = m; binds = b; grouped = g; has_value = v };
  lower = low;
})

settling : {A : Type 0} (constants : List (Constant A)) (r : ℕ) (parts : List Part) (e : Expression) (z : ℤ) (t : List ℤ × List Waiting)
    → Proper constants parts → need (waiting_of parts) ≤ rank e → r ≤ rank e → is_grouped e ≡ true → HasValue constants e z
    → settled r (z ∷ values_of parts) (waiting_of parts) ≡ Some t → Settled constants (read_of parts ++ spelled e) t r
settling constants r [] e z t p m b g v h = ended constants r [] e z t p m b g v refl (same_Some _ _ h)
settling constants r (bracket ∷ parts) e z t p m b g v h = by_test (ltb 0 r)
    (λ low. ended constants r (bracket ∷ parts) e z t p m b g v low (same_Some _ _ (rw low at h)))
    (λ high. absurd (none-some t (rw high at h)))
settling constants r (ahead op ∷ parts) e z t p m b g v h = by_test (ltb (prefix_rank op) r)
    (λ low. ended constants r (ahead op ∷ parts) e z t p m b g v low (same_Some _ _ (rw low at h)))
    (λ high. option_and_then_some (λ us. settled r us (waiting_of parts)) (applied (waits.Prefix op) (z ∷ values_of parts)) t (rw high at h) (λ us is k.
    mapped (λ y. y ∷ values_of parts) (changed op z) us is (λ y c same.
    subst (λ read. Settled constants read t r) (sym (append_assoc (read_of parts) (prefix_piece op ∷ []) (spelled e)))
    (settling constants r parts (after op e) y t p.1 p.0 (not_lower (prefix_rank op) r high) (grouped_after op e m g) (z, v, c)
    (ap (λ us. settled r us (waiting_of parts)) same ∙ k)))))
settling constants r (behind op f y ∷ parts) e z t p m b g v h = by_test (ltb (infix_rank op) r)
    (λ low. ended constants r (behind op f y ∷ parts) e z t p m b g v low (same_Some _ _ (rw low at h)))
    (λ high. option_and_then_some (λ us. settled r us (waiting_of parts)) (applied (waits.Infix op) (z ∷ y ∷ values_of parts)) t (rw high at h) (λ us is k.
    mapped (λ x. x ∷ values_of parts) (combined op y z) us is (λ x c same.
    subst (λ read. Settled constants read t r)
    (sym (append_assoc (read_of parts) (spelled f ++ infix_piece op ∷ []) (spelled e)
    ∙ ap (λ ps. read_of parts ++ ps) (append_assoc (spelled f) (infix_piece op ∷ []) (spelled e))))
    (settling constants r parts (joined op f e) x t p.4 p.0 (not_lower (infix_rank op) r high) (grouped_joined op f e p.1 m p.2 g) (y, z, p.3, v, c)
    (ap (λ us. settled r us (waiting_of parts)) same ∙ k)))))

-- the same of a term that was read
settles : {A : Type 0} (constants : List (Constant A)) (read : List Piece) (values : List ℤ) (waiting : List Waiting) (r : ℕ) (t : List ℤ × List Waiting)
    → Term constants read values waiting 6 → r ≤ 6 → settled r values waiting ≡ Some t → Settled constants read t r
settles constants read values waiting r t term l h =
    subst (λ read. Settled constants read t r) (sym term.is_read)
    (settling constants r term.parts term.term term.value t term.proper term.may (omega (arith, term.binds, l)) term.grouped term.has_value
    (ap (λ waiting. settled r (term.value ∷ values_of term.parts) waiting) (sym term.is_waiting)
    ∙ ap (λ values. settled r values waiting) (sym term.is_values) ∙ h))

abbrev Stands : {A : Type 0} → List (Constant A) → List Piece → List ℤ → List Waiting → Bool → Type 0
Stands constants read values waiting true = Term constants read values waiting 6
Stands constants read values waiting false = Begun constants read values waiting

abbrev StandsAt : {A : Type 0} → List (Constant A) → List Piece → State → Type 0
StandsAt constants read s = Stands constants read s.values s.waiting s.after

-- a bracket is closed

unbracketed : {P : Type 0} (parts : List Part) (values : List ℤ) (t : State) → without_open values (waiting_of parts) ≡ Some t
    → ((rest : List Part) → parts ≡ bracket ∷ rest → record { values = values; waiting = waiting_of rest; after = true } ≡ t → P) → P
unbracketed [] values t h k = absurd (none-some t h)
unbracketed (bracket ∷ rest) values t h k = k rest refl (same_Some _ _ h)
unbracketed (ahead op ∷ rest) values t h k = absurd (none-some t h)
unbracketed (behind op e z ∷ rest) values t h k = absurd (none-some t h)

closed_read : (parts : List Part) (rest : List Part) (e : Expression) → parts ≡ bracket ∷ rest
    → (read_of parts ++ spelled e) ++ sign 41 ∷ [] ≡ read_of rest ++ spelled (bracketed e)
closed_read parts rest e is =
    ap (λ parts. (read_of parts ++ spelled e) ++ sign 41 ∷ []) is
    ∙ append_assoc (read_of rest ++ sign 40 ∷ []) (spelled e) (sign 41 ∷ [])
    ∙ append_assoc (read_of rest) (sign 40 ∷ []) (spelled e ++ sign 41 ∷ [])

bracketed_term : {A : Type 0} (constants : List (Constant A)) (read : List Piece) (u : List ℤ × List Waiting) (t : State)
    → Settled constants read u 1 → without_open u.0 u.1 ≡ Some t → StandsAt constants (read ++ sign 41 ∷ []) t
bracketed_term constants read u t k h =
    let it = k.term in
    unbracketed it.parts u.0 t (ap (without_open u.0) (sym it.is_waiting) ∙ h) (λ rest is same.
    let p : Proper constants (bracket ∷ rest) = subst (Proper constants) is it.proper in
    subst (StandsAt constants (read ++ sign 41 ∷ [])) same (record {
      parts = rest;
      term = bracketed it.term;
      value = it.value;
      is_values = it.is_values ∙ ap (λ parts. it.value ∷ values_of parts) is;
      is_waiting = refl;
      is_read = ap (λ read. read ++ sign 41 ∷ []) it.is_read ∙ closed_read it.parts rest it.term is;
      proper = p;
      may = omega (arith, need_most (waiting_of rest));
      binds = omega arith;
      grouped = it.grouped;
      has_value = it.has_value;
    }))

-- an operator joins

low_prefix : (op : Prefix) (r : ℕ) → 2 ≤ r → r ≤ 4 → ltb (prefix_rank op) r ≡ true → least_after op ≤ r
low_prefix Low r l m h = l
low_prefix High r l m h = l
low_prefix Negate r l m h = absurd (grind arith)
low_prefix Invert r l m h = absurd (grind arith)

below : (a b : ℕ) → ltb a b ≡ true → suc a ≤ b
below a b h = grind arith

need_lower : (r : ℕ) (waiting : List Waiting) → 2 ≤ r → r ≤ 4 → is_lower r waiting ≡ true → need waiting ≤ r
need_lower r [] l m h = omega arith
need_lower r (waits.Open ∷ waiting) l m h = omega arith
need_lower r (waits.Prefix op ∷ waiting) l m h = low_prefix op r l m h
need_lower r (waits.Infix op ∷ waiting) l m h = below (infix_rank op) r h

joins : {A : Type 0} (constants : List (Constant A)) (read : List Piece) (op : Infix) (u : List ℤ × List Waiting)
    → Settled constants read u (infix_rank op) → Begun constants (read ++ infix_piece op ∷ []) u.0 (waits.Infix op ∷ u.1)
joins constants read op u k =
    let it = k.term in
    let low : is_lower (infix_rank op) (waiting_of it.parts) ≡ true = ap (is_lower (infix_rank op)) (sym it.is_waiting) ∙ k.lower in
    record {
      parts = behind op it.term it.value ∷ it.parts;
      is_values = it.is_values;
      is_waiting = ap (λ waiting. waits.Infix op ∷ waiting) it.is_waiting;
      is_read = ap (λ read. read ++ infix_piece op ∷ []) it.is_read ∙ append_assoc (read_of it.parts) (spelled it.term) (infix_piece op ∷ []);
      proper = (need_lower (infix_rank op) (waiting_of it.parts) (infix_least op) (infix_most op) low, it.binds, it.grouped, it.has_value, it.proper);
    }

continues : {A : Type 0} (constants : List (Constant A)) (read : List Piece) (s : State) (p : Piece) (t : State)
    → Term constants read s.values s.waiting 6 → continued s p ≡ Some t → StandsAt constants (read ++ p ∷ []) t
continues constants read s p t term h = by_test (is_close p)
    (λ close. option_and_then_some (λ (u : List ℤ × List Waiting). without_open u.0 u.1) (settled 1 s.values s.waiting) t (rw close at h) (λ u is k.
    subst (λ p. StandsAt constants (read ++ p ∷ []) t) (sym (close_means p close))
    (bracketed_term constants read u t (settles constants read s.values s.waiting 1 u term (omega arith) is) k)))
    (λ other. option_and_then_some (joining s) (infix_of p) t (rw other at h) (λ op is k.
    mapped (λ (u : List ℤ × List Waiting). record { values = u.0; waiting = waits.Infix op ∷ u.1; after = false }) (settled (infix_rank op) s.values s.waiting) t k
    (λ u ends same. subst (StandsAt constants (read ++ p ∷ [])) same
    (subst (λ p. Begun constants (read ++ p ∷ []) u.0 (waits.Infix op ∷ u.1)) (sym (infix_means p op is))
    (joins constants read op u (settles constants read s.values s.waiting (infix_rank op) u term (omega (arith, infix_most op)) ends))))))

-- a term begins

by_option : {X P : Type 0} (o : Option X) → (o ≡ None → P) → ((x : X) → o ≡ Some x → P) → P
by_option None f g = f refl
by_option (Some x) f g = g x refl

brackets : {A : Type 0} (constants : List (Constant A)) (read : List Piece) (values : List ℤ) (waiting : List Waiting)
    → Begun constants read values waiting → Begun constants (read ++ sign 40 ∷ []) values (waits.Open ∷ waiting)
brackets constants read values waiting it = record {
  parts = bracket ∷ it.parts;
  is_values = it.is_values;
  is_waiting = ap (λ waiting. waits.Open ∷ waiting) it.is_waiting;
  is_read = ap (λ read. read ++ sign 40 ∷ []) it.is_read;
  proper = it.proper;
}

goes_ahead : {A : Type 0} (constants : List (Constant A)) (read : List Piece) (values : List ℤ) (waiting : List Waiting) (op : Prefix) → need waiting ≤ prefix_rank op
    → Begun constants read values waiting → Begun constants (read ++ prefix_piece op ∷ []) values (waits.Prefix op ∷ waiting)
goes_ahead constants read values waiting op l it = record {
  parts = ahead op ∷ it.parts;
  is_values = it.is_values;
  is_waiting = ap (λ waiting. waits.Prefix op ∷ waiting) it.is_waiting;
  is_read = ap (λ read. read ++ prefix_piece op ∷ []) it.is_read;
  proper = (subst (λ waiting. need waiting ≤ prefix_rank op) it.is_waiting l, it.proper);
}

-- a number or a name
ends : {A : Type 0} (constants : List (Constant A)) (read : List Piece) (values : List ℤ) (waiting : List Waiting) (e : Expression) (z : ℤ)
    → 6 ≤ rank e → is_grouped e ≡ true → HasValue constants e z → Begun constants read values waiting → Term constants (read ++ spelled e) (z ∷ values) waiting 6
ends constants read values waiting e z l g v it = record {
  parts = it.parts;
  term = e;
  value = z;
  is_values = ap (λ values. z ∷ values) it.is_values;
  is_waiting = it.is_waiting;
  is_read = ap (λ read. read ++ spelled e) it.is_read;
  proper = it.proper;
  may = omega (arith, l, need_most (waiting_of it.parts));
  binds = l;
  grouped = g;
  has_value = v;
}

takes : {A : Type 0} (constants : List (Constant A)) (read : List Piece) (values : List ℤ) (waiting : List Waiting) (p : Piece) (z : ℤ)
    → Begun constants read values waiting → term_value constants p ≡ Some z → Term constants (read ++ p ∷ []) (z ∷ values) waiting 6
takes constants read values waiting (number_piece n) z it h = ends constants read values waiting (number n) z (omega arith) refl (sym (same_Some _ _ h)) it
takes constants read values waiting (name_piece word) z it h = ends constants read values waiting (name word) z (omega arith) refl h it
takes constants read values waiting (sign c) z it h = absurd (none-some z h)
takes constants read values waiting (signs c d) z it h = absurd (none-some z h)
takes constants read values waiting other z it h = absurd (none-some z h)

begins : {A : Type 0} (constants : List (Constant A)) (read : List Piece) (s : State) (p : Piece) (t : State)
    → Begun constants read s.values s.waiting → begun constants s p ≡ Some t → StandsAt constants (read ++ p ∷ []) t
begins constants read s p t it h = by_option (opening (is_beginning s.waiting) p)
    (λ none. mapped (λ z. record { values = z ∷ s.values; waiting = s.waiting; after = true }) (term_value constants p) t (rw (none, begun) at h)
    (λ z is same. subst (StandsAt constants (read ++ p ∷ [])) same (takes constants read s.values s.waiting p z it is)))
    (λ w some. subst (StandsAt constants (read ++ p ∷ [])) (same_Some _ _ (rw (some, begun) at h))
    (opening_means s.waiting p w some
    (λ opens is. subst (λ w. Begun constants (read ++ p ∷ []) s.values (w ∷ s.waiting)) (sym opens)
    (subst (λ p. Begun constants (read ++ p ∷ []) s.values (waits.Open ∷ s.waiting)) (sym is) (brackets constants read s.values s.waiting it)))
    (λ op it_is. subst (λ w. Begun constants (read ++ p ∷ []) s.values (w ∷ s.waiting)) (sym it_is.is)
    (subst (λ p. Begun constants (read ++ p ∷ []) s.values (waits.Prefix op ∷ s.waiting)) (sym it_is.is_piece)
    (goes_ahead constants read s.values s.waiting op it_is.may it)))))

-- all pieces

steps : {A : Type 0} (constants : List (Constant A)) (read : List Piece) (values : List ℤ) (waiting : List Waiting) (after : Bool) (p : Piece) (t : State)
    → Stands constants read values waiting after → step constants (record { values = values; waiting = waiting; after = after }) p ≡ Some t → StandsAt constants (read ++ p ∷ []) t
steps constants read values waiting true p t it h = continues constants read (record { values = values; waiting = waiting; after = true }) p t it h
steps constants read values waiting false p t it h = begins constants read (record { values = values; waiting = waiting; after = false }) p t it h

runs : {A : Type 0} (constants : List (Constant A)) (all read : List Piece) (s t : State)
    → StandsAt constants read s → run constants s all ≡ Some t → StandsAt constants (read ++ all) t
runs constants [] read s t it h = subst (λ read. StandsAt constants read t) (sym (append-nil read)) (subst (StandsAt constants read) (same_Some _ _ h) it)
runs constants (p ∷ all) read s t it h = option_and_then_some (λ u. run constants u all) (step constants s p) t h (λ u is k.
    subst (λ read. StandsAt constants read t) (append_assoc read (p ∷ []) all)
    (runs constants all (read ++ p ∷ []) u t (steps constants read s.values s.waiting s.after p u it is) k))

no_parts : {P : Type 0} (parts : List Part) (value y : ℤ) (values : List ℤ) → only_value (value ∷ values) (waiting_of parts) ≡ Some y → (parts ≡ [] → value ≡ y → P) → P
no_parts [] value y values h k = k refl (same_Some _ _ h)
no_parts (part ∷ parts) value y values h k = absurd (none-some y h)

ends_alone : {A : Type 0} (constants : List (Constant A)) (read : List Piece) (u : List ℤ × List Waiting) (y : ℤ)
    → Settled constants read u 1 → only_value u.0 u.1 ≡ Some y → Says constants read y
ends_alone constants read u y k h =
    let it = k.term in
    no_parts it.parts it.value y (values_of it.parts)
    (ap (only_value (it.value ∷ values_of it.parts)) (sym it.is_waiting) ∙ ap (λ values. only_value values u.1) (sym it.is_values) ∙ h)
    (λ none same. record {
      expression = it.term;
      is_spelled = it.is_read ∙ ap (λ parts. read_of parts ++ spelled it.term) none;
      is_grouped = it.grouped;
      has_value = subst (HasValue constants it.term) same it.has_value;
    })

finishes : {A : Type 0} (constants : List (Constant A)) (read : List Piece) (values : List ℤ) (waiting : List Waiting) (after : Bool) (y : ℤ)
    → Stands constants read values waiting after → finished (record { values = values; waiting = waiting; after = after }) ≡ Some y → Says constants read y
finishes constants read values waiting true y it h =
    option_and_then_some (λ (u : List ℤ × List Waiting). only_value u.0 u.1) (settled 1 values waiting) y h (λ u is k.
    ends_alone constants read u y (settles constants read values waiting 1 u it (omega arith) is) k)
finishes constants read values waiting false y it h = absurd (none-some y h)

pub spells : {A : Type 0} (constants : List (Constant A)) (all : List Piece) (y : ℤ) → calculated constants all ≡ Some y → Says constants all y
spells constants all y h = option_and_then_some finished (run constants start all) y h (λ t is k.
    finishes constants all t.values t.waiting t.after y
    (runs constants all [] start t (record { parts = []; is_values = refl; is_waiting = refl; is_read = refl; proper = tt }) is) k)
