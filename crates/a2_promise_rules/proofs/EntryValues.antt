-- The value of a phrase at a routine's entry if some bytes are known; it is the same in each memory that has these
-- bytes.
use Rattle.std.specs.Prelude.{◌≡◌, ℕ, zero, suc, ◌+◌, ◌%◌, ℤ, pos, Bool, true, false, ◌&&◌, IsTrue, List, [], ◌∷◌, map, Option, Some, None, is_some, if◌then◌else◌, slice_get, slice_set, refl}
use Rattle.std.specs.List.{list_all}
use Rattle.std.proofs.Common.{ap, ap₂, ◌∙◌}
use Rattle.std.proofs.lemmas.Bool.{false≢true}
use Rattle.a2_effect.specs.Registers.{Registers}
use Rattle.a2_promise.specs.declared.expr.Atom.{Atom}
use Rattle.a2_promise.specs.declared.expr.Atom.TheVariants as atom
use Rattle.a2_promise.specs.declared.expr.Expr.{Expr}
use Rattle.a2_promise.specs.declared.expr.Expr.TheVariants.{Number, Held, Bound, Old', At', Of', Pair', Choice', Each', Sum'}
use Rattle.a2_promise.specs.declared.expr.Function.{Function}
use Rattle.a2_promise.specs.declared.expr.Function.TheVariants as function
use Rattle.a2_promise.specs.declared.expr.Operation.{Operation}
use Rattle.a2_promise.specs.declared.expr.Operation.TheVariants as operation
use Rattle.a2_promise.specs.declared.promises.Clause.{Clause}
use Rattle.a2_promise.specs.Values.{Moment, held as held_atom, word_in, byte_value, word_value, byte_at, word_at, made, made_of, operated_on, is_zero, chosen, count_of, each_below, sum_below, at_count, value_of}
use Rattle.a2_promise.specs.Phrases.{Phrase, number, held, bound, old, at, of, pair, choice, each, sum, phrase_of}
use Rattle.a2_promise_certify.specs.Judging.{all_hold, holds, no_names}
use Rattle.a2_promise_rules.proofs.Ranges.{both}

-- a moment at the entry
abbrev pub entry : Registers → List ℕ → Moment
entry registers bytes = record { registers = registers; bytes = bytes; cycles = 0; steps = 0 }

-- The value, given the bytes that are known

abbrev byte_seen : (ℕ → Option ℕ) → Option ℕ → Option ℤ
byte_seen peek None = None
byte_seen peek (Some a) = byte_value (peek a)

abbrev word_seen : (ℕ → Option ℕ) → Option ℕ → Option ℤ
word_seen peek None = None
word_seen peek (Some a) = word_value (peek a) (peek ((a + 1) % 65536))

abbrev made_seen : Function → (ℕ → Option ℕ) → ℤ → Option ℤ
made_seen function.Byte peek x = byte_seen peek (word_in x)
made_seen function.Word peek x = word_seen peek (word_in x)
made_seen function.Signed peek x = made function.Signed [] x
made_seen function.Abs peek x = made function.Abs [] x

abbrev of_seen : Function → (ℕ → Option ℕ) → Option ℤ → Option ℤ
of_seen f peek None = None
of_seen f peek (Some x) = made_seen f peek x

abbrev seen : Phrase → Registers → (ℕ → Option ℕ) → List ℤ → Option ℤ
seen (number n) registers peek names = Some n
seen (held a) registers peek names = Some (held_atom a (entry registers []))
seen (bound name) registers peek names = slice_get names name
seen (old e) registers peek names = seen e registers peek names
seen (at a e) registers peek names = None
seen (of f e) registers peek names = of_seen f peek (seen e registers peek names)
seen (pair op x y) registers peek names = operated_on op (seen x registers peek names) (seen y registers peek names)
seen (choice c x y) registers peek names =
    chosen (seen c registers peek names) (seen x registers peek names) (seen y registers peek names)
seen (each name n e) registers peek names =
    at_count (count_of (seen n registers peek names)) (λ k. seen e registers peek (slice_set names name (pos k))) each_below
seen (sum name n e) registers peek names =
    at_count (count_of (seen n registers peek names)) (λ k. seen e registers peek (slice_set names name (pos k))) sum_below

-- If it is a number, the value is that number

abbrev Under : {X : Type 0} → Option X → Option X → Type 0
Under {X} o p = (x : X) → o ≡ Some x → p ≡ Some x

never : {X : Type 0} {Y : Type 0} (x : X) → None ≡ Some x → Y
never x h = absurd (false≢true (ap is_some h))

pair_under : (op : Operation) (ox px oy py : Option ℤ) → Under ox px → Under oy py
    → Under (operated_on op ox oy) (operated_on op px py)
pair_under op None px oy py ux uy z h = never z h
pair_under op (Some x) px None py ux uy z h = never z h
pair_under op (Some x) px (Some y) py ux uy z h = ap₂ (λ a b. operated_on op a b) (ux x refl) (uy y refl) ∙ h

chosen_under : (oc pc ox px oy py : Option ℤ) → Under oc pc → Under ox px → Under oy py
    → Under (chosen oc ox oy) (chosen pc px py)
chosen_under None pc ox px oy py uc ux uy z h = never z h
chosen_under (Some c) pc ox px oy py uc ux uy z h = ap (λ o. chosen o px py) (uc c refl) ∙ by (is_zero c) h
  where
    by : (b : Bool) → (if b then oy else ox) ≡ Some z → (if b then py else px) ≡ Some z
    by true so = uy z so
    by false so = ux z so

count_under : (o p : Option ℤ) → Under o p → Under (count_of o) (count_of p)
count_under None p u n h = never n h
count_under (Some x) p u n h = ap count_of (u x refl) ∙ h

each_under : (n : ℕ) (f g : ℕ → Option ℤ) → ((k : ℕ) → Under (f k) (g k)) → Under (each_below n f) (each_below n g)
each_under zero f g u z h = h
each_under (suc n) f g u z h =
    chosen_under (each_below n f) (each_below n g) (f n) (g n) (Some (pos 0)) (Some (pos 0)) (each_under n f g u) (u n)
    (λ x so. so) z h

sum_under : (n : ℕ) (f g : ℕ → Option ℤ) → ((k : ℕ) → Under (f k) (g k)) → Under (sum_below n f) (sum_below n g)
sum_under zero f g u z h = h
sum_under (suc n) f g u z h = pair_under operation.Plus (sum_below n f) (sum_below n g) (f n) (g n) (sum_under n f g u) (u n) z h

at_under : (o p : Option ℕ) (f g : ℕ → Option ℤ) (fold : ℕ → (ℕ → Option ℤ) → Option ℤ)
    → ((n : ℕ) → Under (fold n f) (fold n g)) → Under o p → Under (at_count o f fold) (at_count p g fold)
at_under None p f g fold under u z h = never z h
at_under (Some n) p f g fold under u z h = ap (λ o. at_count o g fold) (u n refl) ∙ under n z h

module _ (peek : ℕ → Option ℕ) (all : List ℕ) (shows : (a byte : ℕ) → peek a ≡ Some byte → slice_get all a ≡ Some byte)
    (registers : Registers) where
  bytes_under : (a : ℕ) → Under (peek a) (slice_get all a)
  bytes_under a byte h = shows a byte h

  value_under : (o p : Option ℕ) → Under o p → Under (byte_value o) (byte_value p)
  value_under None p u z h = never z h
  value_under (Some byte) p u z h = ap byte_value (u byte refl) ∙ h

  word_under : (o p low high : Option ℕ) → Under o p → Under low high → Under (word_value o low) (word_value p high)
  word_under None p low high u v z h = never z h
  word_under (Some byte) p None high u v z h = never z h
  word_under (Some byte) p (Some other) high u v z h = ap₂ (λ a b. word_value a b) (u byte refl) (v other refl) ∙ h

  byte_under : (o : Option ℕ) → Under (byte_seen peek o) (byte_at all o)
  byte_under None z h = never z h
  byte_under (Some a) z h = value_under (peek a) (slice_get all a) (bytes_under a) z h

  words_under : (o : Option ℕ) → Under (word_seen peek o) (word_at all o)
  words_under None z h = never z h
  words_under (Some a) z h =
      word_under (peek a) (slice_get all a) (peek ((a + 1) % 65536)) (slice_get all ((a + 1) % 65536))
      (bytes_under a) (bytes_under ((a + 1) % 65536)) z h

  made_under : (f : Function) (x : ℤ) → Under (made_seen f peek x) (made f all x)
  made_under function.Byte x z h = byte_under (word_in x) z h
  made_under function.Word x z h = words_under (word_in x) z h
  made_under function.Signed x z h = h
  made_under function.Abs x z h = h

  of_under : (f : Function) (o p : Option ℤ) → Under o p → Under (of_seen f peek o) (made_of f all p)
  of_under f None p u z h = never z h
  of_under f (Some x) p u z h = ap (λ o. made_of f all o) (u x refl) ∙ made_under f x z h

  same_atom : (a : Atom) → held_atom a (entry registers all) ≡ held_atom a (entry registers [])
  same_atom atom.A = refl
  same_atom atom.X = refl
  same_atom atom.Y = refl
  same_atom atom.S = refl
  same_atom atom.Carry = refl
  same_atom atom.Zero = refl
  same_atom atom.Negative = refl
  same_atom atom.Overflow = refl
  same_atom atom.Decimal = refl
  same_atom atom.Interrupt = refl
  same_atom atom.Cycles = refl
  same_atom atom.Steps = refl

  abbrev here : Moment
  here = entry registers all

  under : (e : Expr) (names : List ℤ) → Under (seen (phrase_of e) registers peek names) (value_of e here here names)
  under (Number n) names z h = h
  under (Held a) names z h = ap (λ v. Some v) (same_atom a) ∙ h
  under (Bound name) names z h = h
  under (Old' p e) names z h = under e names z h
  under (At' a p e) names z h = never z h
  under (Of' f p e) names z h = of_under f (seen (phrase_of e) registers peek names) (value_of e here here names) (under e names) z h
  under (Pair' op p x q y) names z h =
      pair_under op (seen (phrase_of x) registers peek names) (value_of x here here names)
      (seen (phrase_of y) registers peek names) (value_of y here here names) (under x names) (under y names) z h
  under (Choice' p c q x r y) names z h =
      chosen_under (seen (phrase_of c) registers peek names) (value_of c here here names)
      (seen (phrase_of x) registers peek names) (value_of x here here names)
      (seen (phrase_of y) registers peek names) (value_of y here here names) (under c names) (under x names) (under y names) z h
  under (Each' name p n q e) names z h =
      let f : ℕ → Option ℤ = λ k. seen (phrase_of e) registers peek (slice_set names name (pos k)) in
      let g : ℕ → Option ℤ = λ k. value_of e here here (slice_set names name (pos k)) in
      at_under (count_of (seen (phrase_of n) registers peek names)) (count_of (value_of n here here names)) f g each_below
      (λ m. each_under m f g (λ k. under e (slice_set names name (pos k))))
      (count_under (seen (phrase_of n) registers peek names) (value_of n here here names) (under n names)) z h
  under (Sum' name p n q e) names z h =
      let f : ℕ → Option ℤ = λ k. seen (phrase_of e) registers peek (slice_set names name (pos k)) in
      let g : ℕ → Option ℤ = λ k. value_of e here here (slice_set names name (pos k)) in
      at_under (count_of (seen (phrase_of n) registers peek names)) (count_of (value_of n here here names)) f g sum_below
      (λ m. sum_under m f g (λ k. under e (slice_set names name (pos k))))
      (count_under (seen (phrase_of n) registers peek names) (value_of n here here names) (under n names)) z h

  -- what is known to hold does hold
  holds_under : (o p : Option ℤ) → Under o p → holds o ≡ true → holds p ≡ true
  holds_under None p u h = absurd (false≢true h)
  holds_under (Some x) p u h = ap holds (u x refl) ∙ h

abbrev seen_to_hold : Registers → (ℕ → Option ℕ) → Phrase → Bool
seen_to_hold registers peek p = holds (seen p registers peek no_names)

-- whether all phrases are known to hold
abbrev pub all_seen : List Phrase → Registers → (ℕ → Option ℕ) → Bool
all_seen phrases registers peek = list_all (seen_to_hold registers peek) phrases

abbrev phrases : List Clause → List Phrase
phrases clauses = map (λ clause. phrase_of clause.expr) clauses

-- the clauses that say these phrases hold in a memory that has the bytes
pub seen_holds : (peek : ℕ → Option ℕ) (all : List ℕ) → ((a byte : ℕ) → peek a ≡ Some byte → slice_get all a ≡ Some byte)
    → (registers : Registers) (clauses : List Clause) → all_seen (phrases clauses) registers peek ≡ true
    → IsTrue (all_hold clauses (entry registers all) (entry registers all))
seen_holds peek all shows registers [] h = refl
seen_holds peek all shows registers (clause ∷ more) h =
    let e = clause.expr in
    let two = both (seen_to_hold registers peek (phrase_of e)) (all_seen (phrases more) registers peek) h in
    let moment = entry registers all in
    ap₂ (λ a b. a && b)
    (holds_under peek all shows registers (seen (phrase_of e) registers peek no_names) (value_of e moment moment no_names)
    (under peek all shows registers e no_names) two.0)
    (seen_holds peek all shows registers more two.1)
