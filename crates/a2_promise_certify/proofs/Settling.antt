-- Inputs, some of which are settled.
use Rattle.std.specs.Prelude.{◌≡◌, ◌⊎◌, ◌<◌, ◌≤◌, ℕ, ◌-◌, ◌||◌, Bool, true, false, IsTrue, List, [], ◌∷◌, ◌++◌, map, length, take, drop, slice_index, slice_index_or, refl}
use Rattle.std.proofs.Common.{sym, ap, ◌∙◌, subst, arith, inl, inr, true≢false}
use Rattle.std.proofs.lemmas.Bool.Decides.{nat_tests}
use Rattle.std.proofs.lemmas.List.{get_or-set_same, take_rest}
use Rattle.a2_bus.specs.BusState.{BusState, board_access}
use Rattle.a2_bus.specs.Lawful.{board_lawful}
use Rattle.a2_services.specs.World.{World}
use Rattle.a2_promise.specs.declared.promises.Clause.{Clause}
use Rattle.a2_footprint.specs.declared.Part.{Part}
use Rattle.a2_footprint.specs.Counting.{IsState}
use Rattle.a2_promise_certify.specs.declared.input.Input.{Input}
use Rattle.a2_promise_certify.specs.declared.input.Input.TheVariants.{A, Byte}
use Rattle.a2_promise_certify.specs.But.{IsEqualExcept}
use Rattle.a2_promise_certify.specs.Settling.{AreSettled, ClausesSettle, IsSettled}
use Rattle.a2_promise_certify.specs.States.{has_byte, has_part, holds_part, is_byte, value_in, values_of}
use Rattle.a2_promise_certify.proofs.But.{input_first}

-- A byte is written.
pub byte_laid : (clauses : List Clause) (among : List Input) (board new : BusState) (a byte : ℕ) → a < length board.bytes
    → new ≡ board_access.after_write board a byte → ClausesSettle clauses among a byte → IsSettled clauses among (Byte a) new
byte_laid clauses among board new a byte low left settles = record {
  part = λ part. refl;
  byte = λ b is.
      let e : a ≡ b = grind (arith, nat_tests, is) in
      subst (λ k. ClausesSettle clauses among k (slice_index new.bytes k)) e
      (subst (λ k. ClausesSettle clauses among a k) (sym there) settles);
}
  where
    there : slice_index new.bytes a ≡ byte
    there =
        ap (λ (b : BusState). slice_index b.bytes a) (left ∙ board_lawful.ram_write board a byte low)
        ∙ get_or-set_same board.bytes a byte 0 low

or_none : (v : Bool) → (v || false) ≡ v
or_none true = refl
or_none false = refl

or_turned : (v w : Bool) → (v || w) ≡ (w || v)
or_turned true true = refl
or_turned true false = refl
or_turned false w = sym (or_none w)

grouped : (u v w : Bool) → (u || (v || w)) ≡ ((u || v) || w)
grouped true v w = refl
grouped false v w = refl

more_bytes : (free : List Input) (input : Input) (a : ℕ) → has_byte (free ++ input ∷ []) a ≡ (has_byte free a || is_byte a input)
more_bytes [] input a = or_none (is_byte a input)
more_bytes (x ∷ free) input a = ap (λ v. is_byte a x || v) (more_bytes free input a) ∙ grouped (is_byte a x) (has_byte free a) (is_byte a input)

more_parts : (free : List Input) (input : Input) (part : Part)
    → has_part (free ++ input ∷ []) part ≡ (has_part free part || holds_part input part)
more_parts [] input part = or_none (holds_part input part)
more_parts (x ∷ free) input part =
    ap (λ v. holds_part x part || v) (more_parts free input part) ∙ grouped (holds_part x part) (has_part free part) (holds_part input part)

more_values : (free : List Input) (input : Input) (w : World) → value_in w input < values_of input
    → IsState (map values_of free) (map (value_in w) free)
    → IsState (map values_of (free ++ input ∷ [])) (map (value_in w) (free ++ input ∷ []))
more_values [] input w low is = (low, tt)
more_values (x ∷ free) input w low is = (is.0, more_values free input w low is.1)

-- The inputs are the first one and the rest.
pub first_of : (inputs : List Input) → 1 ≤ length inputs → slice_index_or inputs 0 A ∷ take (length inputs - 1) (drop 1 inputs) ≡ inputs
first_of [] le = let bad : ⊥ = omega (arith, le) in absurd bad
first_of (input ∷ rest) le = ap (λ xs. input ∷ xs) (take_rest (input ∷ rest) 1)

either : (v w : Bool) → IsTrue (v || w) → (v ≡ true) ⊎ ((v ≡ false) × (w ≡ true))
either true w is = inl refl
either false w is = inr (refl, is)

module _ (clauses : List Clause) (among : List Input) (input : Input) (rest free : List Input) (before mid board : BusState)
    (but : IsEqualExcept (λ a. is_byte a input) board mid) (h : AreSettled clauses among rest free before mid) where
  changed : IsEqualExcept (has_byte (input ∷ rest)) board before
  changed = input_first input rest board mid before h.but but

  -- A settled byte of the other inputs stays settled.
  stays : (a : ℕ) → is_byte a input ≡ false → IsTrue (has_byte rest a) → has_byte free a ≡ false
      → ClausesSettle clauses among a (slice_index board.bytes a)
  stays a apart is out = subst (λ k. ClausesSettle clauses among a k) (sym (but.bytes a apart)) (h.settled a is out)

  among_more : (a : ℕ) → IsTrue (has_byte free a) → IsTrue (has_byte (input ∷ rest) a)
  among_more a is = go (is_byte a input)
    where
      go : (v : Bool) → IsTrue (v || has_byte rest a)
      go true = refl
      go false = h.bytes a is

  -- One more input is settled.
  pub one_settled : IsSettled clauses among input board → AreSettled clauses among (input ∷ rest) free before board
  one_settled laid = record {
    but = changed;
    bytes = among_more;
    parts = λ part. h.parts part ∙ ap (λ v. v || has_part rest part) (sym (laid.part part));
    values = λ w is. h.values w is.1;
    settled = λ a is out. go a out (either (is_byte a input) (has_byte rest a) is);
  }
    where
      go : (a : ℕ) → has_byte free a ≡ false
          → (is_byte a input ≡ true) ⊎ ((is_byte a input ≡ false) × (has_byte rest a ≡ true))
          → ClausesSettle clauses among a (slice_index board.bytes a)
      go a out (inl here) = laid.byte a here
      go a out (inr there) = stays a there.0 there.1 out

  -- Otherwise it is free.
  pub one_free : AreSettled clauses among (input ∷ rest) (free ++ input ∷ []) before board
  one_free = record {
    but = changed;
    bytes = λ a is. found a (either (has_byte free a) (is_byte a input) (sym (more_bytes free input a) ∙ is));
    parts = λ part.
        more_parts free input part ∙ or_turned (has_part free part) (holds_part input part)
        ∙ ap (λ v. holds_part input part || v) (h.parts part);
    values = λ w is. more_values free input w is.0 (h.values w is.1);
    settled = λ a is out.
        let outs : (has_byte free a ≡ false) × (is_byte a input ≡ false) =
        neither (has_byte free a) (is_byte a input) (sym (more_bytes free input a) ∙ out) in
        go a outs.0 outs.1 (either (is_byte a input) (has_byte rest a) is);
  }
    where
      neither : (v w : Bool) → (v || w) ≡ false → (v ≡ false) × (w ≡ false)
      neither true w bad = absurd (true≢false bad)
      neither false w out = (refl, out)

      found : (a : ℕ) → (has_byte free a ≡ true) ⊎ ((has_byte free a ≡ false) × (is_byte a input ≡ true)) → IsTrue (has_byte (input ∷ rest) a)
      found a (inl is) = among_more a is
      found a (inr is) = ap (λ v. v || has_byte rest a) is.1

      go : (a : ℕ) → has_byte free a ≡ false → is_byte a input ≡ false
          → (is_byte a input ≡ true) ⊎ ((is_byte a input ≡ false) × (has_byte rest a ≡ true))
          → ClausesSettle clauses among a (slice_index board.bytes a)
      go a out apart (inl here) = absurd (true≢false (sym here ∙ apart))
      go a out apart (inr there) = stays a apart there.1 out
