-- The value of an expression, at moments of two worlds of bytes, is what its phrase says.
use Rattle.std.specs.Prelude.{◌≡◌, ◌≢◌, ◌⊎◌, ◌<◌, ◌≤◌, ℕ, zero, suc, ◌+◌, ◌-◌, ◌*◌, ◌/◌, ◌%◌, ◌^◌, ℤ, pos, negsuc, ◌+ℤ◌, ◌-ℤ◌, neg_ℤ, int_lt, int_le, Bool, true, false, ◌&&◌, ◌||◌, not, nat_le, nat_lt, min, max, bit_and, bit_or, bit_xor, List, Option, Some, None, if◌then◌else◌, slice_get, slice_set, get_or, map, length, ◌==◌, refl}
use Rattle.std.specs.Int.{int_rem_euclid}
use Rattle.std.specs.List.{range_with_len}
use Rattle.std.proofs.Common.{sym, ap, ap₂, ◌∙◌, arith, inl, inr, true≢false, div-le_self}
use Rattle.std.proofs.lemmas.Bool.Decides.{nat_tests}
use Rattle.std.proofs.lemmas.Int.{ints, int_rem_euclid_is}
use Rattle.std.proofs.lemmas.Nat.{mul-le, mod_below}
use Rattle.std.proofs.lemmas.List.{length-set, get_or-set_same, get_or-set_other}
use Rattle.std.proofs.lemmas.List.FromFn.{length-map-range_with_len, get_or-map-range_with_len}
use Rattle.std.proofs.lemmas.Option.{slice_get-get_or}
use Rattle.a2_bus.specs.Memory.{Memory, ram_byte, ram_end}
use Rattle.a2_effect.specs.Arithmetic.{by_digits, differ}
use Rattle.a2_effect.specs.Registers.{one_if}
use Rattle.a2_effect.proofs.Digits.{and_is, or_is, xor_is}
use Rattle.a2_services.specs.World.{World}
use Rattle.a2_promise.specs.declared.expr.Atom.{Atom}
use Rattle.a2_promise.specs.declared.expr.Atom.TheVariants as atom
use Rattle.a2_promise.specs.declared.expr.Expr.{Expr}
use Rattle.a2_promise.specs.declared.expr.Expr.TheVariants.{Number, Held, Bound, Old', At', Of', Pair', Choice', Each', Sum'}
use Rattle.a2_promise.specs.declared.expr.Function.TheVariants as function
use Rattle.a2_promise.specs.declared.expr.Operation.{Operation}
use Rattle.a2_promise.specs.declared.expr.Operation.TheVariants as operation
use Rattle.a2_promise.specs.Values.{digit, fits, limited, word_in, held as held_atom, byte_value, word_value, byte_at, word_at, bitwise, bit_of, operated, made_of, signed as signed_byte, operated_on, count_of, sum_below, at_count, value_of}
use Rattle.a2_promise_certify.specs.Kept.{bytes_of, moment}
use Rattle.a2_promise.specs.Phrases.{Phrase, number, held, bound, old, at, of, pair, choice, each, sum, phrase_of}
use Rattle.a2_theorems.specs.Routines.{word}
use Rattle.a2_promise_rules.specs.Worlds.{OnlyBytes}
use Rattle.a2_promise_rules.proofs.Bits.{digits_small}
use Rattle.a2_promise_rules.proofs.PhraseMeanings.{part, is_part, View, same, minus, joined, view, most_of, most, divides, both_plain, is_byte, in_range, may_join, counts, signed_view, size, summed, with_name, address, lowest, never_below}

-- Tests

pub both : (x y : Bool) → (x && y) ≡ true → (x ≡ true) × (y ≡ true)
both true y h = (refl, h)
both false y h = absurd (true≢false (sym h))

pub no : (x : Bool) → not x ≡ true → x ≡ false
no true h = absurd (true≢false (sym h))
no false h = refl

pub neither : (x y : Bool) → (x || y) ≡ false → (x ≡ false) × (y ≡ false)
neither true y h = absurd (true≢false h)
neither false y h = (refl, h)

pub below : (m n : ℕ) → nat_lt m n ≡ true → m < n
below m n h = grind (arith, nat_tests, h)

is_below : (m n : ℕ) → m < n → nat_lt m n ≡ true
is_below m n h = grind (arith, nat_tests, h)

-- Numbers as differences

-- a number, and the two numbers whose difference it is
abbrev pub Is : ℤ → ℕ → ℕ → Type 0
Is z up down = z +ℤ pos down ≡ pos up

natural : (z : ℤ) (n : ℕ) → Is z n 0 → z ≡ pos n
natural z n is = omega (arith, ints, is)

fits_is : (z : ℤ) (u d : ℕ) → Is z u d → u < 2 ^ 63 → d < 2 ^ 63 → fits z ≡ true
fits_is (pos n) u d is lu ld = let less : n < 2 ^ 63 = omega (arith, ints, is, lu) in is_below n (2 ^ 63) less
fits_is (negsuc n) u d is lu ld = let less : n < 2 ^ 63 = omega (arith, ints, is, ld) in is_below n (2 ^ 63) less

limited_is : (z : ℤ) (u d : ℕ) → Is z u d → u < 2 ^ 63 → d < 2 ^ 63 → limited z ≡ Some z
limited_is z u d is lu ld = ap (λ b. let o : Option ℤ = if b then Some z else None in o) (fits_is z u d is lu ld)

plus_is : (x y : ℤ) (u d v e : ℕ) → Is x u d → Is y v e → Is (x +ℤ y) (u + v) (d + e)
plus_is x y u d v e a b = omega (arith, ints, a, b)

minus_is : (x y : ℤ) (u d v e : ℕ) → Is x u d → Is y v e → Is (x -ℤ y) (u + e) (d + v)
minus_is x y u d v e a b = omega (arith, ints, a, b)

-- Comparisons

pub at_most_is : (x y : ℤ) (u d v e : ℕ) → Is x u d → Is y v e → u + e ≤ v + d → int_le x y ≡ true
at_most_is x y u d v e a b h = grind (arith, ints, a, b, h)

pub more_is : (x y : ℤ) (u d v e : ℕ) → Is x u d → Is y v e → v + d < u + e → int_le x y ≡ false
more_is x y u d v e a b h = grind (arith, ints, a, b, h)

pub less_is : (x y : ℤ) (u d v e : ℕ) → Is x u d → Is y v e → u + e < v + d → int_lt x y ≡ true
less_is x y u d v e a b h = grind (arith, ints, a, b, h)

pub at_least_is : (x y : ℤ) (u d v e : ℕ) → Is x u d → Is y v e → v + d ≤ u + e → int_lt x y ≡ false
at_least_is x y u d v e a b h = grind (arith, ints, a, b, h)

-- A phrase that is a number

-- a value is the number that a view shows, and is at most a bound; if it is never below 0, the view is that plain
-- number
pub record Counts (signed : Bool) (x : View) (top : ℕ) (o : Option ℤ) : Type 0 where
  pub z : ℤ
  pub is : o ≡ Some z
  pub sum : Is z x.up x.down
  pub up : x.up ≤ top
  pub down : x.down ≤ top
  pub plain : signed ≡ false → (x.plain ≡ x.up) × (x.down ≡ 0)

counted : (n top : ℕ) (o : Option ℤ) → o ≡ Some (pos n) → n ≤ top → Counts false (same n) top o
counted n top o is h =
    record { z = pos n; is = is; sum = omega (arith, ints); up = h; down = omega arith; plain = λ e. (refl, refl) }

-- a number that is never below 0
record Plain (x : View) (top : ℕ) (o : Option ℤ) : Type 0 where
  is : o ≡ Some (pos x.plain)
  small : x.plain ≤ top

plain_of : (signed : Bool) (x : View) (top : ℕ) (o : Option ℤ) → Counts signed x top o → signed ≡ false → Plain x top o
plain_of signed x top o h e =
    let p = h.plain e in
    let low = h.up in
    let sum = h.sum in
    let up_is = p.0 in
    let down_is = p.1 in
    let zero_down : Is h.z x.plain 0 = omega (arith, ints, sum, up_is, down_is) in
    record { is = h.is ∙ ap (λ z. Some z) (natural h.z x.plain zero_down); small = omega (arith, low, up_is) }

-- Operations on numbers that are never below 0

module _ (a b : ℕ) where
  times_value : a * b < 2 ^ 63 → operated operation.Times (pos a) (pos b) ≡ Some (pos (a * b))
  times_value h = limited_is (pos (a * b)) (a * b) 0 (omega (arith, ints)) h (omega arith)

  above : 0 < b → int_lt (pos 0) (pos b) ≡ true
  above h = less_is (pos 0) (pos b) 0 0 b 0 (omega (arith, ints)) (omega (arith, ints)) (omega (arith, h))

  over_value : 0 < b → operated operation.Over (pos a) (pos b) ≡ Some (pos (a / b))
  over_value h = ap (λ v. let o : Option ℤ = if v then Some (pos (a / b)) else None in o) (above h)

  word_value_is : a < 65536 → word_in (pos a) ≡ Some a
  word_value_is h = ap (λ v. let o : Option ℕ = if v then Some a else None in o) (is_below a 65536 h)

  min_value : operated operation.Min (pos a) (pos b) ≡ Some (pos (min a b))
  min_value = go (less_or b a)
    where
      less_or : (m n : ℕ) → (m < n) ⊎ (n ≤ m)
      less_or m n = grind arith

      go : (b < a) ⊎ (a ≤ b) → operated operation.Min (pos a) (pos b) ≡ Some (pos (min a b))
      go (inl h) =
          let e : b ≡ min a b = omega (arith, h) in
          ap (λ v. Some (if v then pos b else pos a)) (less_is (pos b) (pos a) b 0 a 0 (omega (arith, ints)) (omega (arith, ints)) (omega (arith, h)))
          ∙ ap (λ n. Some (pos n)) e
      go (inr h) =
          let e : a ≡ min a b = omega (arith, h) in
          ap (λ v. Some (if v then pos b else pos a)) (at_least_is (pos b) (pos a) b 0 a 0 (omega (arith, ints)) (omega (arith, ints)) (omega (arith, h)))
          ∙ ap (λ n. Some (pos n)) e

  max_value : operated operation.Max (pos a) (pos b) ≡ Some (pos (max a b))
  max_value = go (less_or a b)
    where
      less_or : (m n : ℕ) → (m < n) ⊎ (n ≤ m)
      less_or m n = grind arith

      go : (a < b) ⊎ (b ≤ a) → operated operation.Max (pos a) (pos b) ≡ Some (pos (max a b))
      go (inl h) =
          let e : b ≡ max a b = omega (arith, h) in
          ap (λ v. Some (if v then pos b else pos a)) (less_is (pos a) (pos b) a 0 b 0 (omega (arith, ints)) (omega (arith, ints)) (omega (arith, h)))
          ∙ ap (λ n. Some (pos n)) e
      go (inr h) =
          let e : a ≡ max a b = omega (arith, h) in
          ap (λ v. Some (if v then pos b else pos a)) (at_least_is (pos a) (pos b) a 0 b 0 (omega (arith, ints)) (omega (arith, ints)) (omega (arith, h)))
          ∙ ap (λ n. Some (pos n)) e

bits_value : (f : ℕ → ℕ → ℕ) (d : Bool → Bool → Bool) (a b : ℕ) → f a b ≡ by_digits 8 d a b → a < 256 → b < 256
    → bitwise f (word_in (pos a)) (word_in (pos b)) ≡ Some (pos (by_digits 8 d a b))
bits_value f d a b is la lb =
    ap₂ (λ x y. bitwise f x y) (word_value_is a 0 (omega (arith, la))) (word_value_is b 0 (omega (arith, lb))) ∙ ap (λ n. Some (pos n)) is

bit_value : (a b : ℕ) → a < 16 → b < 65536 → operated operation.Bit (pos a) (pos b) ≡ Some (pos (b / 2 ^ a % 2))
bit_value a b la lb =
    ap₂ (λ x y. bit_of x y) (word_value_is a 0 (omega (arith, la))) (word_value_is b 0 lb)
    ∙ ap (λ v. let o : Option ℤ = if v then Some (pos (b / 2 ^ a % 2)) else None in o) (is_below a 16 la)

remainder : (z : ℤ) (u d n : ℕ) → Is z u d → 0 < n → operated operation.Modulo z (pos n) ≡ Some (pos ((u + (n - 1) * d) % n))
remainder z u d n is h =
    ap (λ v. let o : Option ℤ = if v then Some (int_rem_euclid z (pos n)) else None in o) (above 0 n h)
    ∙ ap (λ r. Some r) (int_rem_euclid_is z (pos n) n d (u + (n - 1) * d) h refl whole)
  where
    turned : (n : ℕ) → 0 < n → d * n ≡ (n - 1) * d + d
    turned zero low = let bad : ⊥ = omega (arith, low) in absurd bad
    turned (suc m) low =
        let e : d * suc m ≡ m * d + d = grind arith in
        let f : suc m - 1 ≡ m = omega arith in
        e ∙ ap (λ k. k * d + d) (sym f)

    whole : z +ℤ pos (d * n) ≡ pos (u + (n - 1) * d)
    whole = let e = turned n h in omega (arith, ints, is, e)

-- what is known about a divisor
abbrev Divisor : Bool → View → Bool → Type 0
Divisor divides y signed = divides ≡ true → (0 < y.plain) × (signed ≡ false)

module _ (p q : Phrase) (m n : ℕ) (x y : View) (ox oy : Option ℤ) (hx : Counts (minus p) x m ox) (hy : Counts (minus q) y n oy) where
  on : (op : Operation) (zx zy : ℤ) → ox ≡ Some zx → oy ≡ Some zy → operated_on op ox oy ≡ operated op zx zy
  on op zx zy ex ey = ap₂ (λ a b. operated_on op a b) ex ey

  plain_x : minus p ≡ false → Plain x m ox
  plain_x e = plain_of (minus p) x m ox hx e

  plain_y : minus q ≡ false → Plain y n oy
  plain_y e = plain_of (minus q) y n oy hy e

  apart : both_plain p q ≡ true → (minus p ≡ false) × (minus q ≡ false)
  apart h = let two = both (not (minus p)) (not (minus q)) h in (no (minus p) two.0, no (minus q) two.1)

  -- an operation on two numbers that are never below 0
  of_plain : (op : Operation) (k top : ℕ) → minus p ≡ false → minus q ≡ false
      → operated op (pos x.plain) (pos y.plain) ≡ Some (pos k) → k ≤ top → Counts false (same k) top (operated_on op ox oy)
  of_plain op k top ep eq is low =
      counted k top (operated_on op ox oy) (on op (pos x.plain) (pos y.plain) (plain_x ep).is (plain_y eq).is ∙ is) low

  sum_small : in_range (m + n) ≡ true → m + n < 2 ^ 63
  sum_small h = below (m + n) (2 ^ 63) h

  plus : may_join operation.Plus p q m n ≡ true
      → Counts (minus p || minus q) (joined operation.Plus (minus p) x y) (m + n) (operated_on operation.Plus ox oy)
  plus h =
      let small = sum_small h in
      let a = hx.up in
      let b = hx.down in
      let c = hy.up in
      let d = hy.down in
      record {
        z = hx.z +ℤ hy.z;
        is = on operation.Plus hx.z hy.z hx.is hy.is
            ∙ limited_is (hx.z +ℤ hy.z) (x.up + y.up) (x.down + y.down) (plus_is hx.z hy.z x.up x.down y.up y.down hx.sum hy.sum)
            (omega (arith, small, a, c)) (omega (arith, small, b, d));
        sum = plus_is hx.z hy.z x.up x.down y.up y.down hx.sum hy.sum;
        up = omega (arith, a, c);
        down = omega (arith, b, d);
        plain = λ e. plain e;
      }
    where
      plain : (minus p || minus q) ≡ false → (x.plain + y.plain ≡ x.up + y.up) × (x.down + y.down ≡ 0)
      plain e =
          let two = neither (minus p) (minus q) e in
          let a = (hx.plain two.0).0 in
          let b = (hx.plain two.0).1 in
          let c = (hy.plain two.1).0 in
          let d = (hy.plain two.1).1 in
          (omega (arith, a, c), omega (arith, b, d))

  difference : may_join operation.Minus p q m n ≡ true
      → Counts true (joined operation.Minus (minus p) x y) (m + n) (operated_on operation.Minus ox oy)
  difference h =
      let small = sum_small h in
      let a = hx.up in
      let b = hx.down in
      let c = hy.up in
      let d = hy.down in
      record {
        z = hx.z -ℤ hy.z;
        is = on operation.Minus hx.z hy.z hx.is hy.is
            ∙ limited_is (hx.z -ℤ hy.z) (x.up + y.down) (x.down + y.up) (minus_is hx.z hy.z x.up x.down y.up y.down hx.sum hy.sum)
            (omega (arith, small, a, d)) (omega (arith, small, b, c));
        sum = minus_is hx.z hy.z x.up x.down y.up y.down hx.sum hy.sum;
        up = omega (arith, a, d);
        down = omega (arith, b, c);
        plain = λ e. absurd (true≢false e);
      }

  product : may_join operation.Times p q m n ≡ true
      → Counts false (same (x.plain * y.plain)) (m * n) (operated_on operation.Times ox oy)
  product h =
      let two = both (both_plain p q) (in_range (m * n)) h in
      let es = apart two.0 in
      let most_is = mul-le x.plain y.plain m n (plain_x es.0).small (plain_y es.1).small in
      let small : m * n < 2 ^ 63 = below (m * n) (2 ^ 63) two.1 in
      of_plain operation.Times (x.plain * y.plain) (m * n) es.0 es.1
      (times_value x.plain y.plain (omega (arith, most_is, small))) most_is

  quotient : may_join operation.Over p q m n ≡ true → Divisor (divides q) y (minus q)
      → Counts false (same (x.plain / y.plain)) m (operated_on operation.Over ox oy)
  quotient h divisor =
      let two = both (not (minus p)) (divides q) h in
      let some = divisor two.1 in
      let ep = no (minus p) two.0 in
      let low = (plain_x ep).small in
      let less = div-le_self x.plain y.plain in
      of_plain operation.Over (x.plain / y.plain) m ep some.1 (over_value x.plain y.plain some.0) (omega (arith, low, less))

  rest : may_join operation.Modulo p q m n ≡ true → Divisor (divides q) y (minus q)
      → Counts false (joined operation.Modulo (minus p) x y) n (operated_on operation.Modulo ox oy)
  rest h divisor = go (minus p) refl
    where
      some : (0 < y.plain) × (minus q ≡ false)
      some = divisor h

      value : (signed : Bool) → minus p ≡ signed
          → operated_on operation.Modulo ox oy ≡ Some (pos ((if signed then x.up + (y.plain - 1) * x.down else x.plain) % y.plain))
      value true e =
          on operation.Modulo hx.z (pos y.plain) hx.is (plain_y some.1).is ∙ remainder hx.z x.up x.down y.plain hx.sum some.0
      value false e =
          on operation.Modulo (pos x.plain) (pos y.plain) (plain_x e).is (plain_y some.1).is
          ∙ remainder (pos x.plain) x.plain 0 y.plain (omega (arith, ints)) some.0
          ∙ ap (λ n. Some (pos (n % y.plain))) no_more
        where
          no_more : x.plain + (y.plain - 1) * 0 ≡ x.plain
          no_more = grind arith

      go : (signed : Bool) → minus p ≡ signed
          → Counts false (same ((if signed then x.up + (y.plain - 1) * x.down else x.plain) % y.plain)) n (operated_on operation.Modulo ox oy)
      go signed e =
          let less = mod_below (if signed then x.up + (y.plain - 1) * x.down else x.plain) y.plain some.0 in
          let low = (plain_y some.1).small in
          counted ((if signed then x.up + (y.plain - 1) * x.down else x.plain) % y.plain) n (operated_on operation.Modulo ox oy)
          (value signed e) (omega (arith, less, low))

  bytes : (both_plain p q && (is_byte m && is_byte n)) ≡ true
      → (minus p ≡ false) × (minus q ≡ false) × (x.plain < 256) × (y.plain < 256)
  bytes h =
      let two = both (both_plain p q) (is_byte m && is_byte n) h in
      let es = apart two.0 in
      let small = both (is_byte m) (is_byte n) two.1 in
      let a = below m 256 small.0 in
      let b = below n 256 small.1 in
      let lx = (plain_x es.0).small in
      let ly = (plain_y es.1).small in
      (es.0, es.1, omega (arith, a, lx), omega (arith, b, ly))

  bits : (op : Operation) (f : ℕ → ℕ → ℕ) (d : Bool → Bool → Bool)
      → ((a b : ℕ) → a < 256 → b < 256 → f a b ≡ by_digits 8 d a b)
      → ((a b : ℕ) → operated op (pos a) (pos b) ≡ bitwise f (word_in (pos a)) (word_in (pos b)))
      → (both_plain p q && (is_byte m && is_byte n)) ≡ true
      → Counts false (same (by_digits 8 d x.plain y.plain)) 255 (operated_on op ox oy)
  bits op f d law is h =
      let known = bytes h in
      let small = digits_small d x.plain y.plain in
      of_plain op (by_digits 8 d x.plain y.plain) 255 known.0 known.1
      (is x.plain y.plain ∙ bits_value f d x.plain y.plain (law x.plain y.plain known.2 known.3) known.2 known.3) (omega (arith, small))

  least : may_join operation.Min p q m n ≡ true → Counts false (same (min x.plain y.plain)) m (operated_on operation.Min ox oy)
  least h =
      let es = apart h in
      let low = (plain_x es.0).small in
      of_plain operation.Min (min x.plain y.plain) m es.0 es.1 (min_value x.plain y.plain) (omega (arith, low))

  greatest : may_join operation.Max p q m n ≡ true
      → Counts false (same (max x.plain y.plain)) (m + n) (operated_on operation.Max ox oy)
  greatest h =
      let es = apart h in
      let lx = (plain_x es.0).small in
      let ly = (plain_y es.1).small in
      of_plain operation.Max (max x.plain y.plain) (m + n) es.0 es.1 (max_value x.plain y.plain) (omega (arith, lx, ly))

  bit : may_join operation.Bit p q m n ≡ true → Counts false (same (y.plain / 2 ^ x.plain % 2)) 255 (operated_on operation.Bit ox oy)
  bit h =
      let two = both (both_plain p q) (nat_lt m 16 && nat_lt n 65536) h in
      let es = apart two.0 in
      let more = both (nat_lt m 16) (nat_lt n 65536) two.1 in
      let place = below m 16 more.0 in
      let whole = below n 65536 more.1 in
      let lx = (plain_x es.0).small in
      let ly = (plain_y es.1).small in
      of_plain operation.Bit (y.plain / 2 ^ x.plain % 2) 255 es.0 es.1
      (bit_value x.plain y.plain (omega (arith, place, lx)) (omega (arith, whole, ly))) (omega arith)

  joins : (op : Operation) → may_join op p q m n ≡ true → Divisor (divides q) y (minus q)
      → Counts (minus (pair op p q)) (joined op (minus p) x y) (most_of op m n) (operated_on op ox oy)
  joins operation.Plus h divisor = plus h
  joins operation.Minus h divisor = difference h
  joins operation.Times h divisor = product h
  joins operation.Over h divisor = quotient h divisor
  joins operation.Modulo h divisor = rest h divisor
  joins operation.BitAnd h divisor = bits operation.BitAnd bit_and ◌&&◌ and_is (λ a b. refl) h
  joins operation.BitOr h divisor = bits operation.BitOr bit_or ◌||◌ or_is (λ a b. refl) h
  joins operation.BitXor h divisor = bits operation.BitXor bit_xor differ xor_is (λ a b. refl) h
  joins operation.Min h divisor = least h
  joins operation.Max h divisor = greatest h
  joins operation.Bit h divisor = bit h
  joins operation.Equal h divisor = absurd (true≢false (sym h))
  joins operation.Less h divisor = absurd (true≢false (sym h))
  joins operation.AtMost h divisor = absurd (true≢false (sym h))

-- Numbers of a moment

pub memory_byte : (memory : Memory) (a : ℕ) → a < ram_end → slice_get (bytes_of memory) a ≡ Some (ram_byte memory a)
unfolding bytes_of
memory_byte memory a low =
    let here : a < length (map (ram_byte memory) (range_with_len 0 ram_end)) = omega (arith, low, length-map-range_with_len (ram_byte memory) 0 ram_end) in
    slice_get-get_or (map (ram_byte memory) (range_with_len 0 ram_end)) a 0 here
    ∙ ap (λ v. Some v) (get_or-map-range_with_len (ram_byte memory) 0 ram_end a a 0 low (omega arith))

byte_counts : (v : World) (x : View) (top : ℕ) (o : Option ℤ) → ((a : ℕ) → ram_byte v.memory a < 256) → Plain x top o → top < ram_end
    → Counts false (same (ram_byte v.memory x.plain)) 255 (made_of function.Byte (bytes_of v.memory) o)
byte_counts v x top o is_byte h low =
    let small = h.small in
    let here : x.plain < ram_end = omega (arith, small, low) in
    let byte = is_byte x.plain in
    counted (ram_byte v.memory x.plain) 255 (made_of function.Byte (bytes_of v.memory) o)
    (ap (λ z. made_of function.Byte (bytes_of v.memory) z) h.is
    ∙ ap (λ a. byte_at (bytes_of v.memory) a) (word_value_is x.plain 0 (omega (arith, here)))
    ∙ ap byte_value (memory_byte v.memory x.plain here)) (omega (arith, byte))

word_counts : (v : World) (x : View) (top : ℕ) (o : Option ℤ) → ((a : ℕ) → ram_byte v.memory a < 256) → Plain x top o → top + 1 < ram_end
    → Counts false (same (word v.memory x.plain)) 65535 (made_of function.Word (bytes_of v.memory) o)
word_counts v x top o is_byte h low =
    let small = h.small in
    let here : x.plain < ram_end = omega (arith, small, low) in
    let following : x.plain + 1 < ram_end = omega (arith, small, low) in
    let next : (x.plain + 1) % 65536 ≡ x.plain + 1 = omega (arith, following) in
    let first = is_byte x.plain in
    let second = is_byte (x.plain + 1) in
    counted (word v.memory x.plain) 65535 (made_of function.Word (bytes_of v.memory) o)
    (ap (λ z. made_of function.Word (bytes_of v.memory) z) h.is
    ∙ ap (λ a. word_at (bytes_of v.memory) a) (word_value_is x.plain 0 (omega (arith, here)))
    ∙ ap₂ word_value (memory_byte v.memory x.plain here)
    (ap (λ a. slice_get (bytes_of v.memory) a) next ∙ memory_byte v.memory (x.plain + 1) following)) (omega (arith, first, second))

not_byte : (n : ℕ) → 128 ≤ n → n < 256 → signed_byte (Some n) ≡ Some (pos n -ℤ pos 256)
not_byte n high low =
    let e : nat_lt n 128 ≡ false = grind (arith, nat_tests, high) in
    ap₂ (λ a b. let o : Option ℤ = if a then Some (pos n) else if b then Some (pos n -ℤ pos 256) else None in o) e (is_below n 256 low)

signed_counts : (x : View) (top : ℕ) (all : List ℕ) (o : Option ℤ) → Plain x top o → top < 256
    → Counts true (signed_view x.plain) 256 (made_of function.Signed all o)
signed_counts x top all o h low = go (less_or x.plain 128)
  where
    small : x.plain < 256
    small = let s = h.small in omega (arith, s, low)

    less_or : (m n : ℕ) → (m < n) ⊎ (n ≤ m)
    less_or m n = grind arith

    is : made_of function.Signed all o ≡ signed_byte (Some x.plain)
    is =
        ap (λ z. made_of function.Signed all z) h.is
        ∙ ap (λ n. signed_byte n) (word_value_is x.plain 0 (omega (arith, small)))

    go : (x.plain < 128) ⊎ (128 ≤ x.plain) → Counts true (signed_view x.plain) 256 (made_of function.Signed all o)
    go (inl below_128) =
        let e : nat_le 128 x.plain ≡ false = grind (arith, nat_tests, below_128) in
        let digit_is : one_if (nat_le 128 x.plain) ≡ 0 = ap one_if e in
        record {
          z = pos x.plain;
          is = is ∙ ap (λ b. let o : Option ℤ = if b then Some (pos x.plain) else if nat_lt x.plain 256 then Some (pos x.plain -ℤ pos 256) else None in o) (is_below x.plain 128 below_128);
          sum = omega (arith, ints, digit_is);
          up = omega (arith, small);
          down = omega (arith, digit_is);
          plain = λ e. absurd (true≢false e);
        }
    go (inr high) =
        let e : nat_le 128 x.plain ≡ true = grind (arith, nat_tests, high) in
        let digit_is : one_if (nat_le 128 x.plain) ≡ 1 = ap one_if e in
        record {
          z = pos x.plain -ℤ pos 256;
          is = is ∙ not_byte x.plain high small;
          sum = omega (arith, ints, digit_is);
          up = omega (arith, small);
          down = omega (arith, digit_is);
          plain = λ e. absurd (true≢false e);
        }

flag_counts : (b : Bool) → Counts false (same (one_if b)) 255 (Some (digit b))
flag_counts true = counted 1 255 (Some (pos 1)) refl (omega arith)
flag_counts false = counted 0 255 (Some (pos 0)) refl (omega arith)

part_counts : (a : Atom) (start v : World) (steps : ℕ) → OnlyBytes v → is_part a ≡ true
    → Counts false (same (part a v)) 255 (Some (held_atom a (moment start v steps)))
part_counts atom.A start v steps bytes h = let low = bytes.a in counted v.registers.a 255 (Some (pos v.registers.a)) refl (omega (arith, low))
part_counts atom.X start v steps bytes h = let low = bytes.x in counted v.registers.x 255 (Some (pos v.registers.x)) refl (omega (arith, low))
part_counts atom.Y start v steps bytes h = let low = bytes.y in counted v.registers.y 255 (Some (pos v.registers.y)) refl (omega (arith, low))
part_counts atom.Carry start v steps bytes h = flag_counts v.registers.flags.c
part_counts atom.Zero start v steps bytes h = flag_counts v.registers.flags.z
part_counts atom.Negative start v steps bytes h = flag_counts v.registers.flags.n
part_counts atom.Overflow start v steps bytes h = flag_counts v.registers.flags.v
part_counts atom.S start v steps bytes h = absurd (true≢false (sym h))
part_counts atom.Decimal start v steps bytes h = absurd (true≢false (sym h))
part_counts atom.Interrupt start v steps bytes h = absurd (true≢false (sym h))
part_counts atom.Cycles start v steps bytes h = absurd (true≢false (sym h))
part_counts atom.Steps start v steps bytes h = absurd (true≢false (sym h))

divisor_of : (q : Phrase) (names : ℕ → ℕ) (w v : World) → Divisor (divides q) (view q names w v) (minus q)
divisor_of (number (pos zero)) names w v h = absurd (true≢false (sym h))
divisor_of (number (pos (suc n))) names w v h = (omega arith, refl)
divisor_of (number (negsuc n)) names w v h = absurd (true≢false (sym h))
divisor_of (held a) names w v h = absurd (true≢false (sym h))
divisor_of (bound n) names w v h = absurd (true≢false (sym h))
divisor_of (old e) names w v h = absurd (true≢false (sym h))
divisor_of (at a e) names w v h = absurd (true≢false (sym h))
divisor_of (of f e) names w v h = absurd (true≢false (sym h))
divisor_of (pair op p q) names w v h = absurd (true≢false (sym h))
divisor_of (choice c p q) names w v h = absurd (true≢false (sym h))
divisor_of (each name n e) names w v h = absurd (true≢false (sym h))
divisor_of (sum name n e) names w v h = absurd (true≢false (sym h))

-- Names

-- the values of names, as numbers of an expression and as numbers of its phrase, with an upper bound for each
pub record Named (numbers : List ℤ) (names tops : ℕ → ℕ) : Type 0 where
  pub four : length numbers ≡ 4
  pub is : (i : ℕ) → i < 4 → slice_get numbers i ≡ Some (pos (names i))
  pub low : (i : ℕ) → i < 4 → names i ≤ tops i

-- one more name
pub one_more : (numbers : List ℤ) (names tops : ℕ → ℕ) (name k top : ℕ) → Named numbers names tops → name < 4 → k ≤ top
    → Named (slice_set numbers name (pos k)) (with_name names name k) (with_name tops name top)
one_more numbers names tops name k top named here low = record {
  four = four;
  is = λ i less. is i less (i == name) refl;
  low = λ i less. lower i less (i == name) refl;
}
  where
    four : length (slice_set numbers name (pos k)) ≡ 4
    four = length-set numbers name (pos k) ∙ named.four

    is : (i : ℕ) → i < 4 → (v : Bool) → (i == name) ≡ v
        → slice_get (slice_set numbers name (pos k)) i ≡ Some (pos (if v then k else names i))
    is i less true e =
        let same_is : i ≡ name = grind (arith, nat_tests, e) in
        let inside : i < length (slice_set numbers name (pos k)) = omega (arith, less, four) in
        let old : name < length numbers = let f = named.four in omega (arith, here, f) in
        slice_get-get_or (slice_set numbers name (pos k)) i (pos 0) inside
        ∙ ap (λ j. Some (get_or (slice_set numbers name (pos k)) j (pos 0))) same_is
        ∙ ap (λ z. Some z) (get_or-set_same numbers name (pos k) (pos 0) old)
    is i less false e =
        let other : i ≢ name = grind (arith, nat_tests, e) in
        let inside : i < length (slice_set numbers name (pos k)) = omega (arith, less, four) in
        let old : i < length numbers = let f = named.four in omega (arith, less, f) in
        slice_get-get_or (slice_set numbers name (pos k)) i (pos 0) inside
        ∙ ap (λ z. Some z) (get_or-set_other numbers name i (pos k) (pos 0) other)
        ∙ sym (slice_get-get_or numbers i (pos 0) old) ∙ named.is i less

    lower : (i : ℕ) → i < 4 → (v : Bool) → (i == name) ≡ v → (if v then k else names i) ≤ (if v then top else tops i)
    lower i less true e = low
    lower i less false e = named.low i less

-- how many numbers are below a bound, which may itself be below 0
pub count_is : (signed : Bool) (x : View) (top : ℕ) (o : Option ℤ) → Counts signed x top o → top < 65536
    → count_of o ≡ Some (x.up - x.down)
count_is signed x top o h low = ap count_of h.is ∙ go h.z h.sum
  where
    go : (z : ℤ) → Is z x.up x.down → count_of (Some z) ≡ Some (x.up - x.down)
    go (pos n) is =
        let up = h.up in
        let e : n ≡ x.up - x.down = omega (arith, ints, is) in
        let small : n < 65536 = omega (arith, ints, is, up, low) in
        ap (λ b. let r : Option ℕ = if b then Some n else None in r) (is_below n 65536 small) ∙ ap (λ m. Some m) e
    go (negsuc n) is = let e : 0 ≡ x.up - x.down = omega (arith, ints, is) in ap (λ m. Some m) e

-- Sums and sizes

sum_is : (n : ℕ) (f : ℕ → Option ℤ) (g : ℕ → ℕ) (top : ℕ) → ((i : ℕ) → i < n → Plain (same (g i)) top (f i)) → n * top < 2 ^ 63
    → Plain (same (summed n g)) (n * top) (sum_below n f)
sum_is zero f g top known small = record { is = refl; small = omega arith }
sum_is (suc n) f g top known small =
    let more : suc n * top ≡ n * top + top = grind arith in
    let rest : Plain (same (summed n g)) (n * top) (sum_below n f) = sum_is n f g top (λ i l. known i (omega (arith, l))) (omega (arith, small, more)) in
    let last : Plain (same (g n)) top (f n) = known n (omega arith) in
    let a = rest.small in
    let b = last.small in
    record {
      is = ap₂ (λ x y. operated_on operation.Plus x y) rest.is last.is
          ∙ limited_is (pos (summed n g) +ℤ pos (g n)) (summed n g + g n) 0 (omega (arith, ints)) (omega (arith, a, b, small, more)) (omega arith);
      small = omega (arith, a, b, more);
    }

sum_counts : (x : View) (m top : ℕ) (f : ℕ → Option ℤ) (g : ℕ → ℕ) (o : Option ℤ) → Plain x m o → m < 65536
    → ((i : ℕ) → i < x.plain → Plain (same (g i)) top (f i)) → m * top < 2 ^ 63
    → Counts false (same (summed x.plain g)) (m * top) (at_count (count_of o) f sum_below)
sum_counts x m top f g o h low known small =
    let a = h.small in
    let less = mul-le x.plain top m top a (omega arith) in
    let total : Plain (same (summed x.plain g)) (x.plain * top) (sum_below x.plain f) = sum_is x.plain f g top known (omega (arith, less, small)) in
    let b = total.small in
    let count : count_of o ≡ Some x.plain =
    ap count_of h.is ∙ ap (λ v. let r : Option ℕ = if v then Some x.plain else None in r) (is_below x.plain 65536 (omega (arith, a, low))) in
    counted (summed x.plain g) (m * top) (at_count (count_of o) f sum_below)
    (ap (λ n. at_count n f sum_below) count ∙ total.is) (omega (arith, b, less))

size_counts : (signed : Bool) (x : View) (top : ℕ) (all : List ℕ) (o : Option ℤ) → Counts signed x top o → top < 2 ^ 63
    → Counts false (size x) top (made_of function.Abs all o)
size_counts signed x top all o h low =
    counted ((x.up - x.down) + (x.down - x.up)) top (made_of function.Abs all o) (ap (λ z. made_of function.Abs all z) h.is ∙ go h.z h.sum)
    (let a = h.up in let b = h.down in omega (arith, a, b))
  where
    go : (z : ℤ) → Is z x.up x.down → made_of function.Abs all (Some z) ≡ Some (pos ((x.up - x.down) + (x.down - x.up)))
    go (pos n) is =
        let e : n ≡ (x.up - x.down) + (x.down - x.up) = omega (arith, ints, is) in
        let not_below : int_lt (pos n) (pos 0) ≡ false = at_least_is (pos n) (pos 0) n 0 0 0 (omega (arith, ints)) (omega (arith, ints)) (omega arith) in
        ap (λ b. if b then limited (neg_ℤ (pos n)) else Some (pos n)) not_below ∙ ap (λ m. Some (pos m)) e
    go (negsuc n) is =
        let e : suc n ≡ (x.up - x.down) + (x.down - x.up) = omega (arith, ints, is) in
        let b = h.down in
        let small : suc n < 2 ^ 63 = omega (arith, ints, is, b, low) in
        let opposite : neg_ℤ (negsuc n) ≡ pos (suc n) = omega (arith, ints) in
        let below_0 : int_lt (negsuc n) (pos 0) ≡ true = less_is (negsuc n) (pos 0) 0 (suc n) 0 0 (omega (arith, ints)) (omega (arith, ints)) (omega arith) in
        ap (λ b. if b then limited (neg_ℤ (negsuc n)) else Some (negsuc n)) below_0 ∙ ap limited opposite
        ∙ limited_is (pos (suc n)) (suc n) 0 (omega (arith, ints)) small (omega arith) ∙ ap (λ m. Some (pos m)) e

of_view : (x : View) (top : ℕ) (o : Option ℤ) → Plain x top o → Plain (same x.plain) top o
of_view x top o h = record { is = h.is; small = h.small }

-- an upper bound for the value of a name
pub below_count : (n top i : ℕ) → n ≤ top → i < n → i ≤ top - 1
below_count n top i h less = omega (arith, h, less)

-- Differences that are never below 0

or_known : (x y : Bool) → (x || y) ≡ true → (x ≡ true) ⊎ (y ≡ true)
or_known true y h = inl refl
or_known false y h = inr h

lowest_is : (p : Phrase) (names : ℕ → ℕ) (w v : World) → lowest p ≤ (view p names w v).up
lowest_is (number (pos n)) names w v = omega arith
lowest_is (number (negsuc n)) names w v = omega arith
lowest_is (held a) names w v = omega arith
lowest_is (bound n) names w v = omega arith
lowest_is (old e) names w v = lowest_is e names w w
lowest_is (at a e) names w v = omega arith
lowest_is (of f e) names w v = omega arith
lowest_is (pair operation.Plus x y) names w v = let a = lowest_is x names w v in let b = lowest_is y names w v in omega (arith, a, b)
lowest_is (pair operation.Minus x y) names w v = omega arith
lowest_is (pair operation.Times x y) names w v = omega arith
lowest_is (pair operation.Over x y) names w v = omega arith
lowest_is (pair operation.Modulo x y) names w v = omega arith
lowest_is (pair operation.BitAnd x y) names w v = omega arith
lowest_is (pair operation.BitOr x y) names w v = omega arith
lowest_is (pair operation.BitXor x y) names w v = omega arith
lowest_is (pair operation.Min x y) names w v = omega arith
lowest_is (pair operation.Max x y) names w v = omega arith
lowest_is (pair operation.Bit x y) names w v = omega arith
lowest_is (pair operation.Equal x y) names w v = omega arith
lowest_is (pair operation.Less x y) names w v = omega arith
lowest_is (pair operation.AtMost x y) names w v = omega arith
lowest_is (choice c p q) names w v = omega arith
lowest_is (each name n e) names w v = omega arith
lowest_is (sum name n e) names w v = omega arith

-- the number is not below 0
abbrev Above : Phrase → (ℕ → ℕ) → View → Type 0
Above p tops x = never_below p tops ≡ true → x.down ≤ x.up

address_plain : (signed : Bool) (x : View) (top : ℕ) (o : Option ℤ) → Counts signed x top o → (signed ≡ true → x.down ≤ x.up)
    → Plain (same (address signed x)) top o
address_plain true x top o h above =
    let sum = h.sum in
    let low = h.up in
    let over = above refl in
    let is : Is h.z (x.up - x.down) 0 = omega (arith, ints, sum, over) in
    record { is = h.is ∙ ap (λ z. Some z) (natural h.z (x.up - x.down) is); small = omega (arith, low) }
address_plain false x top o h above = let p = plain_of false x top o h refl in record { is = p.is; small = p.small }

-- a difference that is used as an address
where_below : (p : Phrase) (tops : ℕ → ℕ) (x : View) → (not (minus p) || never_below p tops) ≡ true → Above p tops x
    → minus p ≡ true → x.down ≤ x.up
where_below p tops x known above is = go (or_known (not (minus p)) (never_below p tops) known)
  where
    go : (not (minus p) ≡ true) ⊎ (never_below p tops ≡ true) → x.down ≤ x.up
    go (inl e) = absurd (true≢false (sym is ∙ no (minus p) e))
    go (inr e) = above e

-- an unsigned number is never below 0
level : (signed : Bool) (x : View) (top : ℕ) (o : Option ℤ) → Counts signed x top o → not signed ≡ true → x.down ≤ x.up
level signed x top o h e = let is = (h.plain (no signed e)).1 in omega (arith, is)

above_joined : (op : Operation) (p q : Phrase) (names tops : ℕ → ℕ) (w v : World) (ox oy : Option ℤ)
    → Counts (minus p) (view p names w v) (most p tops) ox → Counts (minus q) (view q names w v) (most q tops) oy
    → Above p tops (view p names w v) → Above q tops (view q names w v)
    → Above (pair op p q) tops (joined op (minus p) (view p names w v) (view q names w v))
above_joined operation.Plus p q names tops w v ox oy hx hy ax ay h =
    let two = both (not (minus p) || never_below p tops) (not (minus q) || never_below q tops) h in
    let a = side p names tops w v ox hx ax two.0 in
    let b = side q names tops w v oy hy ay two.1 in
    omega (arith, a, b)
  where
    side : (p : Phrase) (names tops : ℕ → ℕ) (w v : World) (o : Option ℤ) → Counts (minus p) (view p names w v) (most p tops) o
        → Above p tops (view p names w v) → (not (minus p) || never_below p tops) ≡ true → (view p names w v).down ≤ (view p names w v).up
    side p names tops w v o h above known = go (or_known (not (minus p)) (never_below p tops) known)
      where
        go : (not (minus p) ≡ true) ⊎ (never_below p tops ≡ true) → (view p names w v).down ≤ (view p names w v).up
        go (inl e) = level (minus p) (view p names w v) (most p tops) o h e
        go (inr e) = above e
above_joined operation.Minus p q names tops w v ox oy hx hy ax ay h =
    let two = both (not (minus p)) (not (minus q) && nat_le (most q tops) (lowest p)) h in
    let more = both (not (minus q)) (nat_le (most q tops) (lowest p)) two.1 in
    let less : most q tops ≤ lowest p = at_most_of (most q tops) (lowest p) more.1 in
    let a = (hx.plain (no (minus p) two.0)).1 in
    let b = (hy.plain (no (minus q) more.0)).1 in
    let c = hy.up in
    let d = lowest_is p names w v in
    omega (arith, a, b, c, d, less)
  where
    at_most_of : (m n : ℕ) → nat_le m n ≡ true → m ≤ n
    at_most_of m n is = grind (arith, nat_tests, is)
above_joined operation.Times p q names tops w v ox oy hx hy ax ay h = absurd (true≢false (sym h))
above_joined operation.Over p q names tops w v ox oy hx hy ax ay h = absurd (true≢false (sym h))
above_joined operation.Modulo p q names tops w v ox oy hx hy ax ay h = absurd (true≢false (sym h))
above_joined operation.BitAnd p q names tops w v ox oy hx hy ax ay h = absurd (true≢false (sym h))
above_joined operation.BitOr p q names tops w v ox oy hx hy ax ay h = absurd (true≢false (sym h))
above_joined operation.BitXor p q names tops w v ox oy hx hy ax ay h = absurd (true≢false (sym h))
above_joined operation.Min p q names tops w v ox oy hx hy ax ay h = absurd (true≢false (sym h))
above_joined operation.Max p q names tops w v ox oy hx hy ax ay h = absurd (true≢false (sym h))
above_joined operation.Bit p q names tops w v ox oy hx hy ax ay h = absurd (true≢false (sym h))
above_joined operation.Equal p q names tops w v ox oy hx hy ax ay h = absurd (true≢false (sym h))
above_joined operation.Less p q names tops w v ox oy hx hy ax ay h = absurd (true≢false (sym h))
above_joined operation.AtMost p q names tops w v ox oy hx hy ax ay h = absurd (true≢false (sym h))

-- THE RESULT FOR NUMBERS: the value of an expression is the number of its phrase, and a difference that is never below
-- 0 is at least 0
record Known (e : Expr) (names tops : ℕ → ℕ) (w v : World) (o : Option ℤ) : Type 0 where
  number : Counts (minus (phrase_of e)) (view (phrase_of e) names w v) (most (phrase_of e) tops) o
  above : Above (phrase_of e) tops (view (phrase_of e) names w v)

know : (e : Expr) (names tops : ℕ → ℕ) (w v : World) (steps : ℕ) (numbers : List ℤ) → OnlyBytes w → OnlyBytes v
    → Named numbers names tops → counts (phrase_of e) tops ≡ true → Known e names tops w v (value_of e (moment w w 0) (moment w v steps) numbers)
know (Number (pos n)) names tops w v steps numbers bw bv named h =
    record {
      number = counted n n (Some (pos n)) refl (omega arith);
      above = λ never. absurd (true≢false (sym never));
    }
know (Number (negsuc n)) names tops w v steps numbers bw bv named h = absurd (true≢false (sym h))
know (Held a) names tops w v steps numbers bw bv named h =
    record {
      number = part_counts a w v steps bv h;
      above = λ never. absurd (true≢false (sym never));
    }
know (Bound n) names tops w v steps numbers bw bv named h =
    record {
      number = counted (names n) (tops n) (slice_get numbers n) (named.is n (below n 4 h)) (named.low n (below n 4 h));
      above = λ never. absurd (true≢false (sym never));
    }
know (Old' p e) names tops w v steps numbers bw bv named h = let k = know e names tops w w 0 numbers bw bw named h in record { number = k.number; above = k.above }
know (At' a p e) names tops w v steps numbers bw bv named h = absurd (true≢false (sym h))
know (Of' function.Byte p e) names tops w v steps numbers bw bv named h =
    let two = both (counts (phrase_of e) tops) ((not (minus (phrase_of e)) || never_below (phrase_of e) tops) && nat_lt (most (phrase_of e) tops) 49152) h in
    let more = both (not (minus (phrase_of e)) || never_below (phrase_of e) tops) (nat_lt (most (phrase_of e) tops) 49152) two.1 in
    let k = know e names tops w v steps numbers bw bv named two.0 in
    record {
      number =
          byte_counts v (same (address (minus (phrase_of e)) (view (phrase_of e) names w v))) (most (phrase_of e) tops)
          (value_of e (moment w w 0) (moment w v steps) numbers) bv.ram
          (address_plain (minus (phrase_of e)) (view (phrase_of e) names w v) (most (phrase_of e) tops)
          (value_of e (moment w w 0) (moment w v steps) numbers) k.number
          (where_below (phrase_of e) tops (view (phrase_of e) names w v) more.0 k.above)) (below (most (phrase_of e) tops) 49152 more.1);
      above = λ never. absurd (true≢false (sym never));
    }
know (Of' function.Word p e) names tops w v steps numbers bw bv named h =
    let two = both (counts (phrase_of e) tops) (not (minus (phrase_of e)) && nat_lt (most (phrase_of e) tops) 49151) h in
    let more = both (not (minus (phrase_of e))) (nat_lt (most (phrase_of e) tops) 49151) two.1 in
    let low = below (most (phrase_of e) tops) 49151 more.1 in
    record {
      number = word_counts v (view (phrase_of e) names w v) (most (phrase_of e) tops) (value_of e (moment w w 0) (moment w v steps) numbers) bv.ram
          (plain_of (minus (phrase_of e)) (view (phrase_of e) names w v) (most (phrase_of e) tops) (value_of e (moment w w 0) (moment w v steps) numbers)
          (know e names tops w v steps numbers bw bv named two.0).number (no (minus (phrase_of e)) more.0)) (omega (arith, low));
      above = λ never. absurd (true≢false (sym never));
    }
know (Of' function.Signed p e) names tops w v steps numbers bw bv named h =
    let two = both (counts (phrase_of e) tops) (not (minus (phrase_of e)) && is_byte (most (phrase_of e) tops)) h in
    let more = both (not (minus (phrase_of e))) (is_byte (most (phrase_of e) tops)) two.1 in
    record {
      number = signed_counts (view (phrase_of e) names w v) (most (phrase_of e) tops) (bytes_of v.memory) (value_of e (moment w w 0) (moment w v steps) numbers)
          (plain_of (minus (phrase_of e)) (view (phrase_of e) names w v) (most (phrase_of e) tops) (value_of e (moment w w 0) (moment w v steps) numbers)
          (know e names tops w v steps numbers bw bv named two.0).number (no (minus (phrase_of e)) more.0)) (below (most (phrase_of e) tops) 256 more.1);
      above = λ never. absurd (true≢false (sym never));
    }
know (Of' function.Abs p e) names tops w v steps numbers bw bv named h =
    let two = both (counts (phrase_of e) tops) (in_range (most (phrase_of e) tops)) h in
    record {
      number = size_counts (minus (phrase_of e)) (view (phrase_of e) names w v) (most (phrase_of e) tops) (bytes_of v.memory)
          (value_of e (moment w w 0) (moment w v steps) numbers) (know e names tops w v steps numbers bw bv named two.0).number
          (below (most (phrase_of e) tops) (2 ^ 63) two.1);
      above = λ never. absurd (true≢false (sym never));
    }
know (Pair' op p x q y) names tops w v steps numbers bw bv named h =
    let two = both (counts (phrase_of x) tops) (counts (phrase_of y) tops && may_join op (phrase_of x) (phrase_of y) (most (phrase_of x) tops) (most (phrase_of y) tops)) h in
    let more = both (counts (phrase_of y) tops) (may_join op (phrase_of x) (phrase_of y) (most (phrase_of x) tops) (most (phrase_of y) tops)) two.1 in
    let kx = know x names tops w v steps numbers bw bv named two.0 in
    let ky = know y names tops w v steps numbers bw bv named more.0 in
    record {
      number = joins (phrase_of x) (phrase_of y) (most (phrase_of x) tops) (most (phrase_of y) tops) (view (phrase_of x) names w v) (view (phrase_of y) names w v)
          (value_of x (moment w w 0) (moment w v steps) numbers) (value_of y (moment w w 0) (moment w v steps) numbers)
          kx.number ky.number op more.1
          (divisor_of (phrase_of y) names w v);
      above = above_joined op (phrase_of x) (phrase_of y) names tops w v (value_of x (moment w w 0) (moment w v steps) numbers)
          (value_of y (moment w w 0) (moment w v steps) numbers) kx.number ky.number kx.above ky.above;
    }
know (Choice' p c q x r y) names tops w v steps numbers bw bv named h = absurd (true≢false (sym h))
know (Each' name p n q e) names tops w v steps numbers bw bv named h = absurd (true≢false (sym h))
know (Sum' name p n q e) names tops w v steps numbers bw bv named h =
    let a = both (counts (phrase_of n) tops) _ h in
    let b = both (not (minus (phrase_of n))) _ a.1 in
    let c = both (nat_lt (most (phrase_of n) tops) 65536) _ b.1 in
    let d = both (nat_lt name 4) _ c.1 in
    let f = both (counts (phrase_of e) (with_name tops name (most (phrase_of n) tops - 1))) _ d.1 in
    let g = both (not (minus (phrase_of e))) _ f.1 in
    let number : Plain (view (phrase_of n) names w v) (most (phrase_of n) tops) (value_of n (moment w w 0) (moment w v steps) numbers) =
    plain_of (minus (phrase_of n)) (view (phrase_of n) names w v) (most (phrase_of n) tops)
    (value_of n (moment w w 0) (moment w v steps) numbers)
    (know n names tops w v steps numbers bw bv named a.0).number (no (minus (phrase_of n)) b.0) in
    record {
      number = sum_counts (view (phrase_of n) names w v) (most (phrase_of n) tops) (most (phrase_of e) (with_name tops name (most (phrase_of n) tops - 1)))
          (λ k. value_of e (moment w w 0) (moment w v steps) (slice_set numbers name (pos k)))
          (λ k. (view (phrase_of e) (with_name names name k) w v).plain) (value_of n (moment w w 0) (moment w v steps) numbers) number
          (below (most (phrase_of n) tops) 65536 c.0)
          (λ i less. of_view (view (phrase_of e) (with_name names name i) w v) (most (phrase_of e) (with_name tops name (most (phrase_of n) tops - 1)))
          (value_of e (moment w w 0) (moment w v steps) (slice_set numbers name (pos i)))
          (plain_of (minus (phrase_of e)) (view (phrase_of e) (with_name names name i) w v)
          (most (phrase_of e) (with_name tops name (most (phrase_of n) tops - 1)))
          (value_of e (moment w w 0) (moment w v steps) (slice_set numbers name (pos i)))
          (know e (with_name names name i) (with_name tops name (most (phrase_of n) tops - 1)) w v steps (slice_set numbers name (pos i)) bw bv
          (one_more numbers names tops name i (most (phrase_of n) tops - 1) named (below name 4 d.0)
          (below_count (view (phrase_of n) names w v).plain (most (phrase_of n) tops) i number.small less)) f.0).number
          (no (minus (phrase_of e)) g.0))) (below (most (phrase_of n) tops * most (phrase_of e) (with_name tops name (most (phrase_of n) tops - 1))) (2 ^ 63) g.1);
      above = λ never. absurd (true≢false (sym never));
    }

pub count : (e : Expr) (names tops : ℕ → ℕ) (w v : World) (steps : ℕ) (numbers : List ℤ) → OnlyBytes w → OnlyBytes v
    → Named numbers names tops → counts (phrase_of e) tops ≡ true
    → Counts (minus (phrase_of e)) (view (phrase_of e) names w v) (most (phrase_of e) tops)
    (value_of e (moment w w 0) (moment w v steps) numbers)
count e names tops w v steps numbers bw bv named h = (know e names tops w v steps numbers bw bv named h).number
