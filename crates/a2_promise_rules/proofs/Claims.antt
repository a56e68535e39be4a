-- An expression holds, at moments of two worlds of bytes, exactly if its phrase says so, and not if its phrase denies
-- it.
use Rattle.std.specs.Prelude.{◌≡◌, ◌≢◌, ◌⊎◌, ◌<◌, ◌≤◌, ℕ, zero, suc, ◌+◌, ◌-◌, ℤ, pos, negsuc, int_le, nat_lt, Bool, true, false, ◌&&◌, ◌||◌, List, Option, Some, None, if◌then◌else◌, slice_get, slice_set, refl}
use Rattle.std.proofs.Common.{sym, ap, ap₂, ◌∙◌, subst, arith, inl, inr, true≢false}
use Rattle.std.proofs.lemmas.Bool.{false≢true}
use Rattle.a2_services.specs.World.{World}
use Rattle.a2_promise.specs.declared.expr.Atom.{Atom}
use Rattle.a2_promise.specs.declared.expr.Atom.TheVariants as atom
use Rattle.a2_promise.specs.declared.expr.Expr.{Expr}
use Rattle.a2_promise.specs.declared.expr.Expr.TheVariants.{Number, Held, Bound, Old', At', Of', Pair', Choice', Each', Sum'}
use Rattle.a2_promise.specs.declared.expr.Operation.{Operation}
use Rattle.a2_promise.specs.declared.expr.Operation.TheVariants as operation
use Rattle.a2_promise.specs.Values.{digit, held as held_atom, operated, operated_on, chosen, count_of, each_below as value_below, at_count, value_of}
use Rattle.a2_promise_certify.specs.Kept.{moment}
use Rattle.a2_promise_certify.specs.Judging.{holds, no_names}
use Rattle.a2_promise.specs.Phrases.{Phrase, number, held, bound, old, at, of, pair, choice, each, sum, phrase_of}
use Rattle.a2_promise_rules.specs.Worlds.{OnlyBytes}
use Rattle.a2_promise_rules.proofs.PhraseMeanings.{View, minus, view, most, counts, Claim, flag_is, flag, is_flag, is_fact, constant, agree, equal, less, at_most, compared, choose, one_of, each_below, claim, is_equal, compares, tells, unnamed, with_name}
use Rattle.a2_promise_rules.proofs.Valuing.{both, neither, below, Counts, Named, one_more, count_is, at_most_is, more_is, less_is, at_least_is, count}

-- a claim holds or is denied, and not both
record Sure (c : Claim) : Type 0 where
  either : c.says ⊎ c.denies
  apart : c.says → c.denies → ⊥

-- a value is 1 if a claim holds, and 0 if it is denied
record Shows (c : Claim) (o : Option ℤ) : Type 0 where
  yes : c.says → o ≡ Some (pos 1)
  no : c.denies → o ≡ Some (pos 0)

record Tells (c : Claim) (o : Option ℤ) : Type 0 where
  sure : Sure c
  shows : Shows c o

-- Flags

flag_tells : (b : Bool) → Tells (flag_is b) (Some (digit b))
flag_tells b = record { sure = record { either = either b; apart = λ h g. true≢false (sym h ∙ g) }; shows = shows b }
  where
    either : (b : Bool) → (b ≡ true) ⊎ (b ≡ false)
    either true = inl refl
    either false = inr refl

    shows : (b : Bool) → Shows (flag_is b) (Some (digit b))
    shows true = record { yes = λ h. refl; no = λ h. absurd (true≢false h) }
    shows false = record { yes = λ h. absurd (false≢true h); no = λ h. refl }

held_tells : (a : Atom) (start v : World) (steps : ℕ) → is_flag a ≡ true → Tells (flag a v) (Some (held_atom a (moment start v steps)))
held_tells atom.Carry start v steps h = flag_tells v.registers.flags.c
held_tells atom.Zero start v steps h = flag_tells v.registers.flags.z
held_tells atom.Negative start v steps h = flag_tells v.registers.flags.n
held_tells atom.Overflow start v steps h = flag_tells v.registers.flags.v
held_tells atom.A start v steps h = absurd (false≢true h)
held_tells atom.X start v steps h = absurd (false≢true h)
held_tells atom.Y start v steps h = absurd (false≢true h)
held_tells atom.S start v steps h = absurd (false≢true h)
held_tells atom.Decimal start v steps h = absurd (false≢true h)
held_tells atom.Interrupt start v steps h = absurd (false≢true h)
held_tells atom.Cycles start v steps h = absurd (false≢true h)
held_tells atom.Steps start v steps h = absurd (false≢true h)

-- Comparisons

same_or : (m n : ℕ) → (m ≡ n) ⊎ (m ≢ n)
same_or m n = grind arith

less_or : (m n : ℕ) → (m < n) ⊎ (n ≤ m)
less_or m n = grind arith

at_most_or : (m n : ℕ) → (m ≤ n) ⊎ (n < m)
at_most_or m n = grind arith

compared_sure : (op : Operation) (signed : Bool) (x y : View) → compares op ≡ true → Sure (compared op signed x y)
compared_sure operation.Equal true x y h = record { either = same_or _ _; apart = λ e ne. ne e }
compared_sure operation.Equal false x y h = record { either = same_or _ _; apart = λ e ne. ne e }
compared_sure operation.Less true x y h = record { either = less_or _ _; apart = λ a b. omega (arith, a, b) }
compared_sure operation.Less false x y h = record { either = less_or _ _; apart = λ a b. omega (arith, a, b) }
compared_sure operation.AtMost true x y h = record { either = at_most_or _ _; apart = λ a b. omega (arith, a, b) }
compared_sure operation.AtMost false x y h = record { either = at_most_or _ _; apart = λ a b. omega (arith, a, b) }
compared_sure operation.Plus signed x y h = absurd (false≢true h)
compared_sure operation.Minus signed x y h = absurd (false≢true h)
compared_sure operation.Times signed x y h = absurd (false≢true h)
compared_sure operation.Over signed x y h = absurd (false≢true h)
compared_sure operation.Modulo signed x y h = absurd (false≢true h)
compared_sure operation.BitAnd signed x y h = absurd (false≢true h)
compared_sure operation.BitOr signed x y h = absurd (false≢true h)
compared_sure operation.BitXor signed x y h = absurd (false≢true h)
compared_sure operation.Min signed x y h = absurd (false≢true h)
compared_sure operation.Max signed x y h = absurd (false≢true h)
compared_sure operation.Bit signed x y h = absurd (false≢true h)

module _ (p q : Phrase) (m n : ℕ) (x y : View) (ox oy : Option ℤ) (hx : Counts (minus p) x m ox) (hy : Counts (minus q) y n oy) where
  on : (op : Operation) → operated_on op ox oy ≡ operated op hx.z hy.z
  on op = ap₂ (λ a b. operated_on op a b) hx.is hy.is

  -- both are never below 0
  record Level : Type 0 where
    plain_x : x.plain ≡ x.up
    zero_x : x.down ≡ 0
    plain_y : y.plain ≡ y.up
    zero_y : y.down ≡ 0

  level : (minus p || minus q) ≡ false → Level
  level e =
      let two = neither (minus p) (minus q) e in
      record {
        plain_x = (hx.plain two.0).0;
        zero_x = (hx.plain two.0).1;
        plain_y = (hy.plain two.1).0;
        zero_y = (hy.plain two.1).1;
      }

  equals : x.up + y.down ≡ y.up + x.down → operated_on operation.Equal ox oy ≡ Some (pos 1)
  equals e =
      on operation.Equal
      ∙ ap₂ (λ a b. Some (digit (a && b)))
      (at_most_is hx.z hy.z x.up x.down y.up y.down hx.sum hy.sum (omega (arith, e)))
      (at_most_is hy.z hx.z y.up y.down x.up x.down hy.sum hx.sum (omega (arith, e)))

  differs : x.up + y.down ≢ y.up + x.down → operated_on operation.Equal ox oy ≡ Some (pos 0)
  differs ne = on operation.Equal ∙ go (less_or (x.up + y.down) (y.up + x.down))
    where
      and_false : (b : Bool) → (b && false) ≡ false
      and_false true = refl
      and_false false = refl

      go : (x.up + y.down < y.up + x.down) ⊎ (y.up + x.down ≤ x.up + y.down) → operated operation.Equal hx.z hy.z ≡ Some (pos 0)
      go (inl l) =
          ap (λ b. Some (digit (int_le hx.z hy.z && b))) (more_is hy.z hx.z y.up y.down x.up x.down hy.sum hx.sum (omega (arith, l)))
          ∙ ap (λ b. Some (digit b)) (and_false (int_le hx.z hy.z))
      go (inr l) =
          ap (λ b. Some (digit (b && int_le hy.z hx.z))) (more_is hx.z hy.z x.up x.down y.up y.down hx.sum hy.sum (omega (arith, l, ne)))

  is_less : x.up + y.down < y.up + x.down → operated_on operation.Less ox oy ≡ Some (pos 1)
  is_less l = on operation.Less ∙ ap (λ b. Some (digit b)) (less_is hx.z hy.z x.up x.down y.up y.down hx.sum hy.sum l)

  not_less : y.up + x.down ≤ x.up + y.down → operated_on operation.Less ox oy ≡ Some (pos 0)
  not_less l = on operation.Less ∙ ap (λ b. Some (digit b)) (at_least_is hx.z hy.z x.up x.down y.up y.down hx.sum hy.sum l)

  is_at_most : x.up + y.down ≤ y.up + x.down → operated_on operation.AtMost ox oy ≡ Some (pos 1)
  is_at_most l = on operation.AtMost ∙ ap (λ b. Some (digit b)) (at_most_is hx.z hy.z x.up x.down y.up y.down hx.sum hy.sum l)

  is_more : y.up + x.down < x.up + y.down → operated_on operation.AtMost ox oy ≡ Some (pos 0)
  is_more l = on operation.AtMost ∙ ap (λ b. Some (digit b)) (more_is hx.z hy.z x.up x.down y.up y.down hx.sum hy.sum l)

  equal_shows : (signed : Bool) → (minus p || minus q) ≡ signed → Shows (equal signed x y) (operated_on operation.Equal ox oy)
  equal_shows true e = record { yes = equals; no = differs }
  equal_shows false e =
      let l = level e in
      let a = l.plain_x in
      let b = l.zero_x in
      let c = l.plain_y in
      let d = l.zero_y in
      record { yes = λ h. equals (omega (arith, h, a, b, c, d)); no = λ h. differs (λ g. h (omega (arith, g, a, b, c, d))) }

  less_shows : (signed : Bool) → (minus p || minus q) ≡ signed → Shows (less signed x y) (operated_on operation.Less ox oy)
  less_shows true e = record { yes = is_less; no = not_less }
  less_shows false e =
      let l = level e in
      let a = l.plain_x in
      let b = l.zero_x in
      let c = l.plain_y in
      let d = l.zero_y in
      record { yes = λ h. is_less (omega (arith, h, a, b, c, d)); no = λ h. not_less (omega (arith, h, a, b, c, d)) }

  at_most_shows : (signed : Bool) → (minus p || minus q) ≡ signed → Shows (at_most signed x y) (operated_on operation.AtMost ox oy)
  at_most_shows true e = record { yes = is_at_most; no = is_more }
  at_most_shows false e =
      let l = level e in
      let a = l.plain_x in
      let b = l.zero_x in
      let c = l.plain_y in
      let d = l.zero_y in
      record { yes = λ h. is_at_most (omega (arith, h, a, b, c, d)); no = λ h. is_more (omega (arith, h, a, b, c, d)) }

  compared_shows : (op : Operation) → compares op ≡ true → Shows (compared op (minus p || minus q) x y) (operated_on op ox oy)
  compared_shows operation.Equal h = equal_shows (minus p || minus q) refl
  compared_shows operation.Less h = less_shows (minus p || minus q) refl
  compared_shows operation.AtMost h = at_most_shows (minus p || minus q) refl
  compared_shows operation.Plus h = absurd (false≢true h)
  compared_shows operation.Minus h = absurd (false≢true h)
  compared_shows operation.Times h = absurd (false≢true h)
  compared_shows operation.Over h = absurd (false≢true h)
  compared_shows operation.Modulo h = absurd (false≢true h)
  compared_shows operation.BitAnd h = absurd (false≢true h)
  compared_shows operation.BitOr h = absurd (false≢true h)
  compared_shows operation.BitXor h = absurd (false≢true h)
  compared_shows operation.Min h = absurd (false≢true h)
  compared_shows operation.Max h = absurd (false≢true h)
  compared_shows operation.Bit h = absurd (false≢true h)

  compared_tells : (op : Operation) → compares op ≡ true → Tells (compared op (minus p || minus q) x y) (operated_on op ox oy)
  compared_tells op h = record { sure = compared_sure op (minus p || minus q) x y h; shows = compared_shows op h }

-- both, or neither

agree_tells : (x y : Claim) (ox oy : Option ℤ) → Tells x ox → Tells y oy → Tells (agree x y) (operated_on operation.Equal ox oy)
agree_tells x y ox oy hx hy = record { sure = record { either = either hx.sure.either hy.sure.either; apart = apart }; shows = record { yes = yes; no = no_more } }
  where
    either : x.says ⊎ x.denies → y.says ⊎ y.denies → (agree x y).says ⊎ (agree x y).denies
    either (inl a) (inl b) = inl (λ h. b, λ h. absurd (hx.sure.apart a h))
    either (inl a) (inr b) = inr (λ h. b, λ h. absurd (hx.sure.apart a h))
    either (inr a) (inl b) = inr (λ h. absurd (hx.sure.apart h a), λ h. b)
    either (inr a) (inr b) = inl (λ h. absurd (hx.sure.apart h a), λ h. b)

    apart : (agree x y).says → (agree x y).denies → ⊥
    apart s d = go hx.sure.either
      where
        go : x.says ⊎ x.denies → ⊥
        go (inl a) = hy.sure.apart (s.0 a) (d.0 a)
        go (inr a) = hy.sure.apart (d.1 a) (s.1 a)

    value : (m n : ℤ) → ox ≡ Some m → oy ≡ Some n → operated_on operation.Equal ox oy ≡ operated operation.Equal m n
    value m n a b = ap₂ (λ u v. operated_on operation.Equal u v) a b

    yes : (agree x y).says → operated_on operation.Equal ox oy ≡ Some (pos 1)
    yes s = go hx.sure.either
      where
        go : x.says ⊎ x.denies → operated_on operation.Equal ox oy ≡ Some (pos 1)
        go (inl a) = value (pos 1) (pos 1) (hx.shows.yes a) (hy.shows.yes (s.0 a))
        go (inr a) = value (pos 0) (pos 0) (hx.shows.no a) (hy.shows.no (s.1 a))

    no_more : (agree x y).denies → operated_on operation.Equal ox oy ≡ Some (pos 0)
    no_more s = go hx.sure.either
      where
        go : x.says ⊎ x.denies → operated_on operation.Equal ox oy ≡ Some (pos 0)
        go (inl a) = value (pos 1) (pos 0) (hx.shows.yes a) (hy.shows.no (s.0 a))
        go (inr a) = value (pos 0) (pos 1) (hx.shows.no a) (hy.shows.yes (s.1 a))

-- one of two, chosen by a third

module _ (c x y : Claim) (oc ox oy : Option ℤ) (hc : Tells c oc) (hx : Tells x ox) (hy : Tells y oy) where
  -- a phrase written as true or false has that value
  abbrev Constant : Option Bool → Claim → Type 0
  Constant None k = Unit {0}
  Constant (Some true) k = k.says
  Constant (Some false) k = k.denies

  first : c.says → chosen oc ox oy ≡ ox
  first h = ap (λ o. chosen o ox oy) (hc.shows.yes h)

  second : c.denies → chosen oc ox oy ≡ oy
  second h = ap (λ o. chosen o ox oy) (hc.shows.no h)

  abbrev plain_choice : Claim
  plain_choice = record {
    says = (c.says → x.says) × (c.denies → y.says);
    denies = (c.says → x.denies) × (c.denies → y.denies);
  }

  plain : Tells plain_choice (chosen oc ox oy)
  plain = record { sure = record { either = either hc.sure.either; apart = λ s d. apart s d hc.sure.either }; shows = record { yes = λ s. yes s hc.sure.either; no = λ d. no_more d hc.sure.either } }
    where
      either : c.says ⊎ c.denies → plain_choice.says ⊎ plain_choice.denies
      either (inl a) = go hx.sure.either
        where
          go : x.says ⊎ x.denies → plain_choice.says ⊎ plain_choice.denies
          go (inl b) = inl (λ h. b, λ h. absurd (hc.sure.apart a h))
          go (inr b) = inr (λ h. b, λ h. absurd (hc.sure.apart a h))
      either (inr a) = go hy.sure.either
        where
          go : y.says ⊎ y.denies → plain_choice.says ⊎ plain_choice.denies
          go (inl b) = inl (λ h. absurd (hc.sure.apart h a), λ h. b)
          go (inr b) = inr (λ h. absurd (hc.sure.apart h a), λ h. b)

      apart : plain_choice.says → plain_choice.denies → c.says ⊎ c.denies → ⊥
      apart s d (inl a) = hx.sure.apart (s.0 a) (d.0 a)
      apart s d (inr a) = hy.sure.apart (s.1 a) (d.1 a)

      yes : plain_choice.says → c.says ⊎ c.denies → chosen oc ox oy ≡ Some (pos 1)
      yes s (inl a) = first a ∙ hx.shows.yes (s.0 a)
      yes s (inr a) = second a ∙ hy.shows.yes (s.1 a)

      no_more : plain_choice.denies → c.says ⊎ c.denies → chosen oc ox oy ≡ Some (pos 0)
      no_more d (inl a) = first a ∙ hx.shows.no (d.0 a)
      no_more d (inr a) = second a ∙ hy.shows.no (d.1 a)

  -- the same claim in another form
  other_words : (k : Claim) → (k.says → plain_choice.says) → (plain_choice.says → k.says) → (k.denies → plain_choice.denies)
      → (plain_choice.denies → k.denies) → Tells k (chosen oc ox oy)
  other_words k to from to_no from_no = record {
    sure = record { either = either plain.sure.either; apart = λ s d. plain.sure.apart (to s) (to_no d) };
    shows = record { yes = λ s. plain.shows.yes (to s); no = λ d. plain.shows.no (to_no d) };
  }
    where
      either : plain_choice.says ⊎ plain_choice.denies → k.says ⊎ k.denies
      either (inl s) = inl (from s)
      either (inr d) = inr (from_no d)

  -- and
  both_tell : y.denies → Tells (choose None (Some false) c x y) (chosen oc ox oy)
  both_tell no_y = other_words (choose None (Some false) c x y)
      (λ s. (λ h. s.1, λ h. absurd (hc.sure.apart s.0 h))) (λ s. from s hc.sure.either)
      (λ d. (λ h. to_no d h, λ h. no_y)) (λ d. from_no d hc.sure.either)
    where
      from : plain_choice.says → c.says ⊎ c.denies → c.says × x.says
      from s (inl a) = (a, s.0 a)
      from s (inr a) = absurd (hy.sure.apart (s.1 a) no_y)

      to_no : c.denies ⊎ x.denies → c.says → x.denies
      to_no (inl a) h = absurd (hc.sure.apart h a)
      to_no (inr a) h = a

      from_no : plain_choice.denies → c.says ⊎ c.denies → c.denies ⊎ x.denies
      from_no d (inl a) = inr (d.0 a)
      from_no d (inr a) = inl a

  -- or
  one_tells : x.says → Tells (choose (Some true) None c x y) (chosen oc ox oy)
  one_tells yes_x = other_words (choose (Some true) None c x y)
      (λ s. (λ h. yes_x, λ h. to s h)) (λ s. from s hc.sure.either)
      (λ d. (λ h. absurd (hc.sure.apart h d.0), λ h. d.1)) (λ d. from_no d hc.sure.either)
    where
      to : c.says ⊎ y.says → c.denies → y.says
      to (inl a) h = absurd (hc.sure.apart a h)
      to (inr a) h = a

      from : plain_choice.says → c.says ⊎ c.denies → c.says ⊎ y.says
      from s (inl a) = inl a
      from s (inr a) = inr (s.1 a)

      from_no : plain_choice.denies → c.says ⊎ c.denies → c.denies × y.denies
      from_no d (inl a) = absurd (hx.sure.apart yes_x (d.0 a))
      from_no d (inr a) = (a, d.1 a)

  -- not
  not_tells : x.denies → y.says → Tells (choose (Some false) (Some true) c x y) (chosen oc ox oy)
  not_tells no_x yes_y = other_words (choose (Some false) (Some true) c x y)
      (λ s. (λ h. absurd (hc.sure.apart h s), λ h. yes_y)) (λ s. from s hc.sure.either)
      (λ d. (λ h. no_x, λ h. absurd (hc.sure.apart d h))) (λ d. from_no d hc.sure.either)
    where
      from : plain_choice.says → c.says ⊎ c.denies → c.denies
      from s (inl a) = absurd (hx.sure.apart (s.0 a) no_x)
      from s (inr a) = a

      from_no : plain_choice.denies → c.says ⊎ c.denies → c.says
      from_no d (inl a) = a
      from_no d (inr a) = absurd (hy.sure.apart yes_y (d.1 a))

  -- if-then
  if_tells : y.says → Tells (choose None (Some true) c x y) (chosen oc ox oy)
  if_tells yes_y = other_words (choose None (Some true) c x y)
      (λ s. (s, λ h. yes_y)) (λ s. s.0)
      (λ d. (λ h. d.1, λ h. absurd (hc.sure.apart d.0 h))) (λ d. from_no d hc.sure.either)
    where
      from_no : plain_choice.denies → c.says ⊎ c.denies → c.says × x.denies
      from_no d (inl a) = (a, d.0 a)
      from_no d (inr a) = absurd (hy.sure.apart yes_y (d.1 a))

  choice_tells : (kx ky : Option Bool) → Constant kx x → Constant ky y → Tells (choose kx ky c x y) (chosen oc ox oy)
  choice_tells None None a b = plain
  choice_tells None (Some true) a b = if_tells b
  choice_tells None (Some false) a b = both_tell b
  choice_tells (Some true) None a b = one_tells a
  choice_tells (Some true) (Some true) a b = plain
  choice_tells (Some true) (Some false) a b = plain
  choice_tells (Some false) None a b = plain
  choice_tells (Some false) (Some true) a b = not_tells a b
  choice_tells (Some false) (Some false) a b = plain

-- for each phrase

constant_tells : (n : ℕ) (names tops : ℕ → ℕ) (w v : World) → tells (number (pos n)) tops ≡ true
    → Tells (claim (number (pos n)) names w v) (Some (pos n))
constant_tells zero names tops w v h =
    record { sure = record { either = inr tt; apart = λ s d. s }; shows = record { yes = λ s. absurd s; no = λ d. refl } }
constant_tells (suc zero) names tops w v h =
    record { sure = record { either = inl tt; apart = λ s d. d }; shows = record { yes = λ s. refl; no = λ d. absurd d } }
constant_tells (suc (suc n)) names tops w v h = absurd (false≢true h)

pair_tells : (op : Operation) (p q : Phrase) (names tops : ℕ → ℕ) (w v : World) (ox oy : Option ℤ) (facts : Bool) → (is_fact p || is_fact q) ≡ facts
    → (if facts then is_equal op && (tells p tops && tells q tops) else compares op && (counts p tops && counts q tops)) ≡ true
    → (tells p tops ≡ true → Tells (claim p names w v) ox) → (tells q tops ≡ true → Tells (claim q names w v) oy)
    → (counts p tops ≡ true → Counts (minus p) (view p names w v) (most p tops) ox)
    → (counts q tops ≡ true → Counts (minus q) (view q names w v) (most q tops) oy)
    → Tells (one_of facts (agree (claim p names w v) (claim q names w v)) (compared op (minus p || minus q) (view p names w v) (view q names w v)))
    (operated_on op ox oy)
pair_tells op p q names tops w v ox oy true e h tp tq cp cq = go op two.0
  where
    two : (is_equal op ≡ true) × ((tells p tops && tells q tops) ≡ true)
    two = both (is_equal op) (tells p tops && tells q tops) h

    more : (tells p tops ≡ true) × (tells q tops ≡ true)
    more = both (tells p tops) (tells q tops) two.1

    go : (op : Operation) → is_equal op ≡ true → Tells (agree (claim p names w v) (claim q names w v)) (operated_on op ox oy)
    go operation.Equal is = agree_tells (claim p names w v) (claim q names w v) ox oy (tp more.0) (tq more.1)
    go operation.Less is = absurd (false≢true is)
    go operation.AtMost is = absurd (false≢true is)
    go operation.Plus is = absurd (false≢true is)
    go operation.Minus is = absurd (false≢true is)
    go operation.Times is = absurd (false≢true is)
    go operation.Over is = absurd (false≢true is)
    go operation.Modulo is = absurd (false≢true is)
    go operation.BitAnd is = absurd (false≢true is)
    go operation.BitOr is = absurd (false≢true is)
    go operation.BitXor is = absurd (false≢true is)
    go operation.Min is = absurd (false≢true is)
    go operation.Max is = absurd (false≢true is)
    go operation.Bit is = absurd (false≢true is)
pair_tells op p q names tops w v ox oy false e h tp tq cp cq =
    let two = both (compares op) (counts p tops && counts q tops) h in
    let more = both (counts p tops) (counts q tops) two.1 in
    compared_tells p q (most p tops) (most q tops) (view p names w v) (view q names w v) ox oy (cp more.0) (cq more.1) op two.0

abbrev IsConstant : Option Bool → Claim → Type 0
IsConstant None k = Unit {0}
IsConstant (Some true) k = k.says
IsConstant (Some false) k = k.denies

constant_is : (p : Phrase) (names : ℕ → ℕ) (w v : World) → IsConstant (constant p) (claim p names w v)
constant_is (number (pos zero)) names w v = tt
constant_is (number (pos (suc zero))) names w v = tt
constant_is (number (pos (suc (suc n)))) names w v = tt
constant_is (number (negsuc n)) names w v = tt
constant_is (held a) names w v = tt
constant_is (bound n) names w v = tt
constant_is (old e) names w v = tt
constant_is (at a e) names w v = tt
constant_is (of f e) names w v = tt
constant_is (pair op p q) names w v = tt
constant_is (choice c p q) names w v = tt
constant_is (each name n e) names w v = tt
constant_is (sum name n e) names w v = tt

choosing : (kx ky : Option Bool) (c x y : Claim) (oc ox oy : Option ℤ) → Tells c oc → Tells x ox → Tells y oy
    → IsConstant kx x → IsConstant ky y → Tells (choose kx ky c x y) (chosen oc ox oy)
choosing None None c x y oc ox oy hc hx hy a b = choice_tells c x y oc ox oy hc hx hy None None tt tt
choosing None (Some true) c x y oc ox oy hc hx hy a b = choice_tells c x y oc ox oy hc hx hy None (Some true) tt b
choosing None (Some false) c x y oc ox oy hc hx hy a b = choice_tells c x y oc ox oy hc hx hy None (Some false) tt b
choosing (Some true) None c x y oc ox oy hc hx hy a b = choice_tells c x y oc ox oy hc hx hy (Some true) None a tt
choosing (Some true) (Some true) c x y oc ox oy hc hx hy a b = choice_tells c x y oc ox oy hc hx hy (Some true) (Some true) a b
choosing (Some true) (Some false) c x y oc ox oy hc hx hy a b = choice_tells c x y oc ox oy hc hx hy (Some true) (Some false) a b
choosing (Some false) None c x y oc ox oy hc hx hy a b = choice_tells c x y oc ox oy hc hx hy (Some false) None a tt
choosing (Some false) (Some true) c x y oc ox oy hc hx hy a b = choice_tells c x y oc ox oy hc hx hy (Some false) (Some true) a b
choosing (Some false) (Some false) c x y oc ox oy hc hx hy a b = choice_tells c x y oc ox oy hc hx hy (Some false) (Some false) a b

-- each number below a bound

abbrev each_first : ℕ → (ℕ → Claim) → Claim
each_first n of_one = record { says = (i : ℕ) → i < n → (of_one i).says; denies = (i : ℕ) × (i < n) × (of_one i).denies }

one_more_tells : (n : ℕ) (of_one : ℕ → Claim) (f : ℕ → Option ℤ) → ((i : ℕ) → i < suc n → Tells (of_one i) (f i))
    → Tells (each_first n of_one) (value_below n f) → Tells (each_first (suc n) of_one) (value_below (suc n) f)
one_more_tells n of_one f known rest =
    record { sure = record { either = either rest.sure.either; apart = apart }; shows = record { yes = yes; no = λ d. no_more d rest.sure.either } }
  where
    last : Tells (of_one n) (f n)
    last = known n (omega arith)

    with_last : (each_first n of_one).says → (of_one n).says → (i : ℕ) → i < suc n → (of_one i).says
    with_last all one i less = by (split less)
      where
        split : i < suc n → (n ≡ i) ⊎ (i < n)
        split h = grind (arith, h)

        by : (n ≡ i) ⊎ (i < n) → (of_one i).says
        by (inl e) = subst (λ k. (of_one k).says) e one
        by (inr l) = all i l

    either : (each_first n of_one).says ⊎ (each_first n of_one).denies → (each_first (suc n) of_one).says ⊎ (each_first (suc n) of_one).denies
    either (inl all) = go last.sure.either
      where
        go : (of_one n).says ⊎ (of_one n).denies → (each_first (suc n) of_one).says ⊎ (each_first (suc n) of_one).denies
        go (inl one) = inl (with_last all one)
        go (inr d) = inr (n, omega arith, d)
    either (inr (i, less, d)) = inr (i, omega (arith, less), d)

    apart : (each_first (suc n) of_one).says → (each_first (suc n) of_one).denies → ⊥
    apart s (i, less, d) = (known i less).sure.apart (s i less) d

    yes : (each_first (suc n) of_one).says → value_below (suc n) f ≡ Some (pos 1)
    yes s =
        ap (λ o. chosen o (f n) (Some (pos 0))) (rest.shows.yes (λ i less. s i (omega (arith, less))))
        ∙ last.shows.yes (s n (omega arith))

    no_more : (each_first (suc n) of_one).denies → (each_first n of_one).says ⊎ (each_first n of_one).denies
        → value_below (suc n) f ≡ Some (pos 0)
    no_more d (inr earlier) = ap (λ o. chosen o (f n) (Some (pos 0))) (rest.shows.no earlier)
    no_more d (inl all) = ap (λ o. chosen o (f n) (Some (pos 0))) (rest.shows.yes all) ∙ go last.sure.either
      where
        go : (of_one n).says ⊎ (of_one n).denies → f n ≡ Some (pos 0)
        go (inr other) = last.shows.no other
        go (inl one) = absurd (apart (with_last all one) d)

first_tell : (n : ℕ) (of_one : ℕ → Claim) (f : ℕ → Option ℤ) → ((i : ℕ) → i < n → Tells (of_one i) (f i))
    → Tells (each_first n of_one) (value_below n f)
first_tell zero of_one f known = record {
  sure = record { either = inl (λ i less. none i less); apart = λ s d. none_at d.0 d.1 };
  shows = record { yes = λ s. refl; no = λ d. absurd (none_at d.0 d.1) };
}
  where
    none_at : (i : ℕ) → i < 0 → ⊥
    none_at i less = omega (arith, less)

    none : (i : ℕ) → i < 0 → (of_one i).says
    none i less = absurd (none_at i less)
first_tell (suc n) of_one f known = one_more_tells n of_one f known (first_tell n of_one f (λ i less. known i (omega (arith, less))))

below_tell : (signed : Bool) (x : View) (top : ℕ) (o : Option ℤ) (of_one : ℕ → Claim) (f : ℕ → Option ℤ) → Counts signed x top o → top < 65536
    → ((i : ℕ) → i < x.up - x.down → Tells (of_one i) (f i)) → Tells (each_below x of_one) (at_count (count_of o) f value_below)
below_tell signed x top o of_one f h low known = record {
  sure = record { either = either first.sure.either; apart = λ s d. first.sure.apart (to s) (to_no d) };
  shows = record { yes = λ s. value ∙ first.shows.yes (to s); no = λ d. value ∙ first.shows.no (to_no d) };
}
  where
    first : Tells (each_first (x.up - x.down) of_one) (value_below (x.up - x.down) f)
    first = first_tell (x.up - x.down) of_one f known

    value : at_count (count_of o) f value_below ≡ value_below (x.up - x.down) f
    value = ap (λ n. at_count n f value_below) (count_is signed x top o h low)

    to : (each_below x of_one).says → (each_first (x.up - x.down) of_one).says
    to s i less = s i (omega (arith, less))

    to_no : (each_below x of_one).denies → (each_first (x.up - x.down) of_one).denies
    to_no (i, less, d) = (i, omega (arith, less), d)

    either : (each_first (x.up - x.down) of_one).says ⊎ (each_first (x.up - x.down) of_one).denies → (each_below x of_one).says ⊎ (each_below x of_one).denies
    either (inl s) = inl (λ i less. s i (omega (arith, less)))
    either (inr (i, less, d)) = inr (i, omega (arith, less), d)

below_top : (x : View) (top i : ℕ) → x.up ≤ top → i < x.up - x.down → i ≤ top - 1
below_top x top i h less = omega (arith, h, less)

-- THE RESULT: an expression holds exactly if its phrase says so
tell : (e : Expr) (names tops : ℕ → ℕ) (w v : World) (steps : ℕ) (numbers : List ℤ) → OnlyBytes w → OnlyBytes v → Named numbers names tops
    → tells (phrase_of e) tops ≡ true → Tells (claim (phrase_of e) names w v) (value_of e (moment w w 0) (moment w v steps) numbers)
tell (Number (pos n)) names tops w v steps numbers bw bv named h = constant_tells n names tops w v h
tell (Number (negsuc n)) names tops w v steps numbers bw bv named h = absurd (false≢true h)
tell (Held a) names tops w v steps numbers bw bv named h = held_tells a w v steps h
tell (Bound n) names tops w v steps numbers bw bv named h = absurd (false≢true h)
tell (Old' p e) names tops w v steps numbers bw bv named h = tell e names tops w w 0 numbers bw bw named h
tell (At' a p e) names tops w v steps numbers bw bv named h = absurd (false≢true h)
tell (Of' f p e) names tops w v steps numbers bw bv named h = absurd (false≢true h)
tell (Pair' op p x q y) names tops w v steps numbers bw bv named h =
    pair_tells op (phrase_of x) (phrase_of y) names tops w v (value_of x (moment w w 0) (moment w v steps) numbers)
    (value_of y (moment w w 0) (moment w v steps) numbers) (is_fact (phrase_of x) || is_fact (phrase_of y)) refl h
    (λ t. tell x names tops w v steps numbers bw bv named t) (λ t. tell y names tops w v steps numbers bw bv named t)
    (λ t. count x names tops w v steps numbers bw bv named t) (λ t. count y names tops w v steps numbers bw bv named t)
tell (Choice' p c q x r y) names tops w v steps numbers bw bv named h =
    let two = both (tells (phrase_of c) tops) (tells (phrase_of x) tops && tells (phrase_of y) tops) h in
    let more = both (tells (phrase_of x) tops) (tells (phrase_of y) tops) two.1 in
    choosing (constant (phrase_of x)) (constant (phrase_of y)) (claim (phrase_of c) names w v) (claim (phrase_of x) names w v)
    (claim (phrase_of y) names w v) (value_of c (moment w w 0) (moment w v steps) numbers) (value_of x (moment w w 0) (moment w v steps) numbers)
    (value_of y (moment w w 0) (moment w v steps) numbers) (tell c names tops w v steps numbers bw bv named two.0)
    (tell x names tops w v steps numbers bw bv named more.0) (tell y names tops w v steps numbers bw bv named more.1)
    (constant_is (phrase_of x) names w v) (constant_is (phrase_of y) names w v)
tell (Each' name p n q e) names tops w v steps numbers bw bv named h =
    let a = both (counts (phrase_of n) tops) _ h in
    let b = both (nat_lt (most (phrase_of n) tops) 65536) _ a.1 in
    let c = both (nat_lt name 4) _ b.1 in
    let number = count n names tops w v steps numbers bw bv named a.0 in
    below_tell (minus (phrase_of n)) (view (phrase_of n) names w v) (most (phrase_of n) tops) (value_of n (moment w w 0) (moment w v steps) numbers)
    (λ i. claim (phrase_of e) (with_name names name i) w v)
    (λ k. value_of e (moment w w 0) (moment w v steps) (slice_set numbers name (pos k))) number (below (most (phrase_of n) tops) 65536 b.0)
    (λ i less. tell e (with_name names name i) (with_name tops name (most (phrase_of n) tops - 1)) w v steps (slice_set numbers name (pos i)) bw bv
    (one_more numbers names tops name i (most (phrase_of n) tops - 1) named (below name 4 c.0)
    (below_top (view (phrase_of n) names w v) (most (phrase_of n) tops) i number.up less)) c.1)
tell (Sum' name p n q e) names tops w v steps numbers bw bv named h = absurd (false≢true h)

-- at first, no name has a value
none_named : Named no_names unnamed unnamed
none_named = record { four = refl; is = is; low = λ i less. omega arith }
  where
    is : (i : ℕ) → i < 4 → slice_get no_names i ≡ Some (pos 0)
    is zero less = refl
    is (suc zero) less = refl
    is (suc (suc zero)) less = refl
    is (suc (suc (suc zero))) less = refl
    is (suc (suc (suc (suc i)))) less = let never : ⊥ = omega (arith, less) in absurd never

module _ (e : Expr) (w v : World) (steps : ℕ) (bw : OnlyBytes w) (bv : OnlyBytes v) (h : tells (phrase_of e) unnamed ≡ true) where
  abbrev value : Option ℤ
  value = value_of e (moment w w 0) (moment w v steps) no_names

  told : Tells (claim (phrase_of e) unnamed w v) value
  told = tell e unnamed unnamed w v steps no_names bw bv none_named h

  -- what the phrase says holds
  pub said_holds : (claim (phrase_of e) unnamed w v).says → holds value ≡ true
  said_holds s = ap holds (told.shows.yes s)

  -- what holds is what the phrase says
  pub holds_said : holds value ≡ true → (claim (phrase_of e) unnamed w v).says
  holds_said is = go told.sure.either
    where
      go : (claim (phrase_of e) unnamed w v).says ⊎ (claim (phrase_of e) unnamed w v).denies → (claim (phrase_of e) unnamed w v).says
      go (inl s) = s
      go (inr d) = absurd (false≢true (sym (ap holds (told.shows.no d)) ∙ is))
