-- The meaning of a phrase for two worlds, in sums and comparisons of natural numbers; proofs use this form.
use Rattle.std.specs.Prelude.{◌≡◌, ◌≢◌, ◌⊎◌, ◌<◌, ◌≤◌, ℕ, zero, suc, ◌+◌, ◌-◌, ◌*◌, ◌/◌, ◌%◌, ◌^◌, ◌==◌, pos, Bool, true, false, ◌&&◌, ◌||◌, not, nat_le, nat_lt, min, max, List, [], ◌∷◌, Option, Some, None, if◌then◌else◌}
use Rattle.a2_bus.specs.Memory.{ram_byte}
use Rattle.a2_effect.specs.Arithmetic.{by_digits, differ}
use Rattle.a2_effect.specs.Registers.{one_if}
use Rattle.a2_services.specs.World.{World}
use Rattle.a2_promise.specs.declared.expr.Atom.{Atom}
use Rattle.a2_promise.specs.declared.expr.Atom.TheVariants as atom
use Rattle.a2_promise.specs.declared.expr.Function.TheVariants as function
use Rattle.a2_promise.specs.declared.expr.Operation.{Operation}
use Rattle.a2_promise.specs.declared.expr.Operation.TheVariants as operation
use Rattle.a2_promise.specs.Phrases.{Phrase, number, held, bound, old, of, pair, choice, each, sum}
use Rattle.a2_theorems.specs.Routines.{word}

-- Names that count

-- the value of each name, given its number; outside the phrase that binds the name, it is 0
abbrev pub unnamed : ℕ → ℕ
unnamed name = 0

abbrev pub with_name : (ℕ → ℕ) → (name k : ℕ) → ℕ → ℕ
with_name names name k other = if other == name then k else names other

-- Numbers

abbrev pub part : Atom → World → ℕ
part atom.A w = w.registers.a
part atom.X w = w.registers.x
part atom.Y w = w.registers.y
part atom.Carry w = one_if w.registers.flags.c
part atom.Zero w = one_if w.registers.flags.z
part atom.Negative w = one_if w.registers.flags.n
part atom.Overflow w = one_if w.registers.flags.v
part _ w = 0

abbrev pub is_part : Atom → Bool
is_part atom.S = false
is_part atom.Decimal = false
is_part atom.Interrupt = false
is_part atom.Cycles = false
is_part atom.Steps = false
is_part _ = true

-- a number that is never below 0, or one as the difference of two such numbers
pub record View : Type 0 where
  pub plain : ℕ
  pub up : ℕ
  pub down : ℕ

abbrev pub same : ℕ → View
same n = record { plain = n; up = n; down = 0 }

-- a byte as a number from -128 to 127
abbrev pub signed_view : ℕ → View
signed_view n = record { plain = 0; up = n; down = 256 * one_if (nat_le 128 n) }

-- whether a number may be below 0
abbrev pub minus : Phrase → Bool
minus (old e) = minus e
minus (of function.Signed e) = true
minus (pair operation.Minus x y) = true
minus (pair operation.Plus x y) = minus x || minus y
minus _ = false

abbrev pub joined : Operation → Bool → View → View → View
joined operation.Plus below x y = record { plain = x.plain + y.plain; up = x.up + y.up; down = x.down + y.down }
joined operation.Minus below x y = record { plain = 0; up = x.up + y.down; down = x.down + y.up }
joined operation.Times below x y = same (x.plain * y.plain)
joined operation.Over below x y = same (x.plain / y.plain)
joined operation.Modulo below x y = same ((if below then x.up + (y.plain - 1) * x.down else x.plain) % y.plain)
joined operation.BitAnd below x y = same (by_digits 8 ◌&&◌ x.plain y.plain)
joined operation.BitOr below x y = same (by_digits 8 ◌||◌ x.plain y.plain)
joined operation.BitXor below x y = same (by_digits 8 differ x.plain y.plain)
joined operation.Min below x y = same (min x.plain y.plain)
joined operation.Max below x y = same (max x.plain y.plain)
joined operation.Bit below x y = same (y.plain / 2 ^ x.plain % 2)
joined _ below x y = same 0

-- the number without its sign
abbrev pub size : View → View
size x = same ((x.up - x.down) + (x.down - x.up))

-- an address; if the number may be below 0, the address is the difference
abbrev pub address : Bool → View → ℕ
address below x = if below then x.up - x.down else x.plain

-- the sum of the values at each number below a bound
abbrev pub summed : ℕ → (ℕ → ℕ) → ℕ
summed zero f = 0
summed (suc n) f = summed n f + f n

abbrev pub view : Phrase → (names : ℕ → ℕ) → World → World → View
view (number (pos n)) names w v = same n
view (held a) names w v = same (part a v)
view (bound name) names w v = same (names name)
view (old e) names w v = view e names w w
view (of function.Byte e) names w v = same (ram_byte v.memory (address (minus e) (view e names w v)))
view (of function.Word e) names w v = same (word v.memory (view e names w v).plain)
view (of function.Signed e) names w v = signed_view (view e names w v).plain
view (of function.Abs e) names w v = size (view e names w v)
view (pair op x y) names w v = joined op (minus x) (view x names w v) (view y names w v)
view (sum name n e) names w v = same (summed (view n names w v).plain (λ i. (view e (with_name names name i) w v).plain))
view _ names w v = same 0

-- an upper bound for the result of an operation, given those of its operands
abbrev pub most_of : Operation → ℕ → ℕ → ℕ
most_of operation.Plus m n = m + n
most_of operation.Minus m n = m + n
most_of operation.Times m n = m * n
most_of operation.Over m n = m
most_of operation.Modulo m n = n
most_of operation.Min m n = m
most_of operation.Max m n = m + n
most_of _ m n = 255

-- an upper bound for a phrase, given one for each name
abbrev pub most : Phrase → (tops : ℕ → ℕ) → ℕ
most (number (pos n)) tops = n
most (held a) tops = 255
most (bound name) tops = tops name
most (old e) tops = most e tops
most (of function.Byte e) tops = 255
most (of function.Word e) tops = 65535
most (of function.Signed e) tops = 256
most (of function.Abs e) tops = most e tops
most (pair op x y) tops = most_of op (most x tops) (most y tops)
most (sum name n e) tops = most n tops * most e (with_name tops name (most n tops - 1))
most _ tops = 0

-- a lower bound for a phrase
abbrev pub lowest : Phrase → ℕ
lowest (number (pos n)) = n
lowest (old e) = lowest e
lowest (pair operation.Plus x y) = lowest x + lowest y
lowest _ = 0

-- whether the numbers written in a difference show that it is never below 0
abbrev pub never_below : Phrase → (tops : ℕ → ℕ) → Bool
never_below (old e) tops = never_below e tops
never_below (pair operation.Minus x y) tops = not (minus x) && (not (minus y) && nat_le (most y tops) (lowest x))
never_below (pair operation.Plus x y) tops = (not (minus x) || never_below x tops) && (not (minus y) || never_below y tops)
never_below _ tops = false

-- a divisor is a number that is written out, and is not 0
abbrev pub divides : Phrase → Bool
divides (number (pos (suc n))) = true
divides _ = false

abbrev pub both_plain : Phrase → Phrase → Bool
both_plain x y = not (minus x) && not (minus y)

abbrev pub is_word : ℕ → Bool
is_word n = nat_lt n 65536

abbrev pub is_byte : ℕ → Bool
is_byte n = nat_lt n 256

abbrev pub in_range : ℕ → Bool
in_range n = nat_lt n (2 ^ 63)

-- whether the rules cover an operation on these numbers
abbrev pub may_join : Operation → Phrase → Phrase → (m n : ℕ) → Bool
may_join operation.Plus x y m n = in_range (m + n)
may_join operation.Minus x y m n = in_range (m + n)
may_join operation.Times x y m n = both_plain x y && in_range (m * n)
may_join operation.Over x y m n = not (minus x) && divides y
may_join operation.Modulo x y m n = divides y
may_join operation.BitAnd x y m n = both_plain x y && (is_byte m && is_byte n)
may_join operation.BitOr x y m n = both_plain x y && (is_byte m && is_byte n)
may_join operation.BitXor x y m n = both_plain x y && (is_byte m && is_byte n)
may_join operation.Min x y m n = both_plain x y
may_join operation.Max x y m n = both_plain x y
may_join operation.Bit x y m n = both_plain x y && (nat_lt m 16 && nat_lt n 65536)
may_join _ x y m n = false

-- whether a phrase is a number that the rules cover
abbrev pub counts : Phrase → (tops : ℕ → ℕ) → Bool
counts (number (pos n)) tops = true
counts (held a) tops = is_part a
counts (bound name) tops = nat_lt name 4
counts (old e) tops = counts e tops
counts (of function.Byte e) tops = counts e tops && ((not (minus e) || never_below e tops) && nat_lt (most e tops) 49152)
counts (of function.Word e) tops = counts e tops && (not (minus e) && nat_lt (most e tops) 49151)
counts (of function.Signed e) tops = counts e tops && (not (minus e) && is_byte (most e tops))
counts (of function.Abs e) tops = counts e tops && in_range (most e tops)
counts (pair op x y) tops = counts x tops && (counts y tops && may_join op x y (most x tops) (most y tops))
counts (sum name n e) tops =
    counts n tops && (not (minus n) && (nat_lt (most n tops) 65536 && (nat_lt name 4 && (counts e (with_name tops name (most n tops - 1))
    && (not (minus e) && in_range (most n tops * most e (with_name tops name (most n tops - 1))))))))
counts _ tops = false

-- Facts

-- the statement that a fact holds, and the statement that it does not
pub record Claim : Type 1 where
  pub says : Type 0
  pub denies : Type 0

abbrev pub flag_is : Bool → Claim
flag_is flag = record { says = flag ≡ true; denies = flag ≡ false }

abbrev pub nothing : Claim
nothing = record { says = ⊥; denies = ⊥ }

abbrev pub flag : Atom → World → Claim
flag atom.Carry v = flag_is v.registers.flags.c
flag atom.Zero v = flag_is v.registers.flags.z
flag atom.Negative v = flag_is v.registers.flags.n
flag atom.Overflow v = flag_is v.registers.flags.v
flag _ v = nothing

abbrev pub is_flag : Atom → Bool
is_flag atom.Carry = true
is_flag atom.Zero = true
is_flag atom.Negative = true
is_flag atom.Overflow = true
is_flag _ = false

-- whether a phrase is a fact that is not a flag
abbrev pub is_fact : Phrase → Bool
is_fact (old e) = is_fact e
is_fact (pair operation.Equal x y) = true
is_fact (pair operation.Less x y) = true
is_fact (pair operation.AtMost x y) = true
is_fact (choice c x y) = true
is_fact (each name n e) = true
is_fact _ = false

-- a phrase that is written as true or false
abbrev pub constant : Phrase → Option Bool
constant (number (pos zero)) = Some false
constant (number (pos (suc zero))) = Some true
constant _ = None

-- both hold, or neither
abbrev pub agree : Claim → Claim → Claim
agree x y = record {
  says = (x.says → y.says) × (x.denies → y.denies);
  denies = (x.says → y.denies) × (x.denies → y.says);
}

abbrev pub equal : Bool → View → View → Claim
equal true x y = record { says = x.up + y.down ≡ y.up + x.down; denies = x.up + y.down ≢ y.up + x.down }
equal false x y = record { says = x.plain ≡ y.plain; denies = x.plain ≢ y.plain }

abbrev pub less : Bool → View → View → Claim
less true x y = record { says = x.up + y.down < y.up + x.down; denies = y.up + x.down ≤ x.up + y.down }
less false x y = record { says = x.plain < y.plain; denies = y.plain ≤ x.plain }

abbrev pub at_most : Bool → View → View → Claim
at_most true x y = record { says = x.up + y.down ≤ y.up + x.down; denies = y.up + x.down < x.up + y.down }
at_most false x y = record { says = x.plain ≤ y.plain; denies = y.plain < x.plain }

abbrev pub compared : Operation → Bool → View → View → Claim
compared operation.Equal below x y = equal below x y
compared operation.Less below x y = less below x y
compared operation.AtMost below x y = at_most below x y
compared _ below x y = nothing

-- and, or, not, if-then; in general, one of two facts, chosen by a third
abbrev pub choose : Option Bool → Option Bool → Claim → Claim → Claim → Claim
choose None (Some false) c x y = record { says = c.says × x.says; denies = c.denies ⊎ x.denies }
choose (Some true) None c x y = record { says = c.says ⊎ y.says; denies = c.denies × y.denies }
choose (Some false) (Some true) c x y = record { says = c.denies; denies = c.says }
choose None (Some true) c x y = record { says = c.says → x.says; denies = c.says × x.denies }
choose _ _ c x y = record {
  says = (c.says → x.says) × (c.denies → y.says);
  denies = (c.says → x.denies) × (c.denies → y.denies);
}

abbrev pub one_of : Bool → Claim → Claim → Claim
one_of true x y = x
one_of false x y = y

-- each number below a bound, which may itself be below 0
abbrev pub each_below : View → (ℕ → Claim) → Claim
each_below x of_one = record {
  says = (i : ℕ) → i + x.down < x.up → (of_one i).says;
  denies = (i : ℕ) × (i + x.down < x.up) × (of_one i).denies;
}

abbrev pub claim : Phrase → (names : ℕ → ℕ) → World → World → Claim
claim (number (pos zero)) names w v = record { says = ⊥; denies = Unit {0} }
claim (number (pos (suc n))) names w v = record { says = Unit {0}; denies = ⊥ }
claim (held a) names w v = flag a v
claim (old e) names w v = claim e names w w
claim (pair op x y) names w v =
    one_of (is_fact x || is_fact y) (agree (claim x names w v) (claim y names w v))
    (compared op (minus x || minus y) (view x names w v) (view y names w v))
claim (choice c x y) names w v = choose (constant x) (constant y) (claim c names w v) (claim x names w v) (claim y names w v)
claim (each name n e) names w v = each_below (view n names w v) (λ i. claim e (with_name names name i) w v)
claim _ names w v = nothing

abbrev pub is_equal : Operation → Bool
is_equal operation.Equal = true
is_equal _ = false

abbrev pub compares : Operation → Bool
compares operation.Equal = true
compares operation.Less = true
compares operation.AtMost = true
compares _ = false

-- whether a phrase is a fact that the rules cover
abbrev pub tells : Phrase → (tops : ℕ → ℕ) → Bool
tells (number (pos zero)) tops = true
tells (number (pos (suc zero))) tops = true
tells (held a) tops = is_flag a
tells (old e) tops = tells e tops
tells (pair op x y) tops =
    if is_fact x || is_fact y then is_equal op && (tells x tops && tells y tops) else compares op && (counts x tops && counts y tops)
tells (choice c x y) tops = tells c tops && (tells x tops && tells y tops)
tells (each name n e) tops =
    counts n tops && (nat_lt (most n tops) 65536 && (nat_lt name 4 && tells e (with_name tops name (most n tops - 1))))
tells _ tops = false

-- whether this is so for each of several phrases
abbrev pub all_tell : List Phrase → Bool
all_tell [] = true
all_tell (p ∷ more) = tells p unnamed && all_tell more

abbrev pub all_say : List Phrase → World → World → Type 0
all_say [] w v = Unit {0}
all_say (p ∷ more) w v = (claim p unnamed w v).says × all_say more w v
