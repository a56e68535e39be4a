-- The value of an expression of a promise, for a state at a routine's entry and a state after it: an integer, or no
-- value. True is 1 and false is 0. This project's profile.
use Rattle.std.specs.Prelude.{ℕ, zero, suc, ◌+◌, ◌*◌, ◌/◌, ◌%◌, ◌^◌, ℤ, pos, negsuc, ◌+ℤ◌, ◌-ℤ◌, ◌*ℤ◌, neg_ℤ, int_lt, int_le, nat_lt, bit_and, bit_or, bit_xor, Bool, ◌==◌, ◌&&◌, List, [], ◌∷◌, Option, Some, None, if◌then◌else◌, slice_get, slice_set}
use Rattle.std.specs.Int.{int_div_euclid, int_rem_euclid}
use Rattle.a2_effect.specs.Registers.{Registers}
use Rattle.a2_effect.specs.View.{registers_of}
use Rattle.a2_promise.specs.declared.expr.Atom.{Atom}
use Rattle.a2_promise.specs.declared.expr.Atom.TheVariants as atom
use Rattle.a2_promise.specs.declared.expr.Function.{Function}
use Rattle.a2_promise.specs.declared.expr.Function.TheVariants as function
use Rattle.a2_promise.specs.declared.expr.Operation.{Operation}
use Rattle.a2_promise.specs.declared.expr.Operation.TheVariants as operation
use Rattle.a2_promise.specs.declared.expr.Expr.{Expr}
use Rattle.a2_promise.specs.declared.expr.Expr.TheVariants.{Number, Held, Bound, Old', At', Of', Pair', Choice', Each', Sum'}
use Rattle.a2_promise.specs.declared.valuing.StateView.{StateView}
use Rattle.a2_promise.specs.declared.valuing.Visit.{Visit}

-- a state: the registers, the bytes of RAM from address 0 on, and the cycles and steps since the entry
pub record Moment : Type 0 where
  pub registers : Registers
  pub bytes : List ℕ
  pub cycles : ℕ
  pub steps : ℕ

abbrev pub moment_of : {A : Type 0} → StateView A → Moment
moment_of sight = record {
  registers = registers_of sight.regs;
  bytes = sight.space.now.bytes;
  cycles = sight.cycles;
  steps = sight.steps;
}

-- the state at a visit of a label; then the state when a run last reached the label at an address, if it has reached
-- it
abbrev pub moment_there : {A : Type 0} → Visit A → Moment
moment_there visit = record {
  registers = registers_of visit.regs;
  bytes = visit.space.bytes;
  cycles = visit.cycles;
  steps = visit.steps;
}

abbrev pub visited : {A : Type 0} → List (Visit A) → ℕ → Option Moment
visited [] a = None
visited (visit ∷ visits) a = if visit.address == a && visit.is_there then Some (moment_there visit) else visited visits a

abbrev pub digit : Bool → ℤ
digit holds = if holds then pos 1 else pos 0

-- whether a number is from -(2 to the 63) to below 2 to the 63; other numbers count as no value
abbrev pub fits : ℤ → Bool
fits (pos n) = nat_lt n (2 ^ 63)
fits (negsuc n) = nat_lt n (2 ^ 63)

abbrev pub limited : ℤ → Option ℤ
limited z = if fits z then Some z else None

-- a number if it is from 0 to 65,535
abbrev pub word_in : ℤ → Option ℕ
word_in (pos n) = if nat_lt n 65536 then Some n else None
word_in (negsuc n) = None

abbrev pub held : Atom → Moment → ℤ
held atom.A m = pos m.registers.a
held atom.X m = pos m.registers.x
held atom.Y m = pos m.registers.y
held atom.S m = pos m.registers.s
held atom.Carry m = digit m.registers.flags.c
held atom.Zero m = digit m.registers.flags.z
held atom.Negative m = digit m.registers.flags.n
held atom.Overflow m = digit m.registers.flags.v
held atom.Decimal m = digit m.registers.flags.d
held atom.Interrupt m = digit m.registers.flags.i
held atom.Cycles m = pos m.cycles
held atom.Steps m = pos m.steps

abbrev pub byte_value : Option ℕ → Option ℤ
byte_value None = None
byte_value (Some byte) = Some (pos byte)

abbrev pub word_value : Option ℕ → Option ℕ → Option ℤ
word_value (Some low) (Some high) = Some (pos (low + 256 * high))
word_value _ _ = None

-- the byte at an address, and then two bytes, low byte first; the byte after $FFFF is 0
abbrev pub byte_at : List ℕ → Option ℕ → Option ℤ
byte_at bytes None = None
byte_at bytes (Some a) = byte_value (slice_get bytes a)

abbrev pub word_at : List ℕ → Option ℕ → Option ℤ
word_at bytes None = None
word_at bytes (Some a) = word_value (slice_get bytes a) (slice_get bytes ((a + 1) % 65536))

-- a byte as a number from -128 to 127
abbrev pub signed : Option ℕ → Option ℤ
signed None = None
signed (Some n) = if nat_lt n 128 then Some (pos n) else if nat_lt n 256 then Some (pos n -ℤ pos 256) else None

abbrev pub made : Function → List ℕ → ℤ → Option ℤ
made function.Byte bytes x = byte_at bytes (word_in x)
made function.Word bytes x = word_at bytes (word_in x)
made function.Signed bytes x = signed (word_in x)
made function.Abs bytes x = if int_lt x (pos 0) then limited (neg_ℤ x) else Some x

abbrev pub bitwise : (ℕ → ℕ → ℕ) → Option ℕ → Option ℕ → Option ℤ
bitwise f (Some x) (Some y) = Some (pos (f x y))
bitwise f _ _ = None

-- a bit, 0 to 15, of a number
abbrev pub bit_of : Option ℕ → Option ℕ → Option ℤ
bit_of (Some place) (Some x) = if nat_lt place 16 then Some (pos (x / 2 ^ place % 2)) else None
bit_of _ _ = None

-- quotients are rounded down and need a divisor above 0
abbrev pub operated : Operation → ℤ → ℤ → Option ℤ
operated operation.Plus x y = limited (x +ℤ y)
operated operation.Minus x y = limited (x -ℤ y)
operated operation.Times x y = limited (x *ℤ y)
operated operation.Over x y = if int_lt (pos 0) y then Some (int_div_euclid x y) else None
operated operation.Modulo x y = if int_lt (pos 0) y then Some (int_rem_euclid x y) else None
operated operation.BitAnd x y = bitwise bit_and (word_in x) (word_in y)
operated operation.BitOr x y = bitwise bit_or (word_in x) (word_in y)
operated operation.BitXor x y = bitwise bit_xor (word_in x) (word_in y)
operated operation.Min x y = Some (if int_lt y x then y else x)
operated operation.Max x y = Some (if int_lt x y then y else x)
operated operation.Bit x y = bit_of (word_in x) (word_in y)
operated operation.Equal x y = Some (digit (int_le x y && int_le y x))
operated operation.Less x y = Some (digit (int_lt x y))
operated operation.AtMost x y = Some (digit (int_le x y))

-- there is no value if an operand has none
abbrev pub made_of : Function → List ℕ → Option ℤ → Option ℤ
made_of f bytes None = None
made_of f bytes (Some x) = made f bytes x

abbrev pub operated_on : Operation → Option ℤ → Option ℤ → Option ℤ
operated_on op (Some x) (Some y) = operated op x y
operated_on op _ _ = None

abbrev pub is_zero : ℤ → Bool
is_zero x = int_le x (pos 0) && int_le (pos 0) x

-- one of two values, chosen by a third; the other one need not have a value
abbrev pub chosen : Option ℤ → Option ℤ → Option ℤ → Option ℤ
chosen None one other = None
chosen (Some x) one other = if is_zero x then other else one

-- how many numbers are below a bound: 0 if the bound is negative; there is no value if it is above 65,535
abbrev pub count_of : Option ℤ → Option ℕ
count_of None = None
count_of (Some (negsuc n)) = Some 0
count_of (Some (pos n)) = if nat_lt n 65536 then Some n else None

-- whether f is true for each number below n; the first number for which it is false or has no value decides
abbrev pub each_below : ℕ → (ℕ → Option ℤ) → Option ℤ
each_below zero f = Some (pos 1)
each_below (suc n) f = chosen (each_below n f) (f n) (Some (pos 0))

abbrev pub sum_below : ℕ → (ℕ → Option ℤ) → Option ℤ
sum_below zero f = Some (pos 0)
sum_below (suc n) f = operated_on operation.Plus (sum_below n f) (f n)

abbrev pub at_count : Option ℕ → (ℕ → Option ℤ) → (ℕ → (ℕ → Option ℤ) → Option ℤ) → Option ℤ
at_count None f g = None
at_count (Some n) f g = g n f

abbrev pub at_visit : Option Moment → (Moment → Option ℤ) → Option ℤ
at_visit None f = None
at_visit (Some here) f = f here

-- The value of an expression, given the visits of labels; the values of bound names are listed by their numbers.
-- `old` is the value at the entry, and `at` the value when the run last reached the label.
abbrev pub value_in : Expr → Moment → Moment → (ℕ → Option Moment) → List ℤ → Option ℤ
value_in (Number n) entry exit visits names = Some n
value_in (Held a) entry exit visits names = Some (held a exit)
value_in (Bound name) entry exit visits names = slice_get names name
value_in (Old' p e) entry exit visits names = value_in e entry entry visits names
value_in (At' a p e) entry exit visits names = at_visit (visits a) (λ here. value_in e entry here visits names)
value_in (Of' f p e) entry exit visits names = made_of f exit.bytes (value_in e entry exit visits names)
value_in (Pair' op p x q y) entry exit visits names =
    operated_on op (value_in x entry exit visits names) (value_in y entry exit visits names)
value_in (Choice' p c q x r y) entry exit visits names =
    chosen (value_in c entry exit visits names) (value_in x entry exit visits names) (value_in y entry exit visits names)
value_in (Each' name p n q e) entry exit visits names =
    at_count (count_of (value_in n entry exit visits names)) (λ k. value_in e entry exit visits (slice_set names name (pos k))) each_below
value_in (Sum' name p n q e) entry exit visits names =
    at_count (count_of (value_in n entry exit visits names)) (λ k. value_in e entry exit visits (slice_set names name (pos k))) sum_below

-- the visits of a run that has reached no label, and the value without visits
abbrev pub nowhere : ℕ → Option Moment
nowhere a = None

abbrev pub value_of : Expr → Moment → Moment → List ℤ → Option ℤ
value_of e entry exit names = value_in e entry exit nowhere names
