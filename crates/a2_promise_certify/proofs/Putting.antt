-- Setting inputs to the values of a state, and counting states.
use Rattle.std.specs.Prelude.{◌≡◌, ◌⊎◌, ◌<◌, ◌≤◌, ℕ, zero, suc, ◌+◌, ◌*◌, Bool, true, nat_lt, if◌then◌else◌, List, [], ◌∷◌, ◌++◌, length, map, drop, refl}
use Rattle.std.proofs.Common.{sym, ap, ◌∙◌, subst, arith, inl, inr}
use Rattle.std.proofs.Math.Nat.{mul_assoc, mul_comm}
use Rattle.std.proofs.lemmas.Bool.Decides.{nat_tests}
use Rattle.a2_bus.specs.BusState.{BusState, board_access}
use Rattle.a2_bus.specs.Devices.{after_access}
use Rattle.a2_bus.specs.Memory.{Memory, memory_access, ram_end, with_ram}
use Rattle.a2_bus.specs.View.{memory_of}
use Rattle.a2_bus.proofs.Holding.{each_board_acts_as_its_memory}
use Rattle.a2_effect.specs.Registers.{Registers}
use Rattle.a2_services.specs.World.{world_of}
use Rattle.a2_footprint.specs.Counting.{states_of}
use Rattle.a2_promise_certify.specs.declared.input.Input.{Input}
use Rattle.a2_promise_certify.specs.declared.input.Input.TheVariants.{Byte}
use Rattle.a2_promise_certify.specs.Certifying.{AreMarkedWhere}
use Rattle.a2_promise_certify.specs.States.{values_of, with_value}
use Rattle.a2_promise_certify.specs.Walking.{is_set}

-- this many more states
pub one_counted : (inputs : List Input) (i : ℕ) (input : Input) (states more all : ℕ)
    → drop i inputs ≡ input ∷ drop (i + 1) inputs → more ≡ states * values_of input
    → states_of (map values_of (drop i inputs)) * states ≡ all
    → states_of (map values_of (drop (i + 1) inputs)) * more ≡ all
one_counted inputs i input states more all here is before =
    let rest : ℕ = states_of (map values_of (drop (i + 1) inputs)) in
    ap (λ k. rest * k) (is ∙ mul_comm states (values_of input)) ∙ sym (mul_assoc rest (values_of input) states)
    ∙ ap (λ xs. states_of (map values_of xs) * states) (sym here) ∙ before

-- a store in RAM
in_ram : (memory : Memory) (a value : ℕ) → a < ram_end → memory_access.after_write memory a value ≡ with_ram memory a value
unfolding memory_access
in_ram memory a value low =
    let e : nat_lt a ram_end ≡ true = grind (arith, nat_tests, low) in
    ap (λ (v : Bool). if v then with_ram memory a value else record memory { devices = after_access memory.devices a }) e

-- A byte is set to a value.
pub byte_put : (registers : Registers) (bus new : BusState) (a value : ℕ) → length bus.bytes ≡ ram_end → a < ram_end
    → new ≡ board_access.after_write bus a value
    → world_of registers new 0 ≡ with_value (Byte a) value (world_of registers bus 0)
byte_put registers bus new a value size low put = λ i. record {
  registers = registers;
  memory = (ap (λ b. memory_of b) put ∙ (each_board_acts_as_its_memory bus size).same_write a value ∙ in_ram (memory_of bus) a value low) i;
  cycles = 0;
}

-- Marks of addresses

low_or_last : (a n : ℕ) → a < n + 1 → (a < n) ⊎ (a ≡ n)
low_or_last a n lt = grind (arith, lt)

kept_mark : (known : List Bool) (b : Bool) (a : ℕ) → a < length known → is_set (known ++ b ∷ []) a ≡ is_set known a
kept_mark [] b a lt = let bad : ⊥ = omega (arith, lt) in absurd bad
kept_mark (x ∷ known) b zero lt = refl
kept_mark (x ∷ known) b (suc a) lt = let low : a < length known = omega (arith, lt) in kept_mark known b a low

last_mark : (known : List Bool) (b : Bool) → is_set (known ++ b ∷ []) (length known) ≡ b
last_mark [] b = refl
last_mark (x ∷ known) b = last_mark known b

one_longer : (known : List Bool) (b : Bool) → length (known ++ b ∷ []) ≡ length known + 1
one_longer [] b = refl
one_longer (x ∷ known) b = let e : length (known ++ b ∷ []) ≡ length known + 1 = one_longer known b in omega (arith, e)

pub none_laid : (test : ℕ → Bool) (known : List Bool) → known ≡ [] → AreMarkedWhere test known 0
none_laid test known none = record {
  size = ap length none;
  within = omega arith;
  marks = λ a lt. (let bad : ⊥ = omega (arith, lt) in absurd bad);
}

pub one_laid : (test : ℕ → Bool) (known : List Bool) (count : ℕ) (b : Bool) → count < ram_end → b ≡ test count → AreMarkedWhere test known count
    → AreMarkedWhere test (known ++ b ∷ []) (count + 1)
one_laid test known count b low is h = record {
  size = one_longer known b ∙ ap (λ n. n + 1) h.size;
  within = omega (arith, low);
  marks = λ a lt. go a (low_or_last a count lt);
}
  where
    go : (a : ℕ) → (a < count) ⊎ (a ≡ count) → is_set (known ++ b ∷ []) a ≡ test a
    go a (inl low) = kept_mark known b a (subst (λ n. a < n) (sym h.size) low) ∙ h.marks a low
    go a (inr e) = ap (λ n. is_set (known ++ b ∷ []) n) (e ∙ sym h.size) ∙ last_mark known b ∙ is ∙ ap (λ n. test n) (sym e)

-- All addresses are marked.
pub all_laid : (test : ℕ → Bool) (known : List Bool) (count : ℕ) → ram_end ≤ count → AreMarkedWhere test known count → AreMarkedWhere test known ram_end
all_laid test known count end h =
    let e : count ≡ ram_end = omega (arith, end, h.within) in subst (λ n. AreMarkedWhere test known n) e h
