-- From states with marks and a board to those of a trial.
use Rattle.std.specs.Prelude.{◌≡◌, ◌⊎◌, ◌<◌, ◌≤◌, ℕ, zero, suc, ◌==◌, ◌||◌, ◌&&◌, not, Bool, true, false, IsTrue, IfSome, nat_lt, List, [], ◌∷◌, length, map, is_some, slice_index, Option, Some, None, refl}
use Rattle.std.specs.List.{list_all, list_any}
use Rattle.std.proofs.Common.{sym, ap, ap₂, ◌∙◌, subst, arith, inl, inr, true≢false}
use Rattle.std.proofs.lemmas.Bool.{cases_lt}
use Rattle.std.proofs.lemmas.Bool.Decides.{nat_tests}
use Rattle.a2_hex.specs.Images.{IsImage}
use Rattle.a2_bus.specs.BusState.{BusState}
use Rattle.a2_bus.specs.Memory.{Memory, ram_byte, ram_end}
use Rattle.a2_bus.specs.PowerOn.{start_memory}
use Rattle.a2_bus.specs.View.{memory_of}
use Rattle.a2_bus.proofs.Viewing.{byte_seen, memory_of-agrees}
use Rattle.a2_effect.specs.Registers.{Registers, registers_at}
use Rattle.a2_services.specs.World.{World, world_of}
use Rattle.a2_promise.specs.declared.promises.Promise.{Promise}
use Rattle.a2_footprint.specs.declared.Part.{Part}
use Rattle.a2_footprint.specs.declared.Part.TheVariants.{D as part_d}
use Rattle.a2_footprint.specs.Counting.{IsState, state_at, states_of}
use Rattle.a2_footprint.specs.Parts.{is_part}
use Rattle.a2_footprint.specs.RotatedStack.{in_stack}
use Rattle.a2_promise_certify.specs.declared.one_state.Setup.{Setup}
use Rattle.a2_promise_certify.specs.declared.input.Input.{Input}
use Rattle.a2_promise_certify.specs.declared.input.Input.TheVariants.{Byte}
use Rattle.a2_promise_certify.specs.declared.known_parts.KnownParts.{KnownParts}
use Rattle.a2_promise_certify.specs.Certifying.{AreMarkedWhere, IsStateTried, may_vary, start_of}
use Rattle.a2_promise_certify.specs.Entering.{IsKeptEverywhere, laid}
use Rattle.a2_promise_certify.specs.Everywhere.{HoldsInEveryState, IsTried, PromisesHoldEverywhere}
use Rattle.a2_promise_certify.specs.Kept.{IsKept, IsRequired, AreClausesKnown, bytes_of, known_by, moment}
use Rattle.a2_promise_certify.specs.Settling.{AreBytes, AreSettled}
use Rattle.a2_promise_certify.specs.States.{Trial, Enters, has_byte, has_part, is_byte, known_bytes, known_parts, state_of, value_in, values_of, with_s, with_values}
use Rattle.a2_promise_certify.specs.Walking.{is_set, knows_part, no_parts}
use Rattle.a2_promise_certify.proofs.Moments.{byte_told}
use Rattle.a2_promise_certify.proofs.States.{frames}

-- S is the same as at the entry.
pub entry_s : (setup : Setup) (number : ℕ) (registers : Registers) (bus : BusState) → world_of registers bus 0 ≡ start_of setup number → registers.s ≡ 0xFD
entry_s setup number registers bus is =
    ap (λ (w : World). w.registers.s) is
    ∙ (frames setup.inputs.now (state_at (map values_of setup.inputs.now) number)
    (world_of (registers_at setup.promise.now.address) setup.base.now 0)).s

-- With no inputs, only D is known.
d_alone : (part : Part) → knows_part no_parts part ≡ is_part part part_d
d_alone part_d = refl
d_alone part = refl

-- A byte is known if it is an input or part of the program, that is, if it is free or fixed.
but_free : (free known : Bool) → (IsTrue free → IsTrue known) → known ≡ (free || (known && not free))
but_free true known is = is refl
but_free false true is = refl
but_free false false is = refl

-- An input in the list is an input, and none is above RAM.
among : (inputs : List Input) (a : ℕ) → list_any (is_byte a) inputs ≡ has_byte inputs a
among [] a = refl
among (input ∷ rest) a = ap (λ v. is_byte a input || v) (among rest a)

both : (x y : Bool) → IsTrue (x && y) → IsTrue x × IsTrue y
both true true h = (refl, refl)
both true false bad = absurd (true≢false (sym bad))
both false y bad = absurd (true≢false (sym bad))

-- A byte that may not be varied is not among inputs that may.
no_input : (inputs : List Input) (a : ℕ) → IsTrue (list_all may_vary inputs) → may_vary (Byte a) ≡ false → has_byte inputs a ≡ false
no_input [] a all out = refl
no_input (Byte b ∷ rest) a all out =
    let h : IsTrue (may_vary (Byte b)) × IsTrue (list_all may_vary rest) = both (may_vary (Byte b)) (list_all may_vary rest) all in
    ap (λ v. v || has_byte rest a) (apart (b == a) refl h.0) ∙ no_input rest a h.1 out
  where
    apart : (here : Bool) → (b == a) ≡ here → IsTrue (may_vary (Byte b)) → (b == a) ≡ false
    apart true e varied =
        let same : b ≡ a = grind (arith, nat_tests, e) in
        absurd (true≢false (sym varied ∙ ap (λ n. may_vary (Byte n)) same ∙ out))
    apart false e varied = e
no_input (input ∷ rest) a all out = no_input rest a (both (may_vary input) (list_all may_vary rest) all).1 out

behind_ram : (inputs : List Input) (a : ℕ) → IsTrue (list_all may_vary inputs) → ram_end ≤ a → has_byte inputs a ≡ false
behind_ram inputs a all following =
    let e : nat_lt a ram_end ≡ false = grind (arith, nat_tests, following) in no_input inputs a all (ap (λ v. v && not (in_stack a)) e)

off_stack : (inputs : List Input) (a : ℕ) → IsTrue (list_all may_vary inputs) → IsTrue (has_byte inputs a) → in_stack a ≡ false
off_stack inputs a all is = go (in_stack a) refl
  where
    neither : (v : Bool) → (v && false) ≡ false
    neither true = refl
    neither false = refl

    go : (stacked : Bool) → in_stack a ≡ stacked → in_stack a ≡ false
    go true e = absurd (true≢false (sym is ∙ no_input inputs a all (ap (λ v. nat_lt a ram_end && not v) e ∙ neither (nat_lt a ram_end))))
    go false e = e

no_mark : (known : List Bool) (a : ℕ) → length known ≤ a → is_set known a ≡ false
no_mark [] a le = refl
no_mark (x ∷ known) zero le = let bad : ⊥ = omega (arith, le) in absurd bad
no_mark (x ∷ known) (suc a) le = let following : length known ≤ a = omega (arith, le) in no_mark known a following

and_not : (v w : Bool) → IsTrue (v && not w) → IsTrue v × (w ≡ false)
and_not true true bad = absurd (true≢false (sym bad))
and_not true false is = (refl, refl)
and_not false w bad = absurd (true≢false (sym bad))

device_seen : (bus : BusState) → (memory_of bus).devices ≡ bus.devices
unfolding memory_of
device_seen bus = refl

-- The bytes of inputs in a world are below 256.
input_byte : (inputs : List Input) (a : ℕ) (w : World) → IsTrue (has_byte inputs a) → IsState (map values_of inputs) (map (value_in w) inputs)
    → ram_byte w.memory a < 256
input_byte [] a w bad is = absurd (true≢false (sym bad))
input_byte (Byte b ∷ rest) a w among is = go (b == a) refl among (λ later. input_byte rest a w later is.1)
  where
    go : (here : Bool) → (b == a) ≡ here → (here || has_byte rest a) ≡ true → (IsTrue (has_byte rest a) → ram_byte w.memory a < 256)
        → ram_byte w.memory a < 256
    go true e _ _ = let same : b ≡ a = grind (arith, nat_tests, e) in subst (λ n. ram_byte w.memory n < 256) same is.0
    go false e among later = later among
input_byte (input ∷ rest) a w among is = input_byte rest a w among is.1

module _ (program : ℕ → Option ℕ) (known : List Bool) (parts : KnownParts) (promise : Promise) (most : ℕ) (first base : BusState) (inputs free : List Input)
    (image : IsImage program) (in_ram : IsTrue (list_all may_vary inputs))
    (first_size : length first.bytes ≡ ram_end) (memory : memory_of first ≡ start_memory program [])
    (settled : AreSettled promise.wanted.items inputs inputs free first base)
    (marks : AreMarkedWhere (λ a. (list_any (is_byte a) inputs || is_some (program a)) && not (in_stack a)) known ram_end)
    (registers : (part : Part) → knows_part parts part ≡ (has_part inputs part || knows_part no_parts part)) where
  -- an input or a byte of the program, outside the stack's page
  abbrev is_there : ℕ → Bool
  is_there a = (has_byte inputs a || is_some (program a)) && not (in_stack a)

  -- Settled bytes are fixed.
  abbrev trial : Trial
  trial = record {
    base = world_of (registers_at promise.address) base 0;
    inputs = free;
    fixed = λ a. is_there a && not (has_byte free a);
  }

  abbrev Both : (ℕ → Bool) → (Part → Bool) → World → Type 0
  Both bytes some w =
      AreClausesKnown promise.wanted.items (known_by bytes some) (known_by bytes some) (moment w w 0) (moment w w 0)
      × (IsRequired promise w → IsKept bytes some promise most w)

  size : length base.bytes ≡ ram_end
  size = settled.but.size ∙ first_size

  not_there : (a : ℕ) (found : Option ℕ) → IfSome found (λ byte. (a < ram_end) × (byte < 256)) → ram_end ≤ a → false ≡ is_some found
  not_there a None _ _ = refl
  not_there a (Some byte) low following = let bad : ⊥ = omega (arith, low.0, following) in absurd bad

  none_behind : (a : ℕ) → ram_end ≤ a → false ≡ is_there a
  none_behind a following =
      ap (λ v. v && not (in_stack a))
      (not_there a (program a) (image a) following ∙ ap (λ v. v || is_some (program a)) (sym (behind_ram inputs a in_ram following)))

  marked_all : (a : ℕ) → is_set known a ≡ is_there a
  marked_all a = go (cases_lt a ram_end)
    where
      go : (a < ram_end) ⊎ (ram_end ≤ a) → is_set known a ≡ is_there a
      go (inl low) = marks.marks a low ∙ ap (λ v. (v || is_some (program a)) && not (in_stack a)) (among inputs a)
      go (inr following) = no_mark known a (subst (λ n. n ≤ a) (sym marks.size) following) ∙ none_behind a following

  free_there : (a : ℕ) → IsTrue (has_byte free a) → IsTrue (is_there a)
  free_there a is =
      ap₂ (λ v w. (v || is_some (program a)) && not w) (settled.bytes a is) (off_stack inputs a in_ram (settled.bytes a is))

  marks_there : is_set known ≡ is_there
  marks_there = λ i a. marked_all a i

  bytes_same : is_set known ≡ known_bytes trial
  bytes_same = λ i a. (marked_all a ∙ but_free (has_byte free a) (is_there a) (free_there a)) i

  parts_same : knows_part parts ≡ known_parts trial
  parts_same = λ i part.
      (registers part ∙ ap₂ (λ v w. v || w) (sym (settled.parts part)) (d_alone part)) i

  tried : (number : ℕ) → IsStateTried known parts promise most (state_of trial number) → IsTried trial promise most (state_of trial number)
  tried number is =
      let told : Both (known_bytes trial) (known_parts trial) (state_of trial number) =
      subst (λ (p : Part → Bool). Both (known_bytes trial) p (state_of trial number)) parts_same
      (subst (λ (b : ℕ → Bool). Both b (knows_part parts) (state_of trial number)) bytes_same (is.looks, is.kept)) in
      record { looks = told.0; kept = told.1 }

  every : (states : ℕ) → states ≡ states_of (map values_of free)
      → ((number : ℕ) → number < states → IsStateTried known parts promise most (state_of trial number))
      → HoldsInEveryState trial promise most
  every states count all = record {
    pages = ((memory_of-agrees base size).first_page, (memory_of-agrees base size).second_page);
    s = omega arith;
    off_stack = λ a is. (and_not (has_byte inputs a || is_some (program a)) (in_stack a) (ap (λ k. k a) (sym marks_there ∙ bytes_same) ∙ is)).1;
    every = λ number below. tried number (all number (subst (λ n. number < n) (sym count) below));
  }

  -- a world at the entry that meets the requirements belongs to the trial
  module _ (s : ℕ) (world : World) (enters : Enters (with_s s (laid program promise.address inputs)) world) (required : IsRequired promise world) where
    are_bytes : AreBytes inputs (bytes_of world.memory)
    are_bytes a byte is there =
        subst (λ n. n < 256) (byte_told world.memory a byte there) (input_byte inputs a world (sym (among inputs a) ∙ is) enters.inputs)

    settled_as : (a : ℕ) → a < ram_end → IsTrue (has_byte inputs a) → has_byte free a ≡ false → ram_byte (memory_of base) a ≡ ram_byte world.memory a
    settled_as a low is out =
        sym (byte_seen base a size low)
        ∙ sym (byte_told world.memory a (slice_index base.bytes a) (settled.settled a is out (moment world world 0) are_bytes required))

    as_laid : (a : ℕ) → a < ram_end → has_byte inputs a ≡ false → IsTrue (is_some (program a)) → ram_byte (memory_of base) a ≡ ram_byte world.memory a
    as_laid a low out is =
        sym (byte_seen base a size low) ∙ settled.but.bytes a out ∙ byte_seen first a first_size low ∙ ap (λ m. ram_byte m a) memory
        ∙ enters.bytes a (ap₂ (λ v w. v && not w) is out)

    fixed_as : (a : ℕ) → IsTrue (trial.fixed a) → ram_byte (memory_of base) a ≡ ram_byte world.memory a
    fixed_as a is = go (cases_lt a ram_end) (has_byte inputs a) refl
      where
        here : IsTrue (is_there a) × (has_byte free a ≡ false)
        here = and_not (is_there a) (has_byte free a) is

        laid_there : IsTrue (has_byte inputs a || is_some (program a))
        laid_there = (and_not (has_byte inputs a || is_some (program a)) (in_stack a) here.0).0

        go : (a < ram_end) ⊎ (ram_end ≤ a) → (v : Bool) → has_byte inputs a ≡ v → ram_byte (memory_of base) a ≡ ram_byte world.memory a
        go (inr following) v e = absurd (true≢false (sym here.0 ∙ sym (none_behind a following)))
        go (inl low) true e = settled_as a low e here.1
        go (inl low) false e = as_laid a low e (sym (ap (λ v. v || is_some (program a)) e) ∙ laid_there)

    enters_trial : Enters (with_s s trial) world
    enters_trial = record {
      registers = enters.registers;
      bytes = fixed_as;
      devices = device_seen base ∙ settled.but.devices ∙ sym (device_seen first) ∙ ap (λ (m : Memory). m.devices) memory ∙ enters.devices;
      pages = enters.pages;
      cycles = enters.cycles;
      inputs = settled.values world enters.inputs;
    }

  -- So the promise is kept in every world.
  pub in_every_world : PromisesHoldEverywhere → (states : ℕ) → states ≡ states_of (map values_of free)
      → ((number : ℕ) → number < states → IsStateTried known parts promise most
      (with_values free (state_at (map values_of free) number) (world_of (registers_at promise.address) base 0)))
      → IsKeptEverywhere program promise inputs most
  unfolding IsKeptEverywhere
  in_every_world law states count all s world low enters required =
      law trial promise most (every states count all) s world low (enters_trial s world enters required) required
