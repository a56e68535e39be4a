-- A board that equals another except for some bytes.
use Rattle.std.specs.Prelude.{◌≡◌, ◌≢◌, ◌⊎◌, ◌<◌, ◌≤◌, ℕ, ◌+◌, ◌==◌, ◌||◌, nat_lt, if◌then◌else◌, not, Bool, true, false, IsTrue, List, [], ◌∷◌, ◌++◌, zero, suc, length, Some, None, slice_get, slice_index, slice_set, refl}
use Rattle.std.proofs.Common.{sym, ap, ◌∙◌, subst, arith, inl, inr, true≢false}
use Rattle.std.proofs.lemmas.Bool.{cases_lt}
use Rattle.std.proofs.lemmas.Bool.Decides.{nat_tests}
use Rattle.std.proofs.lemmas.Grind.{same_number_lists}
use Rattle.std.proofs.lemmas.List.{get_or-set_other, get_or-set_same, get_or_past, length-set}
use Rattle.std.proofs.lemmas.Option.{get_or_from_slice_get, slice_get-get_or, slice_get_within}
use Rattle.a2_text.specs.Bytes.{is_among}
use Rattle.a2_bus.specs.BusState.{BusState, board_access}
use Rattle.a2_bus.specs.Devices.{Devices, after_access, device_byte, keyboard_byte}
use Rattle.a2_bus.specs.Lawful.{board_lawful}
use Rattle.a2_bus.specs.Memory.{ram_end}
use Rattle.a2_bus.specs.PowerOn.{first_devices}
use Rattle.a2_promise_certify.specs.declared.input.Input.{Input}
use Rattle.a2_promise_certify.specs.But.{IsEqualExcept}
use Rattle.a2_promise_certify.specs.States.{has_byte, is_byte}
use Rattle.a2_promise_certify.specs.Walking.{is_set}
use Rattle.a2_promise_certify.proofs.Marking.{marked}

-- A board that equals another except for no byte is the other.
pub same : (board other : BusState) → IsEqualExcept (λ a. false) board other → board ≡ other
same board other h =
    let bytes : board.bytes ≡ other.bytes = same_number_lists board.bytes other.bytes h.size (λ k lt. h.bytes k refl) in
    λ i. record { bytes = bytes i; devices = h.devices i }

pub itself : (there : ℕ → Bool) (board : BusState) → IsEqualExcept there board board
itself there board = record { size = refl; bytes = λ a out. refl; devices = refl }

pub turned : (there : ℕ → Bool) (board other : BusState) → IsEqualExcept there board other → IsEqualExcept there other board
turned there board other h = record { size = sym h.size; bytes = λ a out. sym (h.bytes a out); devices = sym h.devices }

pub joined : (there : ℕ → Bool) (board mid other : BusState) → IsEqualExcept there board mid → IsEqualExcept there mid other → IsEqualExcept there board other
joined there board mid other first second = record {
  size = first.size ∙ second.size;
  bytes = λ a out. first.bytes a out ∙ second.bytes a out;
  devices = first.devices ∙ second.devices;
}

-- The same holds except for more bytes.
pub wider : (there more : ℕ → Bool) (board other : BusState) → ((a : ℕ) → there a ≡ true → more a ≡ true)
    → IsEqualExcept there board other → IsEqualExcept more board other
wider there more board other into h = record {
  size = h.size;
  bytes = λ a out. h.bytes a (outside a out (there a) refl);
  devices = h.devices;
}
  where
    outside : (a : ℕ) → more a ≡ false → (v : Bool) → there a ≡ v → there a ≡ false
    outside a out true is = absurd (true≢false (sym (into a is) ∙ out))
    outside a out false is = is

module _ (there : ℕ → Bool) (board other : BusState) (a : ℕ) (but : IsEqualExcept (λ b. (a == b) || there b) board other) where
  -- One byte is set to the other board's.
  pub put_there : (byte : ℕ) → slice_get other.bytes a ≡ Some byte → (new : BusState) → new ≡ board_access.after_write board a byte
      → IsEqualExcept there new other
  put_there byte at new left = subst (λ b. IsEqualExcept there b other) (sym (left ∙ board_lawful.ram_write board a byte low)) put
    where
      low : a < length board.bytes
      low = omega (arith, slice_get_within other.bytes a byte at, but.size)

      put : IsEqualExcept there (record board { bytes = slice_set board.bytes a byte }) other
      put = record {
        size = length-set board.bytes a byte ∙ but.size;
        bytes = λ b out. each b out (a == b) refl;
        devices = but.devices;
      }
        where
          each : (b : ℕ) → there b ≡ false → (here : Bool) → (a == b) ≡ here
              → slice_index (slice_set board.bytes a byte) b ≡ slice_index other.bytes b
          each b out true is =
              let e : b ≡ a = grind (arith, nat_tests, is) in
              subst (λ n. slice_index (slice_set board.bytes a byte) n ≡ slice_index other.bytes n) (sym e)
              (get_or-set_same board.bytes a byte 0 low ∙ sym (get_or_from_slice_get other.bytes a byte 0 at))
          each b out false is =
              let e : b ≢ a = grind (arith, nat_tests, is) in
              get_or-set_other board.bytes a b byte 0 e ∙ but.bytes b (ap (λ v. v || there b) is ∙ out)

  -- Above RAM there is no byte to set.
  pub none_there : slice_get other.bytes a ≡ None → IsEqualExcept there board other
  none_there none = record {
    size = but.size;
    bytes = λ b out. each b out (a == b) refl;
    devices = but.devices;
  }
    where
      each : (b : ℕ) → there b ≡ false → (here : Bool) → (a == b) ≡ here → slice_index board.bytes b ≡ slice_index other.bytes b
      each b out true is =
          let e : b ≡ a = grind (arith, nat_tests, is) in
          subst (λ n. slice_index board.bytes n ≡ slice_index other.bytes n) (sym e)
          (get_or_past board.bytes a 0 (subst (λ n. n ≤ a) (sym but.size) above) ∙ sym (get_or_past other.bytes a 0 above))
        where
          above : length other.bytes ≤ a
          above = go (cases_lt a (length other.bytes))
            where
              go : (a < length other.bytes) ⊎ (length other.bytes ≤ a) → length other.bytes ≤ a
              go (inl low) = let bad : Some (slice_index other.bytes a) ≡ None = sym (slice_get-get_or other.bytes a 0 low) ∙ none in cc
              go (inr past) = past
      each b out false is = but.bytes b (ap (λ v. v || there b) is ∙ out)

-- one stored byte
pub stored_one : (board new : BusState) (a byte : ℕ) → a < length board.bytes → new ≡ board_access.after_write board a byte
    → IsEqualExcept (λ b. a == b) new board
stored_one board new a byte low left =
    subst (λ b. IsEqualExcept (λ n. a == n) b board) (sym (left ∙ board_lawful.ram_write board a byte low)) (record {
      size = length-set board.bytes a byte;
      bytes = λ b out. let e : b ≢ a = grind (arith, nat_tests, out) in get_or-set_other board.bytes a b byte 0 e;
      devices = refl;
    })

-- Inputs

or_true : (v w : Bool) → w ≡ true → (v || w) ≡ true
or_true true w is = refl
or_true false w is = is

pub input_more : (input : Input) (rest : List Input) (board other : BusState) → IsEqualExcept (has_byte rest) board other
    → IsEqualExcept (has_byte (input ∷ rest)) board other
input_more input rest board other h =
    wider (has_byte rest) (has_byte (input ∷ rest)) board other (λ a is. or_true (is_byte a input) (has_byte rest a) is) h

pub input_first : (input : Input) (rest : List Input) (new mid old : BusState) → IsEqualExcept (has_byte rest) mid old → IsEqualExcept (λ a. is_byte a input) new mid
    → IsEqualExcept (has_byte (input ∷ rest)) new old
input_first input rest new mid old others first =
    joined (has_byte (input ∷ rest)) new mid old
    (wider (λ a. is_byte a input) (has_byte (input ∷ rest)) new mid (λ a is. ap (λ v. v || has_byte rest a) is) first)
    (input_more input rest mid old others)

-- Devices

empty : (xs : List ℕ) → length xs ≡ 0 → xs ≡ []
empty [] is = refl
empty (x ∷ xs) is = let bad : ⊥ = omega (arith, is) in absurd bad

not_false : (v : Bool) → not v ≡ false → v ≡ true
not_false true is = refl
not_false false bad = absurd (true≢false bad)

pub first_by : (devices : Devices) → not devices.switches.text ≡ false → devices.switches.mixed ≡ false → devices.switches.page2 ≡ false
    → devices.switches.hires ≡ false → length devices.keys ≡ 0 → keyboard_byte devices ≡ 0 → devices ≡ first_devices []
first_by devices no_graphics mixed page2 hires count key =
    let text : devices.switches.text ≡ true = not_false devices.switches.text no_graphics in
    let keys : devices.keys ≡ [] = empty devices.keys count in
    let last : devices.last_key ≡ 0 =
    sym (ap (λ (ks : List ℕ). elim ks [ [] ↦ devices.last_key | k ∷ _ ↦ 128 + k ]) keys) ∙ key in
    λ i. record {
      switches = record { text = text i; mixed = mixed i; page2 = page2 i; hires = hires i };
      keys = keys i;
      last_key = last i;
    }

-- Reading the keyboard changes nothing.
pub key_read : (board : BusState) → length board.bytes ≡ ram_end
    → (board_access.after_read board 0xC000 ≡ board) × (board_access.byte_at board 0xC000 ≡ keyboard_byte board.devices)
unfolding board_access
key_read board size =
    let above : nat_lt 0xC000 (length board.bytes) ≡ false = grind (arith, nat_tests, size) in (
      ap (λ b. let s : BusState = if b then board else record board { devices = after_access board.devices 0xC000 } in s) above,
      ap (λ b. if b then slice_index board.bytes 0xC000 else device_byte board.devices 0xC000) above,
    )

-- Marks that cover no address but those of a list

-- What is marked after clearing one mark was marked before, and is not that one.
unset : (marks : List Bool) (i a : ℕ) → IsTrue (is_set (slice_set marks i false) a) → IsTrue (is_set marks a) × ((i == a) ≡ false)
unset [] i a bad = absurd (true≢false (sym bad))
unset (x ∷ marks) zero zero bad = absurd (true≢false (sym bad))
unset (x ∷ marks) zero (suc a) is = let e : (0 == suc a) ≡ false = grind (arith, nat_tests) in (is, e)
unset (x ∷ marks) (suc i) zero is = let e : (suc i == 0) ≡ false = grind (arith, nat_tests) in (is, e)
unset (x ∷ marks) (suc i) (suc a) is =
    let rest : IsTrue (is_set marks a) × ((i == a) ≡ false) = unset marks i a is in
    let e : (suc i == suc a) ≡ (i == a) = grind (arith, nat_tests) in
    (rest.0, e ∙ rest.1)

abbrev pub Covers : List ℕ → List Bool → Type 0
Covers places marks = (a : ℕ) → IsTrue (is_set marks a) → IsTrue (is_among places a)

pub cleared : (place : ℕ) (rest : List ℕ) (marks : List Bool) → Covers (place ∷ rest) marks → Covers rest (slice_set marks place false)
cleared place rest marks covers a is =
    let before : IsTrue (is_set marks a) × ((place == a) ≡ false) = unset marks place a is in
    sym (ap (λ v. v || is_among rest a) before.1) ∙ covers a before.0

-- No address after the last mark is marked.
past : (marks : List Bool) (a : ℕ) → length marks ≤ a → is_set marks a ≡ false
past [] a le = refl
past (x ∷ marks) zero le = let bad : ⊥ = omega (arith, le) in absurd bad
past (x ∷ marks) (suc a) le = let following : length marks ≤ a = omega (arith, le) in past marks a following

pub following : (place : ℕ) (rest : List ℕ) (marks : List Bool) → length marks ≤ place → Covers (place ∷ rest) marks → Covers rest marks
following place rest marks le covers a is = go (place == a) refl
  where
    go : (here : Bool) → (place == a) ≡ here → IsTrue (is_among rest a)
    go true e =
        let same_place : place ≡ a = grind (arith, nat_tests, e) in
        absurd (true≢false (sym is ∙ past marks a (subst (λ n. length marks ≤ n) same_place le)))
    go false e = sym (ap (λ v. v || is_among rest a) e) ∙ covers a is

-- one address more
one_more_place : (places : List ℕ) (address a : ℕ) → is_among (places ++ address ∷ []) a ≡ ((address == a) || is_among places a)
one_more_place [] address a = refl
one_more_place (place ∷ places) address a =
    ap (λ v. (place == a) || v) (one_more_place places address a) ∙ swapped (place == a) (address == a) (is_among places a)
  where
    swapped : (x y z : Bool) → (x || (y || z)) ≡ (y || (x || z))
    swapped true true z = refl
    swapped true false z = refl
    swapped false y z = refl

pub covered : (places : List ℕ) (marks : List Bool) (address : ℕ) → address < length marks → Covers places marks
    → Covers (places ++ address ∷ []) (slice_set marks address true)
covered places marks address low covers a is =
    one_more_place places address a ∙ go (address == a) (sym (marked marks address a low) ∙ is)
  where
    go : (here : Bool) → (here || is_set marks a) ≡ true → (here || is_among places a) ≡ true
    go true _ = refl
    go false set = covers a set
