-- What is known after a call of a service: the registers and bytes that it keeps, and that window and cursor are on the
-- screen.
use Rattle.std.specs.Prelude.{◌≡◌, ◌<◌, ◌≤◌, ℕ, ◌+◌, ◌*◌, ◌/◌, ◌%◌, ◌==◌, ◌&&◌, not, nat_le, nat_lt, Bool, true, false, List, [], ◌∷◌, ◌++◌, Some, None, if◌then◌else◌, refl}
use Rattle.std.specs.List.{list_any, list_all}
use Rattle.std.proofs.Common.{sym, ap, ap₂, ◌∙◌, subst, arith}
use Rattle.std.proofs.lemmas.Bool.Decides.{nat_tests}
use Rattle.a2_page.specs.Window.{IsWindow}
use Rattle.a2_bus.specs.Devices.{Devices}
use Rattle.a2_bus.specs.Memory.{Memory, ram_byte, with_ram}
use Rattle.a2_services.specs.declared.rows.Service.{Service}
use Rattle.a2_services.specs.declared.rows.Service.TheVariants.{Cout, Cout1, Crout, Home, Prbyte, Prhex, Setinv, Setnorm, Vtab, Clreol, Wait}
use Rattle.a2_services.specs.Fits.{CursorFits}
use Rattle.a2_services.specs.Put.{window_of, after_put, with_base_address}
use Rattle.a2_services.specs.Rows.{service_row}
use Rattle.a2_services.specs.Services.{service_at, window_fits, cursor_fits, reach, output_reach, base_reach, page_reach, cleared_to_end, back, output, with_memory, with_a, with_x, effect, served, cycles_of, digit_byte}
use Rattle.a2_services.specs.World.{World}
use Rattle.a2_services.proofs.Counting.{base_devices, cleared_devices}
use Rattle.a2_services.proofs.Effects.{served-kept}
use Rattle.a2_services.proofs.Fitting.{put_fits}
use Rattle.a2_services.proofs.Lines.{put_devices, ram_devices}
use Rattle.a2_services.proofs.Returning.{returned_is, window_tells, fits_tells}
use Rattle.a2_machine.specs.declared.causes.Cause.TheVariants.{CodeWrite, Window}
use Rattle.a2_machine.specs.Meaning.{Code, return_address, service_cause}
use Rattle.a2_machine.proofs.Walks.{walked}
use Rattle.a2_theorems.specs.Routines.{word}
use Rattle.a2_theorems.proofs.Stepping.{serve}
use Rattle.a2_footprint.proofs.Agreeing.{written_back}
use Rattle.a2_promise_rules.proofs.Leaving.{Leaves}
use Rattle.a2_promise_rules.proofs.Meeting.{Whole, IsWhole, enter, home, Reaches}
use Rattle.a2_promise_rules.proofs.Printing.{printed_whole, to_end_whole, home_whole, home_fits, base_whole, base_fits}
use Rattle.a2_promise_rules.proofs.Proving.{onto, stands, weaken, whole_with}
use Rattle.a2_promise_rules.proofs.Ranges.{is_in, is_beside, out_of_ranges}

-- a world after the call that left a return address on the stack
pub record AfterCall (s : ℕ) (w u : World) : Type 0 where
  pub pc_is : u.registers.pc ≡ home s w
  pub s_is : u.registers.s ≡ s + 2
  pub d_is : u.registers.flags.d ≡ false

-- If a service is called with this S in any whole world in which `Before` holds, the steps lead to the place after the
-- call, and `After` holds there.
abbrev pub Serves : Code → (to s : ℕ) → (Before : World → Type 0) → (After : World → World → Type 0) → Type 0
Serves code to s Before After =
    (w : World) → IsWhole w → Before w → Reaches code (enter to s w) (λ u. AfterCall s w u × After w u)

-- a call of a service, and what follows
pub call_service : (code : Code) (to s following : ℕ) (Before : World → Type 0) (After : World → World → Type 0)
    (Q : World → Type 0)
    → Serves code to s Before After → (v : World) → IsWhole v → Before v → home s v ≡ following
    → ((u : World) → After v u → Reaches code (enter following (s + 2) u) Q) → Reaches code (enter to s v) Q
call_service code to s following Before After Q serves v whole before home_is later = go (serves v whole before)
  where
    at_last : (u : World) → AfterCall s v u → After v u → Reaches code u Q
    at_last u is after = stands code following (s + 2) u Q (is.pc_is ∙ home_is) is.s_is is.d_is (later u after)

    go : Reaches code (enter to s v) (λ u. AfterCall s v u × After v u) → Reaches code (enter to s v) Q
    go (n, (u, walk, (is, after))) = onto code (enter to s v) u n Q walk (at_last u is after)

-- the same, if the world after the service is written in another form, from which more can be computed
pub call_as : (code : Code) (to s following : ℕ) (Before : World → Type 0) (After : World → World → Type 0) (Q : World → Type 0)
    → Serves code to s Before After → (v : World) → IsWhole v → Before v → home s v ≡ following
    → (written : World → World) → ((u : World) → After v u → written u ≡ u)
    → ((u : World) → After v u → Reaches code (enter following (s + 2) (written u)) Q) → Reaches code (enter to s v) Q
call_as code to s following Before After Q serves v whole before home_is written same later =
    call_service code to s following Before After Q serves v whole before home_is
    (λ u after. subst (λ x. Reaches code (enter following (s + 2) x) Q) (same u after) (later u after))

-- Window and cursor

-- the window is on the screen
pub record HasWindow (w : World) : Type 0 where
  pub r1 : 1 ≤ ram_byte w.memory 0x21
  pub r2 : ram_byte w.memory 0x20 + ram_byte w.memory 0x21 ≤ 40
  pub r3 : ram_byte w.memory 0x22 < ram_byte w.memory 0x23
  pub r4 : ram_byte w.memory 0x23 ≤ 24

-- the cursor is on the screen too
pub record HasCursor (w : World) : Type 0 where
  pub r1 : 1 ≤ ram_byte w.memory 0x21
  pub r2 : ram_byte w.memory 0x20 + ram_byte w.memory 0x21 ≤ 40
  pub r3 : ram_byte w.memory 0x22 < ram_byte w.memory 0x23
  pub r4 : ram_byte w.memory 0x23 ≤ 24
  pub r5 : ram_byte w.memory 0x25 < 24
  pub r6 : ram_byte w.memory 0x20 + ram_byte w.memory 0x24 < 40

-- the output hook also leads to COUT1
pub record HasHook (w : World) : Type 0 where
  pub r1 : 1 ≤ ram_byte w.memory 0x21
  pub r2 : ram_byte w.memory 0x20 + ram_byte w.memory 0x21 ≤ 40
  pub r3 : ram_byte w.memory 0x22 < ram_byte w.memory 0x23
  pub r4 : ram_byte w.memory 0x23 ≤ 24
  pub r5 : ram_byte w.memory 0x25 < 24
  pub r6 : ram_byte w.memory 0x20 + ram_byte w.memory 0x24 < 40
  pub r7 : word w.memory 0x36 ≡ 0xFDF0

-- no condition
pub record Anywhere (w : World) : Type 0 where
  pub none : Unit {0}

window_test : (w : World) → HasWindow w → window_fits w.memory ≡ true
window_test w h = λ i. one 1 _ h.r1 i && one _ 40 h.r2 i && less _ _ h.r3 i && one _ 24 h.r4 i
  where
    one : (m n : ℕ) → m ≤ n → nat_le m n ≡ true
    one m n h = grind (arith, nat_tests, h)

    less : (m n : ℕ) → m < n → nat_lt m n ≡ true
    less m n h = grind (arith, nat_tests, h)

window_of_cursor : (w : World) → HasCursor w → HasWindow w
window_of_cursor w h = record { r1 = h.r1; r2 = h.r2; r3 = h.r3; r4 = h.r4 }

pub cursor_test : (w : World) → HasCursor w → window_fits w.memory && cursor_fits w.memory ≡ true
cursor_test w h =
    ap₂ (λ a b. a && b) (window_test w (window_of_cursor w h)) (ap₂ (λ a b. a && b) (less _ _ h.r5) (less _ _ h.r6))
  where
    less : (m n : ℕ) → m < n → nat_lt m n ≡ true
    less m n h = grind (arith, nat_tests, h)

-- the bytes that output changes: CH and CV, BASL and BASH, and page 1
abbrev pub print_ranges : List (ℕ × ℕ)
print_ranges = (0x24, 0x25) ∷ (0x28, 0x29) ∷ (0x400, 0x7FF) ∷ []

not_reached : (b : ℕ) → is_in print_ranges b ≡ false → output_reach b ≡ false
not_reached b h = grind (arith, nat_tests, h)

-- After a service that prints

pub record Printed (w u : World) : Type 0 where
  pub e1 : ram_byte u.memory 0x25 < 24
  pub e2 : ram_byte u.memory 0x20 + ram_byte u.memory 0x24 < 40
  pub keep_a : u.registers.a ≡ w.registers.a
  pub keep_x : u.registers.x ≡ w.registers.x
  pub keep_y : u.registers.y ≡ w.registers.y
  pub rest : Leaves w.memory (is_in print_ranges) [] u
  pub bytes : IsWhole u

-- a RETURN is left in A
pub record Returned (w u : World) : Type 0 where
  pub e1 : ram_byte u.memory 0x25 < 24
  pub e2 : ram_byte u.memory 0x20 + ram_byte u.memory 0x24 < 40
  pub e3 : u.registers.a ≡ 0x8D
  pub keep_x : u.registers.x ≡ w.registers.x
  pub keep_y : u.registers.y ≡ w.registers.y
  pub rest : Leaves w.memory (is_in print_ranges) [] u
  pub bytes : IsWhole u

-- After other services

pub record Stayed (ranges : List (ℕ × ℕ)) (w u : World) : Type 0 where
  pub keep_a : u.registers.a ≡ w.registers.a
  pub keep_x : u.registers.x ≡ w.registers.x
  pub keep_y : u.registers.y ≡ w.registers.y
  pub rest : Leaves w.memory (is_in ranges) [] u
  pub bytes : IsWhole u

abbrev pub mask_ranges : List (ℕ × ℕ)
mask_ranges = (0x32, 0x32) ∷ []

pub record Masked (byte : ℕ) (w u : World) : Type 0 where
  pub e1 : ram_byte u.memory 0x32 ≡ byte
  pub keep_a : u.registers.a ≡ w.registers.a
  pub keep_x : u.registers.x ≡ w.registers.x
  pub keep_y : u.registers.y ≡ w.registers.y
  pub rest : Leaves w.memory (is_in mask_ranges) [] u
  pub bytes : IsWhole u

pub record Waited (w u : World) : Type 0 where
  pub e1 : u.registers.a ≡ 0
  pub keep_x : u.registers.x ≡ w.registers.x
  pub keep_y : u.registers.y ≡ w.registers.y
  pub rest : Leaves w.memory (is_in []) [] u
  pub bytes : IsWhole u

-- The state that a service leaves if it stores at most in these ranges, and takes these keys

pub record Left (ranges : List (ℕ × ℕ)) (taken : List ℕ) (a x : ℕ) (n : Memory) (w u : World) : Type 0 where
  pub a_is : u.registers.a ≡ a
  pub x_is : u.registers.x ≡ x
  pub keep_y : u.registers.y ≡ w.registers.y
  pub memory : u.memory ≡ n
  pub rest : Leaves w.memory (is_in ranges) taken u
  pub bytes : IsWhole u

module _ (code : Code) (at s : ℕ) (room : s < 254) (service : Service) (w : World) (whole : IsWhole w)
    (here : service_at at ≡ Some service) (away : (at == return_address) ≡ false)
    (free : service_cause code.protected service (enter at s w) ≡ None) (ranges : List (ℕ × ℕ))
    (reaches : (b : ℕ) → is_in ranges b ≡ false → reach service b ≡ false)
    (beside : (b : ℕ) → 0x100 ≤ b → b ≤ 0x1FF → is_in ranges b ≡ false) (taken : List ℕ) (n : Memory) (a x : ℕ)
    (is : effect service (enter at s w) ≡ back (with_memory n (with_x x (with_a a (enter at s w))))) (n_whole : Whole n)
    (small : a < 256) (x_small : x < 256) (keys : w.memory.devices.keys ≡ taken ++ n.devices.keys) where
  -- the cycles after it
  abbrev there : ℕ
  there = w.cycles + cycles_of (service_row service).takes (enter at s w).registers

  after : World
  after = record {
    registers = record (enter at s w).registers { a = a; x = x; s = s + 2; pc = home s w };
    memory = n;
    cycles = there;
  }

  -- after a return that pulls its address in the same way
  pulled : ℕ → ℕ → ℕ → World
  pulled to low high = record {
    registers = record (enter at s w).registers { a = a; x = x; s = to; pc = (low + 256 * high + 1) % 65536 };
    memory = n;
    cycles = there;
  }

  served_there : served service (enter at s w)
      ≡ pulled (((s + 1) % 256 + 1) % 256) (ram_byte n (256 + (s + 1) % 256)) (ram_byte n (256 + ((s + 1) % 256 + 1) % 256))
  unfolding served pulled
  served_there =
      ap (λ (v : World). let y : World = record v { cycles = there } in y)
      (is ∙ returned_is (with_memory n (with_x x (with_a a (enter at s w)))))

  made : (served service (enter at s w)).memory ≡ n
  unfolding pulled
  made = ap (λ (v : World). v.memory) served_there

  kept : (b : ℕ) → is_in ranges b ≡ false → ram_byte n b ≡ ram_byte w.memory b
  kept b out = ap (λ q. ram_byte q b) (sym made) ∙ served-kept service (enter at s w) b (reaches b out)

  low : ram_byte n (256 + (s + 1) % 256) ≡ ram_byte w.memory (0x101 + s)
  low =
      let e : 256 + (s + 1) % 256 ≡ 0x101 + s = omega (arith, room) in
      ap (λ b. ram_byte n b) e ∙ kept (0x101 + s) (beside (0x101 + s) (omega arith) (omega (arith, room)))

  high : ram_byte n (256 + ((s + 1) % 256 + 1) % 256) ≡ ram_byte w.memory (0x102 + s)
  high =
      let e : 256 + ((s + 1) % 256 + 1) % 256 ≡ 0x102 + s = omega (arith, room) in
      ap (λ b. ram_byte n b) e ∙ kept (0x102 + s) (beside (0x102 + s) (omega arith) (omega (arith, room)))

  comes : walked code (enter at s w) 1 ≡ Some after
  unfolding after pulled
  comes =
      let to : ((s + 1) % 256 + 1) % 256 ≡ s + 2 = omega (arith, room) in
      serve code (enter at s w) service here away free ∙ ap Some (served_there ∙ (λ i. pulled (to i) (low i) (high i)))

  following : AfterCall s w after
  unfolding after
  following = record { pc_is = refl; s_is = refl; d_is = refl }

  left : Left ranges taken a x n w after
  unfolding after
  left = record {
    a_is = refl;
    x_is = refl;
    keep_y = refl;
    memory = refl;
    rest = record { bytes = kept; keys = keys };
    bytes = record { a = small; x = x_small; y = whole.y; ram = n_whole };
  }

  pub leave : Reaches code (enter at s w) (λ u. AfterCall s w u × Left ranges taken a x n w u)
  leave = (1, (after, comes, (following, left)))

pub in_stack : (ranges : List (ℕ × ℕ)) → list_all (is_beside 0x100 0x1FF) ranges ≡ true → (b : ℕ) → 0x100 ≤ b → b ≤ 0x1FF
    → is_in ranges b ≡ false
in_stack ranges all b from to = out_of_ranges ranges 0x100 0x1FF b all from to

-- equal devices have equal keys
same_keys : {d e : Devices} → d ≡ e → e.keys ≡ d.keys
same_keys same = ap (λ (x : Devices). x.keys) (sym same)

module _ (code : Code) (at s : ℕ) (room : s < 254) (service : Service) (w : World) (whole : IsWhole w)
    (here : service_at at ≡ Some service) (away : (at == return_address) ≡ false)
    (free : service_cause code.protected service (enter at s w) ≡ None) where
  -- a service that prints
  print : (m : Memory) → effect service (enter at s w) ≡ back (output m (enter at s w))
      → ((b : ℕ) → is_in print_ranges b ≡ false → reach service b ≡ false) → Whole m → CursorFits m
      → m.devices ≡ w.memory.devices → Reaches code (enter at s w) (λ u. AfterCall s w u × Printed w u)
  print m is reaches m_whole m_fits devices =
      weaken code (enter at s w) _ _
      (leave code at s room service w whole here away free print_ranges reaches (in_stack print_ranges refl) []
      (with_base_address m) w.registers.a w.registers.x is (base_whole m m_whole m_fits) whole.a whole.x
      (same_keys (base_devices m ∙ devices)))
      (λ u h. (h.0, printed u h.1))
    where
      fits_there : CursorFits (with_base_address m)
      fits_there = base_fits m m_whole m_fits

      printed : (u : World) → Left print_ranges [] w.registers.a w.registers.x (with_base_address m) w u → Printed w u
      printed u h = record {
        e1 = subst (λ n. ram_byte n 0x25 < 24) (sym h.memory) fits_there.line.row;
        e2 = subst (λ n. ram_byte n 0x20 + ram_byte n 0x24 < 40) (sym h.memory) fits_there.column;
        keep_a = h.a_is;
        keep_x = h.x_is;
        keep_y = h.keep_y;
        rest = h.rest;
        bytes = h.bytes;
      }

  -- a service that keeps the registers
  stay : (ranges : List (ℕ × ℕ)) → ((b : ℕ) → is_in ranges b ≡ false → reach service b ≡ false)
      → list_all (is_beside 0x100 0x1FF) ranges ≡ true → (n : Memory)
      → effect service (enter at s w) ≡ back (with_memory n (enter at s w)) → Whole n → n.devices ≡ w.memory.devices
      → Reaches code (enter at s w) (λ u. AfterCall s w u × Stayed ranges w u)
  stay ranges reaches all n is n_whole devices =
      weaken code (enter at s w) _ _
      (leave code at s room service w whole here away free ranges reaches (in_stack ranges all) [] n w.registers.a w.registers.x is
      n_whole whole.a whole.x (same_keys devices))
      (λ u h. (h.0, record { keep_a = h.1.a_is; keep_x = h.1.x_is; keep_y = h.1.keep_y; rest = h.1.rest; bytes = h.1.bytes }))

  -- a service that sets the mask of characters
  mask : (byte : ℕ) → byte < 256 → ((b : ℕ) → is_in mask_ranges b ≡ false → reach service b ≡ false)
      → effect service (enter at s w) ≡ back (with_memory (with_ram w.memory 0x32 byte) (enter at s w))
      → Reaches code (enter at s w) (λ u. AfterCall s w u × Masked byte w u)
  mask byte small reaches is =
      weaken code (enter at s w) _ _
      (leave code at s room service w whole here away free mask_ranges reaches (in_stack mask_ranges refl) []
      (with_ram w.memory 0x32 byte) w.registers.a w.registers.x is (whole_with w.memory 0x32 byte whole.ram small) whole.a whole.x
      (same_keys (ram_devices w.memory 0x32 byte)))
      (λ u h. (h.0, masked u h.1))
    where
      masked : (u : World) → Left mask_ranges [] w.registers.a w.registers.x (with_ram w.memory 0x32 byte) w u → Masked byte w u
      masked u h = record {
        e1 = ap (λ n. ram_byte n 0x32) h.memory ∙ written_back w.memory 0x32 byte whole.ram.pages;
        keep_a = h.a_is;
        keep_x = h.x_is;
        keep_y = h.keep_y;
        rest = h.rest;
        bytes = h.bytes;
      }

-- The services

abbrev base_ranges : List (ℕ × ℕ)
base_ranges = (0x28, 0x29) ∷ []

abbrev page_ranges : List (ℕ × ℕ)
page_ranges = (0x400, 0x7FF) ∷ []

no_base : (b : ℕ) → is_in base_ranges b ≡ false → base_reach b ≡ false
no_base b h = grind (arith, nat_tests, h)

no_page : (b : ℕ) → is_in page_ranges b ≡ false → page_reach b ≡ false
no_page b h = grind (arith, nat_tests, h)

no_mask : (b : ℕ) → is_in mask_ranges b ≡ false → (b == 0x32) ≡ false
no_mask b h = grind (arith, nat_tests, h)

digit_small : (digit : ℕ) → digit < 16 → digit_byte digit < 256
digit_small digit small = by (nat_lt digit 10)
  where
    by : (v : Bool) → (if v then 0xB0 + digit else 0xB7 + digit) < 256
    by true = omega (arith, small)
    by false = omega (arith, small)

-- a world after a hook: some cycles later, and with this value in A
abbrev pub later : (a : ℕ) → World → World
later a w = record w { registers = record w.registers { a = a }; cycles = w.cycles + 5 }

module _ (a : ℕ) (w : World) where
  pub later_whole : IsWhole w → a < 256 → IsWhole (later a w)
  later_whole whole small = record { a = small; x = whole.x; y = whole.y; ram = whole.ram }

  later_cursor : HasHook w → HasCursor (later a w)
  later_cursor h = record { r1 = h.r1; r2 = h.r2; r3 = h.r3; r4 = h.r4; r5 = h.r5; r6 = h.r6 }

  pub later_behind : (s : ℕ) (u : World) → AfterCall s (later a w) u → AfterCall s w u
  later_behind s u h = record { pc_is = h.pc_is; s_is = h.s_is; d_is = h.d_is }

printed_later : (w u : World) → Printed (later w.registers.a w) u → Printed w u
printed_later w u h =
    let rest : Leaves w.memory (is_in print_ranges) [] u = record { bytes = h.rest.bytes; keys = h.rest.keys } in
    record { e1 = h.e1; e2 = h.e2; keep_a = h.keep_a; keep_x = h.keep_x; keep_y = h.keep_y; rest = rest; bytes = h.bytes }

returned_later : (w u : World) → Printed (later 0x8D w) u → Returned w u
returned_later w u h =
    let rest : Leaves w.memory (is_in print_ranges) [] u = record { bytes = h.rest.bytes; keys = h.rest.keys } in
    record { e1 = h.e1; e2 = h.e2; e3 = h.keep_a; keep_x = h.keep_x; keep_y = h.keep_y; rest = rest; bytes = h.bytes }

module _ (code : Code) (s : ℕ) (room : s < 254) where
  pub home_serves : list_any (reach Home) code.protected ≡ false → Serves code 0xFC58 s HasWindow Printed
  unfolding service_at effect reach
  home_serves away w whole before =
      print code 0xFC58 s room Home w whole refl refl free _ refl not_reached
      (home_whole w.memory whole.ram window) (home_fits w.memory _ window)
      (ram_devices _ 0x25 _ ∙ ram_devices _ 0x24 _)
    where
      window : IsWindow (window_of w.memory)
      window = window_tells w.memory (window_test w before)

      free : service_cause code.protected Home (enter 0xFC58 s w) ≡ None
      free = λ i. if away i then Some CodeWrite else if not (window_test w before i) then Some Window else None

  module _ (away : list_any (reach Prbyte) code.protected ≡ false) where
    pub prbyte_serves : Serves code 0xFDDA s HasCursor Printed
    unfolding service_at effect reach
    prbyte_serves w whole before =
        print code 0xFDDA s room Prbyte w whole refl refl free _ refl not_reached
        (printed_whole (digit_byte (w.registers.a % 16)) _ first (put_fits high w.memory fits_there)
        (digit_small (w.registers.a % 16) (omega arith)))
        (put_fits (digit_byte (w.registers.a % 16)) _ (put_fits high w.memory fits_there))
        (put_devices (digit_byte (w.registers.a % 16)) _ ∙ put_devices high w.memory)
      where
        fits_there : CursorFits w.memory
        fits_there = fits_tells w.memory (cursor_test w before)

        high : ℕ
        high = digit_byte (w.registers.a / 16)

        first : Whole (after_put high w.memory)
        first = printed_whole high w.memory whole.ram fits_there (digit_small (w.registers.a / 16) (omega (arith, whole.a)))

        free : service_cause code.protected Prbyte (enter 0xFDDA s w) ≡ None
        free = λ i. if away i then Some CodeWrite else if not (cursor_test w before i) then Some Window else None

  module _ (away : list_any (reach Prhex) code.protected ≡ false) where
    pub prhex_serves : Serves code 0xFDE3 s HasCursor Printed
    unfolding service_at effect reach
    prhex_serves w whole before =
        let digit = digit_byte (w.registers.a % 16) in
        print code 0xFDE3 s room Prhex w whole refl refl free _ refl not_reached
        (printed_whole digit w.memory whole.ram fits_there (digit_small (w.registers.a % 16) (omega arith)))
        (put_fits digit w.memory fits_there) (put_devices digit w.memory)
      where
        fits_there : CursorFits w.memory
        fits_there = fits_tells w.memory (cursor_test w before)

        free : service_cause code.protected Prhex (enter 0xFDE3 s w) ≡ None
        free = λ i. if away i then Some CodeWrite else if not (cursor_test w before i) then Some Window else None

  module _ (away : list_any (reach Vtab) code.protected ≡ false) where
    pub vtab_serves : Serves code 0xFC22 s HasCursor (Stayed base_ranges)
    unfolding service_at effect reach
    vtab_serves w whole before =
        stay code 0xFC22 s room Vtab w whole refl refl free base_ranges no_base refl (with_base_address w.memory) refl
        (base_whole w.memory whole.ram (fits_tells w.memory (cursor_test w before))) (base_devices w.memory)
      where
        free : service_cause code.protected Vtab (enter 0xFC22 s w) ≡ None
        free = λ i. if away i then Some CodeWrite else if not (cursor_test w before i) then Some Window else None

  module _ (away : list_any (reach Clreol) code.protected ≡ false) where
    pub clreol_serves : Serves code 0xFC9C s HasCursor (Stayed page_ranges)
    unfolding service_at effect reach
    clreol_serves w whole before =
        stay code 0xFC9C s room Clreol w whole refl refl free page_ranges no_page refl (cleared_to_end w.memory) refl
        (to_end_whole w.memory whole.ram (fits_tells w.memory (cursor_test w before))) (cleared_devices w.memory)
      where
        free : service_cause code.protected Clreol (enter 0xFC9C s w) ≡ None
        free = λ i. if away i then Some CodeWrite else if not (cursor_test w before i) then Some Window else None

  module _ (away : list_any (reach Setinv) code.protected ≡ false) where
    pub setinv_serves : Serves code 0xFE80 s Anywhere (Masked 0x3F)
    unfolding service_at effect reach
    setinv_serves w whole before =
        mask code 0xFE80 s room Setinv w whole refl refl (λ i. if away i then Some CodeWrite else None) 0x3F (omega arith) no_mask refl

  module _ (away : list_any (reach Setnorm) code.protected ≡ false) where
    pub setnorm_serves : Serves code 0xFE84 s Anywhere (Masked 0xFF)
    unfolding service_at effect reach
    setnorm_serves w whole before =
        mask code 0xFE84 s room Setnorm w whole refl refl (λ i. if away i then Some CodeWrite else None) 0xFF (omega arith) no_mask
        refl

  module _ (away : list_any (reach Wait) code.protected ≡ false) where
    pub wait_serves : Serves code 0xFCA8 s Anywhere Waited
    unfolding service_at effect reach
    wait_serves w whole before =
        weaken code (enter 0xFCA8 s w) _ _
        (leave code 0xFCA8 s room Wait w whole refl refl (λ i. if away i then Some CodeWrite else None) [] (λ b out. refl)
        (in_stack [] refl) [] w.memory 0 w.registers.x refl whole.ram (omega arith) whole.x refl)
        (λ u h. (h.0, record { e1 = h.1.a_is; keep_x = h.1.x_is; keep_y = h.1.keep_y; rest = h.1.rest; bytes = h.1.bytes }))

  module _ (away : list_any (reach Cout1) code.protected ≡ false) where
    pub cout1_serves : Serves code 0xFDF0 s HasCursor Printed
    unfolding service_at effect reach
    cout1_serves w whole before =
        print code 0xFDF0 s room Cout1 w whole refl refl free _ refl not_reached
        (printed_whole w.registers.a w.memory whole.ram fits_there whole.a) (put_fits w.registers.a w.memory fits_there)
        (put_devices w.registers.a w.memory)
      where
        fits_there : CursorFits w.memory
        fits_there = fits_tells w.memory (cursor_test w before)

        free : service_cause code.protected Cout1 (enter 0xFDF0 s w) ≡ None
        free = λ i. if away i then Some CodeWrite else if not (cursor_test w before i) then Some Window else None

    module _ (off : list_any (reach Cout) code.protected ≡ false) where
      pub cout_serves : Serves code 0xFDED s HasHook Printed
      unfolding service_at effect served
      cout_serves w whole before =
          let a = w.registers.a in
          onto code (enter 0xFDED s w) (enter 0xFDF0 s (later a w)) 1 _ walk
          (weaken code (enter 0xFDF0 s (later a w)) _ _
          (cout1_serves (later a w) (later_whole a w whole whole.a) (later_cursor a w before))
          (λ u h. (later_behind a w s u h.0, printed_later w u h.1)))
        where
          free : service_cause code.protected Cout (enter 0xFDED s w) ≡ None
          free = λ i. if off i then Some CodeWrite else None

          walk : walked code (enter 0xFDED s w) 1 ≡ Some (enter 0xFDF0 s (later w.registers.a w))
          walk = serve code (enter 0xFDED s w) Cout refl refl free ∙ (λ i. Some (enter (before.r7 i) s (later w.registers.a w)))

    module _ (off : list_any (reach Crout) code.protected ≡ false) where
      pub crout_serves : Serves code 0xFD8E s HasHook Returned
      unfolding service_at effect served
      crout_serves w whole before =
          onto code (enter 0xFD8E s w) (enter 0xFDF0 s (later 0x8D w)) 1 _ walk
          (weaken code (enter 0xFDF0 s (later 0x8D w)) _ _
          (cout1_serves (later 0x8D w) (later_whole 0x8D w whole (omega arith)) (later_cursor 0x8D w before))
          (λ u h. (later_behind 0x8D w s u h.0, returned_later w u h.1)))
        where
          free : service_cause code.protected Crout (enter 0xFD8E s w) ≡ None
          free = λ i. if off i then Some CodeWrite else None

          walk : walked code (enter 0xFD8E s w) 1 ≡ Some (enter 0xFDF0 s (later 0x8D w))
          walk = serve code (enter 0xFD8E s w) Crout refl refl free ∙ (λ i. Some (enter (before.r7 i) s (later 0x8D w)))
