-- Services that take keys: KEYIN, RDKEY if its hook leads to KEYIN, and GETLN for a line without editing keys.
use Rattle.std.specs.Prelude.{◌≡◌, ℕ, ◌+◌, ◌<◌, ◌≤◌, ◌==◌, ◌||◌, not, Bool, true, false, List, [], ◌∷◌, ◌++◌, length, Some, None, if◌then◌else◌, refl}
use Rattle.std.specs.List.{list_all, list_any}
use Rattle.std.proofs.Common.{sym, ap, ◌∙◌, subst, arith, append_assoc}
use Rattle.std.proofs.lemmas.Bool.Decides.{nat_tests}
use Rattle.a2_bus.specs.Devices.{Devices}
use Rattle.a2_bus.specs.Memory.{Memory, ram_byte}
use Rattle.a2_services.specs.declared.rows.Service.TheVariants.{Getln, Keyin, Rdkey}
use Rattle.a2_services.specs.Fits.{CursorFits}
use Rattle.a2_services.specs.Put.{prompt_character, after_put, with_base_address}
use Rattle.a2_services.specs.Reading.{reading}
use Rattle.a2_services.specs.Services.{Reading, back, effect, has_return, line_read, output, reach, served, service_at, with_a, with_key_taken, with_memory, with_x}
use Rattle.a2_services.specs.World.{World}
use Rattle.a2_services.proofs.Counting.{base_devices}
use Rattle.a2_services.proofs.Fitting.{put_fits}
use Rattle.a2_services.proofs.Lines.{put_devices}
use Rattle.a2_services.proofs.Reaching.{base-kept}
use Rattle.a2_services.proofs.Returning.{fits_tells}
use Rattle.a2_machine.specs.declared.causes.Cause.TheVariants.{CodeWrite, Keys, Window}
use Rattle.a2_machine.specs.Meaning.{Code, service_cause}
use Rattle.a2_machine.proofs.Walks.{walked}
use Rattle.a2_theorems.specs.Routines.{word}
use Rattle.a2_theorems.proofs.Keeping.{after_stores}
use Rattle.a2_theorems.proofs.Stepping.{serve}
use Rattle.a2_promise_rules.proofs.Calling.{AfterCall, HasCursor, Left, Serves, cursor_test, in_stack, later, later_behind, later_whole, leave}
use Rattle.a2_promise_rules.proofs.Leaving.{Leaves, Waits}
use Rattle.a2_promise_rules.proofs.Meeting.{IsWhole, Reaches, enter}
use Rattle.a2_promise_rules.proofs.Printing.{base_fits, base_whole, printed_whole}
use Rattle.a2_promise_rules.proofs.Proving.{onto, weaken}
use Rattle.a2_promise_rules.proofs.Ranges.{is_in}
use Rattle.a2_promise_rules.proofs.Lines.{IsRead, is_plain, line_is_read, line_put_back, line_stores, outside, taken_keys, taken_whole}

-- A key

-- it waits first
pub record HasKey (key : ℕ) (w : World) : Type 0 where
  pub waits : Waits (key ∷ []) w

-- the input hook also leads to KEYIN
pub record HasKeyHook (key : ℕ) (w : World) : Type 0 where
  pub r1 : word w.memory 0x38 ≡ 0xFD1B
  pub waits : Waits (key ∷ []) w

-- it was taken, and is in A
pub record KeyTaken (key : ℕ) (w u : World) : Type 0 where
  pub e1 : u.registers.a ≡ 0x80 + key
  pub keep_x : u.registers.x ≡ w.registers.x
  pub keep_y : u.registers.y ≡ w.registers.y
  pub rest : Leaves w.memory (is_in []) (key ∷ []) u
  pub bytes : IsWhole u

module _ (code : Code) (s : ℕ) (room : s < 254) (key : ℕ) (low : key < 128) (away : list_any (reach Keyin) code.protected ≡ false) where
  pub keyin_serves : Serves code 0xFD1B s (HasKey key) (KeyTaken key)
  unfolding service_at effect reach
  keyin_serves w whole before =
      weaken code (enter 0xFD1B s w) _ _
      (leave code 0xFD1B s room Keyin w whole refl refl free [] (λ b out. refl) (in_stack [] refl) (key ∷ [])
      (with_key_taken w.memory) (0x80 + key) w.registers.x is (taken_whole w.memory whole.ram) (omega (arith, low)) whole.x
      (waits ∙ ap (λ l. key ∷ l) (sym (taken_keys w.memory key before.waits.0 waits))))
      (λ u h. (h.0, record { e1 = h.1.a_is; keep_x = h.1.x_is; keep_y = h.1.keep_y; rest = h.1.rest; bytes = h.1.bytes }))
    where
      waits : w.memory.devices.keys ≡ key ∷ before.waits.0
      waits = before.waits.1

      free : service_cause code.protected Keyin (enter 0xFD1B s w) ≡ None
      free = λ i.
          if away i then Some CodeWrite
          else if elim (waits i) [ [] ↦ true | k ∷ more ↦ false ] then Some Keys
          else None

      is : effect Keyin (enter 0xFD1B s w)
          ≡ back (with_memory (with_key_taken w.memory) (with_x w.registers.x (with_a (0x80 + key) (enter 0xFD1B s w))))
      is = λ i. elim (waits i) [
        | [] ↦ enter 0xFD1B s w
        | k ∷ more ↦ back (with_a (0x80 + k) (with_memory (with_key_taken w.memory) (enter 0xFD1B s w)))
      ]

  module _ (off : list_any (reach Rdkey) code.protected ≡ false) where
    pub rdkey_serves : Serves code 0xFD0C s (HasKeyHook key) (KeyTaken key)
    unfolding service_at effect served
    rdkey_serves w whole before =
        let a = w.registers.a in
        onto code (enter 0xFD0C s w) (enter 0xFD1B s (later a w)) 1 _ walk
        (weaken code (enter 0xFD1B s (later a w)) _ _
        (keyin_serves (later a w) (later_whole a w whole whole.a) (record { waits = before.waits }))
        (λ u h. (later_behind a w s u h.0, taken_later u h.1)))
      where
        free : service_cause code.protected Rdkey (enter 0xFD0C s w) ≡ None
        free = λ i. if off i then Some CodeWrite else None

        walk : walked code (enter 0xFD0C s w) 1 ≡ Some (enter 0xFD1B s (later w.registers.a w))
        walk = serve code (enter 0xFD0C s w) Rdkey refl refl free ∙ (λ i. Some (enter (before.r1 i) s (later w.registers.a w)))

        taken_later : (u : World) → KeyTaken key (later w.registers.a w) u → KeyTaken key w u
        taken_later u h =
            let rest : Leaves w.memory (is_in []) (key ∷ []) u = record { bytes = h.rest.bytes; keys = h.rest.keys } in
            record { e1 = h.e1; keep_x = h.keep_x; keep_y = h.keep_y; rest = rest; bytes = h.bytes }

-- GETLN

-- the keys of a line and RETURN wait first; window and cursor are on the screen
pub record HasLine (line : List ℕ) (w : World) : Type 0 where
  pub r1 : 1 ≤ ram_byte w.memory 0x21
  pub r2 : ram_byte w.memory 0x20 + ram_byte w.memory 0x21 ≤ 40
  pub r3 : ram_byte w.memory 0x22 < ram_byte w.memory 0x23
  pub r4 : ram_byte w.memory 0x23 ≤ 24
  pub r5 : ram_byte w.memory 0x25 < 24
  pub r6 : ram_byte w.memory 0x20 + ram_byte w.memory 0x24 < 40
  pub waits : Waits (line ++ 0x0D ∷ []) w

-- the bytes that GETLN changes: those that output changes, and the line at $0200
abbrev pub line_ranges : List (ℕ × ℕ)
line_ranges = (0x24, 0x25) ∷ (0x28, 0x29) ∷ (0x200, 0x2FF) ∷ (0x400, 0x7FF) ∷ []

-- the line was taken, and is at $0200: storing it there again changes nothing
pub record LineTaken (line : List ℕ) (w u : World) : Type 0 where
  pub e1 : ram_byte u.memory 0x25 < 24
  pub e2 : ram_byte u.memory 0x20 + ram_byte u.memory 0x24 < 40
  pub e3 : u.registers.x ≡ length line
  pub stands : after_stores (line_stores 0x200 line) u.memory ≡ u.memory
  pub keep_a : u.registers.a ≡ w.registers.a
  pub keep_y : u.registers.y ≡ w.registers.y
  pub rest : Leaves w.memory (is_in line_ranges) (line ++ 0x0D ∷ []) u
  pub bytes : IsWhole u

has_its_return : (line rest : List ℕ) → has_return (line ++ (0x0D ∷ rest)) ≡ true
has_its_return [] rest = refl
has_its_return (key ∷ line) rest = ap (λ v. (key == 0x0D) || v) (has_its_return line rest) ∙ or_true (key == 0x0D)
  where
    or_true : (v : Bool) → (v || true) ≡ true
    or_true true = refl
    or_true false = refl

not_reached : (b : ℕ) → is_in line_ranges b ≡ false → reach Getln b ≡ false
unfolding reach
not_reached b h = grind (arith, nat_tests, h)

module _ (code : Code) (s : ℕ) (room : s < 254) (line : List ℕ) (plain : list_all is_plain line ≡ true) (short : length line < 256)
    (away : list_any (reach Getln) code.protected ≡ false) where
  pub getln_serves : Serves code 0xFD6A s (HasLine line) (LineTaken line)
  unfolding service_at effect
  getln_serves w whole before = go before.waits
    where
      cursor : HasCursor w
      cursor = record { r1 = before.r1; r2 = before.r2; r3 = before.r3; r4 = before.r4; r5 = before.r5; r6 = before.r6 }

      prompt : ℕ
      prompt = prompt_character w.memory

      start : Memory
      start = after_put prompt w.memory

      fits_there : CursorFits w.memory
      fits_there = fits_tells w.memory (cursor_test w cursor)

      go : Waits (line ++ 0x0D ∷ []) w → Reaches code (enter 0xFD6A s w) (λ u. AfterCall s w u × LineTaken line w u)
      go (rest, waits) =
          weaken code (enter 0xFD6A s w) _ _
          (leave code 0xFD6A s room Getln w whole refl refl free line_ranges not_reached (in_stack line_ranges refl) (line ++ 0x0D ∷ [])
          there w.registers.a last.len is (base_whole last.memory read.whole read.fits) whole.a (omega (arith, read.len_is, short))
          (waits ∙ ap (λ l. (line ++ 0x0D ∷ []) ++ l) (sym (ap (λ (d : Devices). d.keys) (base_devices last.memory) ∙ read.keys))))
          (λ u h. (h.0, taken u h.1))
        where
          keys : w.memory.devices.keys ≡ line ++ (0x0D ∷ rest)
          keys = waits ∙ append_assoc line (0x0D ∷ []) rest

          last : Reading
          last = line_read (line ++ (0x0D ∷ rest)) (reading start 0)

          there : Memory
          there = with_base_address last.memory

          read : IsRead line rest start 0 last
          read =
              line_is_read line rest start 0 plain (omega (arith, short))
              (printed_whole prompt w.memory whole.ram fits_there (whole.ram.bytes 0x33)) (put_fits prompt w.memory fits_there) (ap (λ (d : Devices). d.keys) (put_devices prompt w.memory) ∙ keys)

          returns : has_return w.memory.devices.keys ≡ true
          returns = ap has_return keys ∙ has_its_return line rest

          free : service_cause code.protected Getln (enter 0xFD6A s w) ≡ None
          free = λ i.
              if away i then Some CodeWrite
              else if not (cursor_test w cursor i) then Some Window
              else if not (returns i) then Some Keys
              else None

          is : effect Getln (enter 0xFD6A s w) ≡ back (with_memory there (with_x last.len (with_a w.registers.a (enter 0xFD6A s w))))
          is = ap (λ l. let it = line_read l (reading start 0) in back (with_x it.len (output it.memory (enter 0xFD6A s w)))) keys

          fits_last : CursorFits there
          fits_last = base_fits last.memory read.whole read.fits

          taken : (u : World) → Left line_ranges (line ++ 0x0D ∷ []) w.registers.a last.len there w u → LineTaken line w u
          taken u h = record {
            e1 = subst (λ n. ram_byte n 0x25 < 24) (sym h.memory) fits_last.line.row;
            e2 = subst (λ n. ram_byte n 0x20 + ram_byte n 0x24 < 40) (sym h.memory) fits_last.column;
            e3 = omega (arith, h.x_is, read.len_is);
            stands = subst (λ n. after_stores (line_stores 0x200 line) n ≡ n) (sym h.memory)
                (line_put_back line 0x200 last.memory there (omega arith) (omega (arith, short))
                (λ b inside. base-kept b (outside b inside) last.memory) read.stand);
            keep_a = h.a_is;
            keep_y = h.keep_y;
            rest = h.rest;
            bytes = h.bytes;
          }
