-- Instructions that are stored in a memory.
use Rattle.std.specs.Prelude.{◌≡◌, ℕ, ◌+◌, ◌-◌, ◌%◌, ◌<◌, min, Bool, true, false, List, length, take, drop, get_or, slice_get, slice_range, Option, Some, None, is_some, IfSome, nat_lt, if◌then◌else◌}
use Rattle.std.proofs.Common.{refl, sym, ap, ap₂, subst, ◌∙◌, true≢false, arith, length-drop}
use Rattle.std.proofs.lemmas.Bool.Decides.{nat_tests}
use Rattle.std.proofs.lemmas.List.{get_or-take, get_or-drop, length-take}
use Rattle.std.proofs.lemmas.Option.{slice_get-get_or}
use Rattle.a2_opcode.specs.declared.Instr.{Instr}
use Rattle.a2_opcode.specs.Table.{length_of}
use Rattle.a2_opcode.specs.Encoding.{IsFetchedFrom}
use Rattle.a2_bus.specs.Memory.{Memory, ram_end, ram_byte, peek}
use Rattle.a2_asm.specs.declared.program.Statement.{Statement}
use Rattle.a2_asm.specs.Programs.{Holds}
use Rattle.a2_debugger.specs.Alerts.{IsFetchedAt}

-- an address with a byte is in RAM
byte-low : (m : Memory) (a byte : ℕ) → peek m a ≡ Some byte → a < ram_end
byte-low m a byte e = go (nat_lt a ram_end) refl e
  where
    go : (b : Bool) → nat_lt a ram_end ≡ b → (if b then Some (ram_byte m a) else None) ≡ Some byte → a < ram_end
    go true is shown = grind (arith, nat_tests, is)
    go false is shown = absurd (true≢false (ap is_some (sym shown)))

-- the beginning of a part of a list lies in the part and has its elements
front-of-part : (xs : List ℕ) (from to n k : ℕ) → k < length (take n (slice_range xs from to))
    → (k < to - from) × (slice_get (take n (slice_range xs from to)) k ≡ slice_get xs (from + k))
front-of-part xs from to n k low =
    let size : length (take n (slice_range xs from to)) ≡ min n (min (to - from) (length xs - from)) =
    length-take n (slice_range xs from to)
    ∙ ap (min n) (length-take (to - from) (drop from xs) ∙ ap (min (to - from)) (length-drop from xs)) in (
      omega (arith, size, low),
      slice_get-get_or (take n (slice_range xs from to)) k 0 low
          ∙ ap (λ b. Some b) (get_or-take n (slice_range xs from to) k 0 (omega (arith, size, low))
          ∙ get_or-take (to - from) (drop from xs) k 0 (omega (arith, size, low)) ∙ get_or-drop from xs k 0)
          ∙ sym (slice_get-get_or xs (from + k) 0 (omega (arith, size, low))),
    )

-- an instruction decoded from a statement's bytes of RAM is fetched there
pub stands : (memory : Memory) (ram part : List ℕ) (s : Statement) (first size : ℕ) (found : Option Instr)
    → slice_get ram ≡ peek memory → part ≡ slice_range ram first (first + size) → first ≡ s.addr → size ≡ s.length
    → IfSome found (λ i. IsFetchedFrom i s.addr (take (length_of i.mode) part)) → IfSome found (λ i. IsFetchedAt memory s i)
stands memory ram part s first size None shown is at long from = tt
stands memory ram part s first size (Some i) shown is at long from = λ other same. from (peek other) (shows other same)
  where
    bytes : List ℕ
    bytes = take (length_of i.mode) part

    shows : (other : Memory) → ((a : ℕ) → Holds s a → peek other a ≡ peek memory a)
        → (k : ℕ) → k < length bytes → peek other ((s.addr + k) % 65536) ≡ slice_get bytes k
    shows other same k lt =
        let taken : bytes ≡ take (length_of i.mode) (slice_range ram s.addr (s.addr + s.length)) =
        ap (take (length_of i.mode)) (is ∙ ap₂ (λ a n. slice_range ram a (a + n)) at long) in
        let inside : k < length (take (length_of i.mode) (slice_range ram s.addr (s.addr + s.length))) =
        subst (λ (xs : List ℕ). k < length xs) taken lt in
        let found = front-of-part ram s.addr (s.addr + s.length) (length_of i.mode) k inside in
        let byte : peek memory (s.addr + k) ≡ slice_get bytes k =
        ap (λ (r : ℕ → Option ℕ). r (s.addr + k)) (sym shown) ∙ sym found.1 ∙ ap (λ (xs : List ℕ). slice_get xs k) (sym taken) in
        let low : s.addr + k < ram_end = byte-low memory (s.addr + k) (get_or bytes k 0) (byte ∙ slice_get-get_or bytes k 0 lt) in
        ap (peek other) (omega (arith, low)) ∙ same (s.addr + k) (omega arith, omega (arith, found.0)) ∙ byte
