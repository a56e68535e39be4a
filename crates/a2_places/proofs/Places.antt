-- Places in a line convert back.
use Rattle.std.specs.Prelude.{◌≡◌, ℕ, zero, suc, ◌+◌, ◌-◌, ◌<◌, ◌≤◌, nat_lt, true, false, List, [], ◌∷◌, take, length, sum_by, slice_index, refl}
use Rattle.std.proofs.Common.{sym, ap, ◌∙◌, arith}
use Rattle.std.proofs.lemmas.Bool.{lt-ltb, le-ltb}
use Rattle.std.proofs.lemmas.List.Sums.{sum_by-cons}
use Rattle.a2_places.specs.Units.{units_of, units_before, byte_at, IsBoundary}

-- a character that begins here is found at once
at_here : (byte units : ℕ) (line : List ℕ) → units < units_of byte → byte_at (byte ∷ line) units ≡ 0
at_here byte units line few =
    let more : nat_lt units (units_of byte) ≡ true = lt-ltb units (units_of byte) few in
    rw more refl

-- after the units of a byte, the place is in the rest of the line
at_later : (byte units : ℕ) (line : List ℕ) → byte_at (byte ∷ line) (units_of byte + units) ≡ 1 + byte_at line units
at_later byte units line =
    let enough : nat_lt (units_of byte + units) (units_of byte) ≡ false = le-ltb (units_of byte + units) (units_of byte) (omega arith) in
    let rest : units_of byte + units - units_of byte ≡ units = omega arith in
    rw (enough, rest) refl

pub places_convert_back : (line : List ℕ) (index : ℕ) → index ≤ length line → IsBoundary line index → byte_at line (units_before line index) ≡ index
places_convert_back [] index within begins = omega (arith, within)
places_convert_back (byte ∷ line) zero within begins = at_here byte 0 line (begins (omega arith))
places_convert_back (byte ∷ line) (suc index) within begins =
    ap (λ units. byte_at (byte ∷ line) units) (sum_by-cons units_of byte (take index line))
    ∙ at_later byte (units_before line index) line
    ∙ ap (λ n. 1 + n) (places_convert_back line index (omega (arith, within)) (λ more. begins (omega (arith, more))))
    ∙ (omega arith)
