-- What a promise says is the same for two worlds that are alike in what it depends on.
use Rattle.std.specs.Prelude.{◌≡◌, ◌⊎◌, ◌<◌, ◌≤◌, ℕ, ◌-◌, pos, ◌&&◌, Bool, true, false, not, IsTrue, List, [], ◌∷◌, map, length, Some, None, slice_get, refl}
use Rattle.std.specs.List.{range_with_len}
use Rattle.std.proofs.Common.{sym, ap, ap₂, ◌∙◌, arith, inl, inr, true≢false}
use Rattle.std.proofs.lemmas.List.FromFn.{length-map-range_with_len, get_or-map-range_with_len}
use Rattle.std.proofs.lemmas.Bool.{cases_lt}
use Rattle.std.proofs.lemmas.Option.{none-some, same_Some, slice_get_past, slice_get-get_or}
use Rattle.a2_bus.specs.Memory.{Memory, ram_byte, ram_end}
use Rattle.a2_services.specs.World.{World}
use Rattle.a2_promise.specs.declared.expr.Atom.{Atom}
use Rattle.a2_promise.specs.declared.expr.Atom.TheVariants as atom
use Rattle.a2_promise.specs.declared.promises.Clause.{Clause}
use Rattle.a2_promise.specs.ReadsOfValues.{AgreeAt, Known, ValuesDependOnlyOnReads}
use Rattle.a2_promise.specs.Values.{Moment, digit, held as held_atom}
use Rattle.a2_footprint.specs.declared.Part.{Part}
use Rattle.a2_footprint.specs.declared.Part.TheVariants.{A as part_a, X as part_x, Y as part_y, N as part_n, V as part_v, D as part_d, I as part_i, Z as part_z, C as part_c}
use Rattle.a2_footprint.specs.Parts.{held}
use Rattle.a2_footprint.specs.RotatedStack.{in_stack}
use Rattle.a2_promise_certify.specs.Judging.{all_hold, holds, no_names}
use Rattle.a2_promise_certify.specs.Kept.{AreClausesKnown, bytes_of, knows_atom, known_by, moment}

-- a byte of a list that holds a function's value for each number
made : (f : ℕ → ℕ) (n a : ℕ) → a < n → slice_get (map f (range_with_len 0 n)) a ≡ Some (f a)
made f n a low =
    let here : a < length (map f (range_with_len 0 n)) = omega (arith, low, length-map-range_with_len f 0 n) in
    slice_get-get_or (map f (range_with_len 0 n)) a 0 here
    ∙ ap (λ v. Some v) (get_or-map-range_with_len f 0 n a a 0 low (omega arith))

past : (f : ℕ → ℕ) (n a : ℕ) → n ≤ a → slice_get (map f (range_with_len 0 n)) a ≡ None
past f n a high =
    let there : length (map f (range_with_len 0 n)) ≤ a = omega (arith, high, length-map-range_with_len f 0 n) in
    slice_get_past (map f (range_with_len 0 n)) a there

same_made : (f g : ℕ → ℕ) (n a : ℕ) → (a < n → f a ≡ g a)
    → slice_get (map f (range_with_len 0 n)) a ≡ slice_get (map g (range_with_len 0 n)) a
same_made f g n a same = go (below_or_not a n)
  where
    below_or_not : (a n : ℕ) → (a < n) ⊎ (n ≤ a)
    below_or_not a n = grind (arith)

    go : (a < n) ⊎ (n ≤ a) → slice_get (map f (range_with_len 0 n)) a ≡ slice_get (map g (range_with_len 0 n)) a
    go (inl low) = made f n a low ∙ ap (λ v. Some v) (same low) ∙ sym (made g n a low)
    go (inr high) = past f n a high ∙ sym (past g n a high)

same_byte : (m n : Memory) (a : ℕ) → (a < ram_end → ram_byte m a ≡ ram_byte n a) → slice_get (bytes_of m) a ≡ slice_get (bytes_of n) a
unfolding bytes_of
same_byte m n a same = same_made (ram_byte m) (ram_byte n) ram_end a same

-- the byte at an address of RAM
pub byte_told : (m : Memory) (a byte : ℕ) → slice_get (bytes_of m) a ≡ Some byte → ram_byte m a ≡ byte
unfolding bytes_of
byte_told m a byte is = go (cases_lt a ram_end)
  where
    go : (a < ram_end) ⊎ (ram_end ≤ a) → ram_byte m a ≡ byte
    go (inl low) = same_Some (ram_byte m a) byte (sym (made (ram_byte m) ram_end a low) ∙ is)
    go (inr high) = absurd (none-some byte (sym (past (ram_byte m) ram_end a high) ∙ is))

-- Two worlds are alike in known bytes outside the stack's page and in parts, and have used as many cycles since their
-- starts.
pub record AreAlike (known : ℕ → Bool) (looked : Part → Bool) (one first other second : World) : Type 0 where
  pub parts : (part : Part) → IsTrue (looked part) → held part first.registers ≡ held part second.registers
  pub bytes : (a : ℕ) → a < ram_end → in_stack a ≡ false → IsTrue (known a) → ram_byte first.memory a ≡ ram_byte second.memory a
  pub cycles : first.cycles - one.cycles ≡ second.cycles - other.cycles

seen : (stacked known : Bool) → IsTrue (not stacked && known) → (stacked ≡ false) × IsTrue known
seen true known bad = absurd (true≢false (sym bad))
seen false known is = (refl, is)

pub agree : (bytes : ℕ → Bool) (parts : Part → Bool) (one first other second : World) (steps : ℕ)
    → AreAlike bytes parts one first other second
    → AgreeAt (known_by bytes parts) (moment one first steps) (moment other second steps)
agree bytes parts one first other second steps h = record {
  bytes = λ a known. same_byte first.memory second.memory a (λ low. h.bytes a low (seen (in_stack a) (bytes a) known).0 (seen (in_stack a) (bytes a) known).1);
  atoms = atoms;
}
  where
    atoms : (a : Atom) → IsTrue (knows_atom parts a) → held_atom a (moment one first steps) ≡ held_atom a (moment other second steps)
    atoms atom.A known = ap (λ n. pos n) (h.parts part_a known)
    atoms atom.X known = ap (λ n. pos n) (h.parts part_x known)
    atoms atom.Y known = ap (λ n. pos n) (h.parts part_y known)
    atoms atom.S bad = absurd (true≢false (sym bad))
    atoms atom.Carry known = ap digit (h.parts part_c known)
    atoms atom.Zero known = ap digit (h.parts part_z known)
    atoms atom.Negative known = ap digit (h.parts part_n known)
    atoms atom.Overflow known = ap digit (h.parts part_v known)
    atoms atom.Decimal known = ap digit (h.parts part_d known)
    atoms atom.Interrupt known = ap digit (h.parts part_i known)
    atoms atom.Cycles known = ap (λ n. pos n) h.cycles
    atoms atom.Steps known = refl

pub same_hold : ValuesDependOnlyOnReads → (clauses : List Clause) (before following : Known) (m n u v : Moment) → AgreeAt before m u → AgreeAt following n v
    → AreClausesKnown clauses before following m n → all_hold clauses m n ≡ all_hold clauses u v
same_hold law [] before following m n u v entry exit looks = refl
same_hold law (clause ∷ rest) before following m n u v entry exit looks =
    ap₂ (λ here there. here && there) (ap holds (law clause.expr before following m n u v no_names entry exit looks.0))
    (same_hold law rest before following m n u v entry exit looks.1)
