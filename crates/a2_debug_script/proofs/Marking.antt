-- Marks of breakpoints.
use Rattle.std.specs.Prelude.{filter, ◌==◌}
use Rattle.std.proofs.Common.{◌≡◌, ℕ, ◌<◌, ◌&&◌, Bool, false, not, List, [], ◌∷◌, set, replicate, arith, length-set}
use Rattle.std.proofs.lemmas.Bool.Decides.{nat_tests}
use Rattle.std.proofs.lemmas.List.{get_or-set_same, get_or-set_other, get_or-replicate, length-replicate}
use Rattle.a2_text.specs.Bytes.{is_among}
use Rattle.a2_debug_script.specs.Held.{AreMarked}

pub none_marked : (marked : List Bool) → marked ≡ replicate 65536 false → AreMarked [] marked
none_marked marked all = record { size = rw (all, length-replicate); each = λ a low. rw (all, get_or-replicate 65536 a false false low) }

left_among : (places : List ℕ) (address a : ℕ) → is_among (filter (λ mark. not (mark == address)) places) a ≡ (not (a == address) && is_among places a)
left_among [] address a = grind arith
left_among (place ∷ places) address a = let rest = left_among places address a in grind (arith, nat_tests)

pub mark_cleared : (places : List ℕ) (marked : List Bool) (address : ℕ) → address < 65536 → AreMarked places marked
    → AreMarked (filter (λ mark. not (mark == address)) places) (set marked address false)
mark_cleared places marked address low are = record {
  size = rw length-set are.size;
  each = λ a small.
      (let same = get_or-set_same marked address false false (omega (arith, low, are.size)) in
      let other = get_or-set_other marked address a false false in
      rw (left_among places address a, ← are.each a small) (grind (arith, nat_tests)));
}
