-- Loops over a count, in a register or a byte, that is decremented to 0.
use Rattle.std.specs.Prelude.{◌≡◌, ◌≢◌, ◌<◌, ◌≤◌, ℕ, zero, suc, ◌+◌, ◌*◌, ◌%◌, ◌==◌, Bool, true, false, refl}
use Rattle.std.proofs.Common.{ap, ◌∙◌, arith}
use Rattle.std.proofs.lemmas.Bool.Decides.{nat_tests}
use Rattle.a2_services.specs.World.{World}
use Rattle.a2_machine.specs.Meaning.{Code}
use Rattle.a2_machine.proofs.Walks.{Leads}
use Rattle.a2_theorems.proofs.Places.{At, put, from, so, counted}

-- Z for a count: the count is 0
abbrev pub is_last : ℕ → Bool
is_last zero = true
is_last (suc k) = false

tests : (k : ℕ) → (k == 0) ≡ is_last k
tests zero = refl
tests (suc k) = grind (arith, nat_tests)

-- Z for a byte that is not 0
pub not_zero : (n : ℕ) → n ≢ 0 → (n == 0) ≡ false
not_zero n other = grind (arith, nat_tests, other)

-- a world reaches the top of a loop, with this count and its Z, and this many cycles
abbrev pub ReachesTop : (pc s : ℕ) (count : World → ℕ) (k cycles : ℕ) → World → Type 0
ReachesTop pc s count k cycles w = At pc s (k == 0) w × (count w ≡ k) × (w.cycles ≡ cycles)

-- A loop that BEQ leaves at its top, with a count that DEX, DEY or DEC decrements at the end of each round. There are
-- `n` rounds, and `Left k` states what holds if k of them are left. `begun` is the number of cycles before the loop,
-- and `cost` that of a round.
module _ (code : Code) (pc s : ℕ) (count : World → ℕ) (Left : ℕ → World → Type 0) (n begun cost : ℕ) where
  record Round (k : ℕ) (w : World) : Type 0 where
    at : At pc s (is_last k) w
    count_is : count w ≡ k
    some : k ≤ n
    cycles : w.cycles + k * cost ≡ n * cost + begun
    left : Left k w

  pub counting : (Q : World → Type 0) (begin round end steps : ℕ) (w : World) → begin + (n * round + end) ≡ steps → n < 256
      → Leads code w begin (λ v. ReachesTop pc s count n begun v × Left n v)
      → ((k : ℕ) (v : World) → k < n → (count v + 255) % 256 ≡ k → Left (suc k) v
      → Leads code (put pc s false v) round (λ u. ReachesTop pc s count ((count v + 255) % 256) (v.cycles + cost) u × Left k u))
      → ((v : World) → v.cycles ≡ n * cost + begun → Left 0 v → Leads code (put pc s true v) end Q) → Leads code w steps Q
  counting Q begin round end steps w are few first once last =
      counted code Round Q n begin round end steps w are (so code w begin _ _ first (λ v h. at_first v h)) (λ k v r. one k v r)
      (λ v r. from code pc s true v end Q r.at (last v (omega (arith, r.cycles)) r.left))
    where
      at_first : (v : World) → ReachesTop pc s count n begun v × Left n v → Round n v
      at_first v (((at, is_s, d, z), is, cycles), left) =
          record { at = (at, is_s, d, z ∙ tests n); count_is = is; some = omega arith; cycles = omega (arith, cycles); left = left }

      one : (k : ℕ) (v : World) → Round (suc k) v → Leads code v round (Round k)
      one k v r =
          from code pc s false v round _ r.at
          (so code (put pc s false v) round _ _ (once k v (omega (arith, r.some)) down r.left) (λ u h. following u h))
        where
          down : (count v + 255) % 256 ≡ k
          down = omega (arith, few, r.some, r.count_is)

          following : (u : World) → ReachesTop pc s count ((count v + 255) % 256) (v.cycles + cost) u × Left k u → Round k u
          following u (((at, is_s, d, z), is, cycles), left) = record {
            at = (at, is_s, d, z ∙ ap (λ m. m == 0) down ∙ tests k);
            count_is = is ∙ down;
            some = omega (arith, r.some);
            cycles = less k (v.cycles) (n * cost + begun) cycles r.cycles;
            left = left;
          }
            where
              less : (k before all : ℕ) → u.cycles ≡ before + cost → before + suc k * cost ≡ all → u.cycles + k * cost ≡ all
              less k before all is sum =
                  let one : suc k * cost ≡ cost + k * cost = grind arith in
                  omega (arith, one, is, sum)
