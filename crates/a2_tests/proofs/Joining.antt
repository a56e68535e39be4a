-- Joined pieces.
use Rattle.std.specs.Prelude.{◌≡◌, ℕ, List, ◌++◌}
use Rattle.std.proofs.Common.{append_assoc}

pub joined-five : (a b c d e stores loads call source : List ℕ) (head : List ℕ) → a ≡ head → b ≡ a ++ stores → c ≡ b ++ loads → d ≡ c ++ call → e ≡ d ++ source
    → e ≡ head ++ (stores ++ (loads ++ (call ++ source)))
joined-five a b c d e stores loads call source head at_a at_b at_c at_d at_e = rw (at_e, at_d, at_c, at_b, at_a) (simp append_assoc)
