-- One more cycle of a tone.
use Rattle.std.proofs.Common.{◌≡◌, ℕ, ◌+◌, List, refl, add-one}
use Rattle.std.specs.Prelude.{replicate}
use Rattle.a2_tape.specs.Tape.{with_cycle, with_tone}

pub tone_more : (wave : List ℕ) (n : ℕ) → with_tone wave (n + 1) ≡ with_cycle (with_tone wave n) (replicate 26 224) (replicate 26 32)
unfolding with_tone
tone_more wave n = rw (add-one n) refl

pub tone_none : (wave : List ℕ) → with_tone wave 0 ≡ wave
unfolding with_tone
tone_none wave = refl
