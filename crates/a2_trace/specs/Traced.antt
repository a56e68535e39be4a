-- What calls that execute steps return. No public clause cites this file.
use Rattle.std.specs.Prelude.{◌≡◌, ℕ, zero, suc, ◌+◌, ◌-◌, ◌/◌, ◌%◌, ◌<◌, Bool, ◌&&◌, List, [], ◌∷◌, ◌++◌, codes, Option, Some, None}
use Rattle.std.specs.List.{concat}
use Rattle.a2_text.specs.Digits.{hex_pair, hex_word}
use Rattle.a2_effect.specs.Registers.{Registers, byte_of_flags}
use Rattle.a2_symbols.specs.declared.places.Span.{Span}
use Rattle.a2_timed_keys.specs.Finished.{Finished}
use Rattle.a2_timed_keys.specs.Rerun.{Rerunning, worlds_of, end_of}
use Rattle.a2_trace.specs.declared.choice.Choice.{Choice}
use Rattle.a2_trace.specs.Choices.{stores_where}
use Rattle.a2_trace.specs.Trace.{count_chosen, skipped, step_lines}

-- the next step of a run was executed, and this says whether it is near and stores in the span that is asked for; or the run is at its
-- end, and nothing was done
abbrev pub MakesStep : Bool → Option Span → Rerunning → Rerunning → Option Bool → Type 0
MakesStep near stores old new (Some chosen) =
    (old.steps < (end_of old.run).steps) × (new ≡ record old { steps = suc old.steps })
    × (chosen ≡ (near && stores_where stores (worlds_of old.run old.steps) (worlds_of old.run (suc old.steps))))
MakesStep near stores old new None = ((end_of old.run).steps ≡ old.steps) × (new ≡ old)

-- how many of the chosen steps after so many first ones are left out
abbrev pub left_after : Choice → Finished → ℕ → ℕ
left_after choice run n = skipped choice (worlds_of run) (end_of run).steps - count_chosen choice (worlds_of run) n

-- these lines are shown of so many first steps of a finished run
abbrev pub lines_of : Choice → Finished → ℕ → List ℕ
lines_of choice run n = step_lines choice (skipped choice (worlds_of run) (end_of run).steps) (worlds_of run) n

-- the two decimal digits of a number below 100
abbrev pub decimal_pair : ℕ → List ℕ
decimal_pair n = (48 + n / 10) ∷ (48 + n % 10) ∷ []

-- the two digits of each of so many first numbers, one after another
abbrev pub pairs : (ℕ → List ℕ) → ℕ → List ℕ
pairs pair zero = []
pairs pair (suc n) = pairs pair n ++ pair n

-- the front of a register line, up to the steps
unfoldable pub fields : Registers → List ℕ
fields r = concat (
    codes "A=" ∷ hex_pair r.a ∷ codes " X=" ∷ hex_pair r.x ∷ codes " Y=" ∷ hex_pair r.y ∷ codes " P=" ∷ hex_pair (byte_of_flags r.flags)
    ∷ codes " S=" ∷ hex_pair r.s ∷ codes " PC=" ∷ hex_word r.pc ∷ codes " STEPS=" ∷ [])
