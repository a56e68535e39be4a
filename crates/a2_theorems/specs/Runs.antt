-- The result of a run of a source text, in terms of the contract of `run_text`. This project's own.
use Rattle.std.specs.Prelude.{◌≡◌, ◌≤◌, ℕ, Bool, false, List, [], ◌++◌, codes, replicate, flat_map, Result, Ok, Err}
use Rattle.a2_stream.specs.Stream.{Taker, Sends, Breaks}
use Rattle.a2_services.specs.World.{World}
use Rattle.a2_machine.specs.declared.causes.Cause.{Cause}
use Rattle.a2_machine.specs.declared.causes.Cause.TheVariants.{Returned}
use Rattle.a2_run.specs.declared.fault.RunFault.{RunFault}
use Rattle.a2_run.specs.declared.fault.RunFault.TheVariants.{Source, Script, Read, Write, Memory}
use Rattle.a2_run.specs.Answers.{Answers, OfSource}
use Rattle.a2_run.specs.Meaning.{IsRefused, IsRun, output_of}

-- the run returned and its whole output was sent; or a read failed or memory ran out, and nothing was sent; or a write
-- failed after a prefix of the output
abbrev pub IsRunResult : List ℕ → Taker → Taker → Result Cause RunFault → Type 0
IsRunResult output old new (Ok cause) = (cause ≡ Returned) × Sends old new output
IsRunResult output old new (Err (Source fault)) = ⊥
IsRunResult output old new (Err (Script fault)) = ⊥
IsRunResult output old new (Err Read) = Sends old new []
IsRunResult output old new (Err Write) = Breaks old new output
IsRunResult output old new (Err Memory) = Sends old new []

-- every possible result of a guarded run of the text, with these keys and this limit, is of this form
abbrev pub RunWrites : (text keys : List ℕ) (limit : ℕ) (attr : Bool) (output : List ℕ) → Type 0
RunWrites text keys limit attr output =
    (old new : Taker) (result : Result Cause RunFault)
    → Answers (OfSource (IsRefused text)) (IsRun text keys limit (record { free = false; attr = attr })) old new result → IsRunResult output old new result

-- A run of the text with these keys returns after this many steps, with every limit that allows them. `Q` holds in its
-- last world, and the run writes the screen and the registers of that world.
abbrev pub Runs : (text keys : List ℕ) (steps : ℕ) → (World → Type 0) → Type 0
Runs text keys steps Q =
    (last : World) × Q last
    × ((limit : ℕ) (attr : Bool) → steps ≤ limit → RunWrites text keys limit attr (output_of attr (record { world = last; steps = steps; cause = Returned })))

-- this many blank rows of a picture
abbrev pub blank_rows : ℕ → List ℕ
blank_rows count = flat_map {X = List ℕ} (λ row. row) (replicate count (replicate 40 32 ++ codes "\n"))
