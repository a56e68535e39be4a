-- The answers of a list of calls, and the state afterwards: each call does to the session what the definition of the
-- session says.
use Rattle.std.specs.Prelude.{◌≡◌, ℕ, ◌+◌, ◌-◌, ◌%◌, ◌<◌, ◌≤◌, ◌^◌, List, [], ◌∷◌, ◌++◌, length, Result, Ok, Err}
use Rattle.a2_debug_script.specs.declared.fault.DebugFault.{DebugFault}
use Rattle.a2_debug_script.specs.declared.fault.DebugFault.TheVariants.{TooFar, Full, Steps}
use Rattle.a2_debug_script.specs.declared.calls.Call.{Call}
use Rattle.a2_debug_script.specs.declared.calls.Call.TheVariants.{Step, Go, TypeKeys, Back, SetBreak, ClearBreak}
use Rattle.a2_debug_script.specs.declared.calls.Answer.{Answer}
use Rattle.a2_debug_script.specs.declared.calls.Answer.TheVariants.{Halted, Done, Refused}
use Rattle.a2_debug_script.specs.declared.Halt.{Halt}
use Rattle.a2_debug_script.specs.Marks.{marked, unmarked, at_place}
use Rattle.a2_debug_script.specs.Session.{Halted as End, stepped, stepped_to_break, with_keys, with_breaks, stepped_back}
use Rattle.a2_debug_script.specs.Stored.{Stored, session_of, typed_at, up_to, Moves}

-- the answer of a call that steps, and of one that does not
abbrev pub halted_or : Result Halt DebugFault → Answer
halted_or (Ok halt) = Halted halt
halted_or (Err fault) = Refused fault

abbrev pub done_or : Result (Unit {0}) DebugFault → Answer
done_or (Ok _) = Done
done_or (Err fault) = Refused fault

-- steps are executed, or the call is rejected if there would be too many
abbrev pub ExecutesSteps : Stored → ℕ → End → Answer → Stored → Type 0
ExecutesSteps old n end (Refused fault) new = (100_000_000 < old.count + n) × (fault ≡ Steps) × (new ≡ old)
ExecutesSteps old n end Done new = ⊥
ExecutesSteps old n end (Halted halt) new =
    (old.count + n ≤ 100_000_000) × (session_of new ≡ end.session) × (halt ≡ end.halt) × Moves old n new

-- the call goes back: it replays exactly the steps from the last count divisible by 1,024
abbrev pub GoesBack : Stored → ℕ → Stored → Type 0
GoesBack old n new =
    (old.oldest + n ≤ old.count) × (session_of new ≡ stepped_back n (session_of old))
    × (new ≡ record old { count = old.count - n; log = up_to (old.count - n) old.log; reruns = (old.count - n) % 1024; made = new.made })
    × (old.made + new.reruns < 2 ^ 64 → new.made ≡ old.made + new.reruns)

-- other breakpoints, or an error
abbrev pub Sets : Stored → Result (List ℕ) DebugFault → Answer → Stored → Type 0
Sets old (Ok breaks) answer new =
    (answer ≡ Done) × (session_of new ≡ with_breaks breaks (session_of old)) × (new ≡ record old { breaks = breaks })
Sets old (Err fault) answer new = (answer ≡ Refused fault) × (new ≡ old)

-- a call may have this answer and leave this state
abbrev pub CallDoes : Stored → Call → Answer → Stored → Type 0
CallDoes old (Step n) answer new = ExecutesSteps old n (stepped old.program n (session_of old)) answer new
CallDoes old (Go n) answer new = ExecutesSteps old n (stepped_to_break old.program n (session_of old)) answer new
CallDoes old (TypeKeys keys) (Refused fault) new = (4096 < length old.log + length keys) × (fault ≡ Full) × (new ≡ old)
CallDoes old (TypeKeys keys) Done new =
    (length old.log + length keys ≤ 4096) × (session_of new ≡ with_keys keys (session_of old))
    × (new ≡ record old { log = old.log ++ typed_at old.count keys })
CallDoes old (Back n) (Refused fault) new = (old.count < old.oldest + n) × (fault ≡ TooFar) × (new ≡ old)
CallDoes old (Back n) Done new = GoesBack old n new
CallDoes old (SetBreak word) answer new = Sets old (at_place marked old.program.names word.now old.breaks) answer new
CallDoes old (ClearBreak word) answer new = Sets old (at_place unmarked old.program.names word.now old.breaks) answer new
CallDoes old _ (Halted halt) new = ⊥

-- these calls, executed one after another
abbrev pub Run : Stored → List Call → List Answer → Stored → Type 0
Run old [] [] new = new ≡ old
Run old (call ∷ calls) (answer ∷ answers) new = (mid : Stored) × CallDoes old call answer mid × Run mid calls answers new
Run old _ _ new = ⊥
