-- What a trace shows: the chosen steps of a run, with what is at PC before each and the registers after it. This project's profile.
use Rattle.std.specs.Prelude.{◌≡◌, ℕ, zero, suc, ◌+◌, ◌-◌, nat_le, ◌&&◌, List, [], ◌++◌, length, take, codes, Option, Some, None, if◌then◌else◌}
use Rattle.a2_text.specs.Digits.{hex_word}
use Rattle.a2_opcode.specs.Listing.{listing}
use Rattle.a2_services.specs.declared.rows.Service.{Service}
use Rattle.a2_services.specs.Rows.{service_name}
use Rattle.a2_services.specs.Services.{service_at}
use Rattle.a2_services.specs.World.{World}
use Rattle.a2_machine.specs.Meaning.{End}
use Rattle.a2_machine.specs.Output.{register_line, cause_line}
use Rattle.a2_timed_keys.specs.Finished.{Finished}
use Rattle.a2_timed_keys.specs.Rerun.{worlds_of, end_of}
use Rattle.a2_trace.specs.declared.choice.Choice.{Choice}
use Rattle.a2_trace.specs.Bytes.{bytes_at}
use Rattle.a2_trace.specs.Choices.{is_chosen}

-- the line of a listing for a service that is called at an address
abbrev pub service_line : Service → ℕ → List ℕ
service_line service a = hex_word a ++ (codes "-              " ++ service_name service)

-- what is at an address with these bytes: a service that is called there, or else an instruction
unfoldable pub standing : ℕ → List ℕ → List ℕ
standing a bytes =
    elim (service_at a) [
      | Some service ↦ service_line service a
      | None ↦ listing bytes a
    ]

abbrev pub at_pc : World → List ℕ
at_pc world = standing world.registers.pc (bytes_at world.memory world.registers.pc)

-- a text with blanks after it, up to 34 columns
abbrev pub padded : List ℕ → List ℕ
padded text = text ++ take (34 - length text) (codes "                                  ")

-- the line of a step by its number since the start: what was at PC, and the register line after it
abbrev pub step_line : World → World → ℕ → List ℕ
step_line before after count = padded (at_pc before) ++ register_line after.registers count after.cycles

-- how many are chosen of so many first steps of a run that passes through these worlds
unfoldable pub count_chosen : Choice → (ℕ → World) → ℕ → ℕ
count_chosen choice worlds zero = 0
count_chosen choice worlds (suc n) =
    count_chosen choice worlds n + (if is_chosen choice (n + 1) (worlds n) (worlds (suc n)) then 1 else 0)

-- the line of a step, if it is chosen and as many chosen ones are before it as are left out
abbrev pub shown_line : Choice → ℕ → (ℕ → World) → ℕ → List ℕ
shown_line choice skip worlds n =
    if is_chosen choice (n + 1) (worlds n) (worlds (suc n)) && nat_le skip (count_chosen choice worlds n)
    then step_line (worlds n) (worlds (suc n)) (suc n) else []

-- these lines of so many first steps
abbrev pub step_lines : Choice → ℕ → (ℕ → World) → ℕ → List ℕ
step_lines choice skip worlds zero = []
step_lines choice skip worlds (suc n) = step_lines choice skip worlds n ++ shown_line choice skip worlds n

-- how many chosen steps are left out, if only so many of the last are asked for
abbrev pub left_out : Option ℕ → ℕ → ℕ
left_out None count = 0
left_out (Some last) count = count - last

-- how many are left out of the chosen ones in a run of so many steps
abbrev pub skipped : Choice → (ℕ → World) → ℕ → ℕ
skipped choice worlds n = left_out choice.last (count_chosen choice worlds n)

-- the lines of a run's chosen steps, and its cause line
abbrev pub trace : Choice → (ℕ → World) → End → List ℕ
trace choice worlds end = step_lines choice (skipped choice worlds end.steps) worlds end.steps ++ cause_line end.cause

-- the trace of a finished run
abbrev pub IsTraceOf : Choice → Finished → List ℕ → Type 0
IsTraceOf choice run output = output ≡ trace choice (worlds_of run) (end_of run)
