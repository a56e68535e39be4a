-- The routines of a run as a tree: a row for each entry of a routine and a row for each return from it. This project's
-- profile.
use Rattle.std.specs.Prelude.{◌≡◌, ℕ, zero, suc, ◌+◌, ◌-◌, ◌*◌, ◌==◌, nat_lt, Bool, false, List, [], ◌∷◌, ◌++◌, map, length, take, codes, find, Option, Some, None, if◌then◌else◌}
use Rattle.std.specs.List.{concat}
use Rattle.std.specs.Fmt.{decimal}
use Rattle.a2_text.specs.Digits.{hex_word}
use Rattle.a2_asm.specs.declared.program.Statement.{Statement}
use Rattle.a2_asm.specs.Assembled.{Assembled}
use Rattle.a2_asm.specs.Programs.{begins_at}
use Rattle.a2_asm.specs.Values.{Names}
use Rattle.a2_services.specs.declared.rows.Service.{Service}
use Rattle.a2_services.specs.Rows.{service_name}
use Rattle.a2_services.specs.Services.{service_at}
use Rattle.a2_services.specs.World.{World}
use Rattle.a2_machine.specs.Meaning.{End}
use Rattle.a2_machine.specs.Output.{cause_line}
use Rattle.a2_timed_keys.specs.Finished.{Finished}
use Rattle.a2_timed_keys.specs.Rerun.{worlds_of, end_of}
use Rattle.a2_routines.specs.declared.routines.Entry.{Entry}
use Rattle.a2_routines.specs.Routines.{is_call, entry_at, begin_of, with_call, entered}
use Rattle.a2_symbols.specs.Names.{name_of}
use Rattle.a2_trace.specs.declared.calls.Visit.{Visit}

-- what is recorded of a routine that was entered: where its JSR is and where it begins, the stack pointer before the JSR, and the
-- steps and cycles of the run after it
abbrev pub visit_of : (ℕ → World) → Entry → Visit
visit_of worlds entry = record {
  caller = entry.call;
  begin = begin_of worlds entry;
  s = entry.s;
  steps = suc entry.position;
  cycles = (worlds (suc entry.position)).cycles;
}

-- two blanks for each routine around it, for at most 32 of them
abbrev pub indent : ℕ → List ℕ
indent depth = take (2 * depth) (codes "                                                                ")

abbrev pub service_text : Option Service → List ℕ
service_text None = []
service_text (Some service) = service_name service

-- the name of a routine that begins at an address: the first name in the source, or else that of a service
abbrev pub routine_name : Names → ℕ → List ℕ
routine_name names a = if length (name_of names a) == 0 then service_text (service_at a) else name_of names a

abbrev pub before_name : List ℕ → List ℕ
before_name name = if length name == 0 then [] else codes " "

unfoldable pub routine_cells : List ℕ → List ℕ → List ℕ → List ℕ → List ℕ → List ℕ
routine_cells blanks word address gap name = concat (blanks ∷ word ∷ address ∷ gap ∷ name ∷ [])

-- its address and name, after a word
abbrev pub routine_text : List ℕ → Names → ℕ → ℕ → List ℕ
routine_text word names depth a =
    routine_cells (indent depth) word (hex_word a) (before_name (routine_name names a)) (routine_name names a)

unfoldable pub from_text : List ℕ → List ℕ → List ℕ
from_text word digits = concat (word ∷ digits ∷ codes "\n" ∷ [])

-- where a JSR is: the line of the source, or its address if no line has it
abbrev pub place_text : Option Statement → ℕ → List ℕ
place_text None a = from_text (codes " FROM ") (hex_word a)
place_text (Some s) a = from_text (codes " FROM LINE ") (decimal s.line)

abbrev pub caller_text : List Statement → ℕ → List ℕ
caller_text statements a = place_text (find (begins_at a) statements) a

-- the row of a routine that is entered
abbrev pub entered_row : Assembled → ℕ → Visit → List ℕ
entered_row program depth visit =
    routine_text (codes "CALL ") program.names depth visit.begin ++ caller_text program.statements visit.caller

unfoldable pub spent_text : ℕ → ℕ → List ℕ
spent_text steps cycles = concat (codes " STEPS=" ∷ decimal steps ∷ codes " CYCLES=" ∷ decimal cycles ∷ codes "\n" ∷ [])

-- the row of a routine that is left, or that the run ended in, after so many steps and cycles of the run
abbrev pub spent_row : List ℕ → Assembled → ℕ → ℕ → ℕ → Visit → List ℕ
spent_row word program steps cycles depth visit =
    routine_text word program.names depth visit.begin ++ spent_text (steps - visit.steps) (cycles - visit.cycles)

-- whether a stack pointer leaves a routine; the end of a run leaves all of them
abbrev pub is_within : Option ℕ → Visit → Bool
is_within None visit = false
is_within (Some s) visit = nat_lt s visit.s

abbrev pub word_of : Option ℕ → List ℕ
word_of None = codes "OPEN "
word_of (Some s) = codes "BACK "

-- for nested routines, from a depth on, the rows of those that are left, the innermost first
unfoldable pub left_rows : Option ℕ → Assembled → ℕ → ℕ → ℕ → List Visit → List ℕ
left_rows s program steps cycles depth [] = []
left_rows s program steps cycles depth (visit ∷ inner) =
    left_rows s program steps cycles (depth + 1) inner
    ++ (if is_within s visit then [] else spent_row (word_of s) program steps cycles depth visit)

-- the routines that are entered after so many steps, and those with what the next step enters
abbrev pub visits : (ℕ → World) → ℕ → List Visit
visits worlds n = map (visit_of worlds) (entered worlds n)

abbrev pub visits_called : (ℕ → World) → ℕ → List Visit
visits_called worlds n = map (visit_of worlds) (with_call n (worlds n) (entered worlds n))

-- the row of what a step enters
abbrev pub call_row : Assembled → (ℕ → World) → ℕ → List ℕ
call_row program worlds n =
    if is_call (worlds n) then entered_row program (length (entered worlds n)) (visit_of worlds (entry_at n (worlds n))) else []

-- the rows of what it leaves
abbrev pub back_rows : Assembled → (ℕ → World) → ℕ → List ℕ
back_rows program worlds n =
    left_rows (Some (worlds (suc n)).registers.s) program (suc n) (worlds (suc n)).cycles 0 (visits_called worlds n)

-- the rows of so many first steps
unfoldable pub call_rows : Assembled → (ℕ → World) → ℕ → List ℕ
call_rows program worlds zero = []
call_rows program worlds (suc n) = call_rows program worlds n ++ (call_row program worlds n ++ back_rows program worlds n)

-- all of a run: the rows of its steps, those of the routines that it ended in, and its cause line
abbrev pub call_tree : Assembled → (ℕ → World) → End → List ℕ
call_tree program worlds end =
    call_rows program worlds end.steps
    ++ (left_rows None program end.steps end.world.cycles 0 (visits worlds end.steps) ++ cause_line end.cause)

-- the tree of a finished run
abbrev pub IsCallTreeOf : Finished → List ℕ → Type 0
IsCallTreeOf run output = output ≡ call_tree run.program (worlds_of run) (end_of run)
