-- The rows of a run's steps. This project's profile.
use Rattle.std.specs.Prelude.{◌≡◌, ℕ, zero, suc, ◌+◌, ◌-◌, ◌==◌, min, List, [], ◌++◌, if◌then◌else◌}
use Rattle.a2_services.specs.World.{World}
use Rattle.a2_machine.specs.declared.causes.Cause.{Cause}
use Rattle.a2_machine.specs.declared.causes.Cause.TheVariants.{Limit}
use Rattle.a2_machine.specs.Meaning.{Code, End, IsEnd}
use Rattle.a2_machine.specs.Output.{cause_line}
use Rattle.a2_timed_keys.specs.Finished.{Finished}
use Rattle.a2_timed_keys.specs.Rerun.{end_of}
use Rattle.a2_film.specs.Changes.{Course, course_of, course_in, change_at}
use Rattle.a2_film.specs.Rows.{row_text}

-- the rows of so many steps of a run, after the first so many
abbrev pub rows : Course → ℕ → ℕ → List ℕ
rows course from zero = []
rows course from (suc n) = row_text (change_at course from) ++ rows course (suc from) n

-- the rows of a part of a run, and the cause with which it ends
pub record Part : Type 0 where
  pub rows : List ℕ
  pub cause : Cause

-- the rows, and the cause line
abbrev pub lines_of : Part → List ℕ
lines_of part = part.rows ++ cause_line part.cause

-- the part is a run with a limit
pub record IsLimited (code : Code) (start : World) (limit : ℕ) (part : Part) : Type 0 where
  pub end : End
  pub is_end : IsEnd code start limit end
  pub part_is : part ≡ record { rows = rows (course_of code start) 0 end.steps; cause = end.cause }

-- how many steps a part of a finished run has, which begins after so many steps and has at most so many
abbrev pub steps_in : Finished → ℕ → ℕ → ℕ
steps_in f from most = min most ((end_of f).steps - from)

-- that part: its cause is that of the run's end if it comes to it, and otherwise that of a limit
abbrev pub part_of : Finished → ℕ → ℕ → Part
part_of f from most =
    let n = steps_in f from most in
    record { rows = rows (course_in f) from n; cause = if from + n == (end_of f).steps then f.cause else Limit }
