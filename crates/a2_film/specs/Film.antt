-- What a film holds: the page, and in it a part of a run, with a row for each step. This project's profile.
use Rattle.std.specs.Prelude.{◌≡◌, ℕ, min, Bool, List, ◌++◌}
use Rattle.std.specs.List.{flat_map}
use Rattle.a2_text.specs.Lines.{lines}
use Rattle.a2_asm.specs.Assembled.{Assembled}
use Rattle.a2_services.specs.World.{World}
use Rattle.a2_machine.specs.declared.causes.Cause.{Cause}
use Rattle.a2_machine.specs.Meaning.{Code}
use Rattle.a2_timed_keys.specs.Finished.{Finished}
use Rattle.a2_timed_keys.specs.Rerun.{worlds_of, end_of}
use Rattle.a2_film.specs.Page as page
use Rattle.a2_film.specs.declared.chapters.Chapter.{Chapter}
use Rattle.a2_film.specs.declared.film.Window.{Window}
use Rattle.a2_film.specs.Rows.{opening, chapter_line, program_lines, start_lines}
use Rattle.a2_film.specs.Runs.{Part, lines_of, part_of, IsLimited}

-- what is before the rows of a film that begins in this world, after so many steps of a run
abbrev pub film_head : List ℕ → List Chapter → List ℕ → Bool → Assembled → ℕ → World → List ℕ
film_head title chapters text free program steps start =
    opening title free start.memory.devices.keys
    ++ (flat_map chapter_line chapters ++ (program_lines program (lines text) ++ start_lines steps start))

-- the page of such a film, which shows a part of the run
abbrev pub film_text : List ℕ → List Chapter → List ℕ → Bool → Assembled → ℕ → World → Part → List ℕ
film_text title chapters text free program steps start part =
    (page.head ++ film_head title chapters text free program steps start) ++ (lines_of part ++ page.tail)

-- the film of a run from a world on, of at most so many steps, after so many steps, with the program of a text: the page, and in it
-- a row for each step, by this code
pub record IsFilmFrom (text title : List ℕ) (chapters : List Chapter) (free : Bool) (program : Assembled) (code : Code)
    (steps : ℕ) (start : World) (limit : ℕ) (cause : Cause) (output : List ℕ) : Type 0 where
  pub part : Part
  pub is_part : IsLimited code start limit part
  pub cause_is : cause ≡ part.cause
  pub output_is : output ≡ film_text title chapters text free program steps start part

-- the film of a window of a finished run, with the lines of a text. It begins after as many steps as the window says, or where the run
-- ends if it has fewer.
pub record IsFilmOf (text title : List ℕ) (chapters : List Chapter) (f : Finished) (window : Window) (cause : Cause) (output : List ℕ)
    : Type 0 where
  pub from : ℕ
  pub from_is : from ≡ min window.from (end_of f).steps
  pub cause_is : cause ≡ (part_of f from window.steps).cause
  pub output_is : output
      ≡ film_text title chapters text f.free f.program from (worlds_of f from) (part_of f from window.steps)
