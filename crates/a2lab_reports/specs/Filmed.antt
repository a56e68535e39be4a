-- A film that is written to a file. This project's profile.
use Rattle.std.specs.Prelude.{◌≡◌, ℕ, List, IfSome, Result, Ok, Err}
use Rattle.a2_host.specs.Desks.{Files, Saves}
use Rattle.a2_machine.specs.declared.causes.Cause.{Cause}
use Rattle.a2_run.specs.declared.fault.RunFault.{RunFault}
use Rattle.a2_timed_keys.specs.Finished.{Finished}
use Rattle.a2_film.specs.declared.chapters.Chapter.{Chapter}
use Rattle.a2_film.specs.declared.film.Window.{Window}
use Rattle.a2_film.specs.Film.{IsFilmOf}

-- If the contents of the files are known: the file of this name is the film of a window of a finished run, and no other file changed.
-- If the call failed no file changed.
abbrev pub FilmsInto : List ℕ → List ℕ → List Chapter → Finished → Window → List ℕ → Files → Files → Result Cause RunFault → Type 0
FilmsInto source title chapters f window page old new (Ok cause) =
    IfSome old (λ _. (output : List ℕ) × IsFilmOf source title chapters f window cause output × Saves page output old new)
FilmsInto source title chapters f window page old new (Err _) = new ≡ old
