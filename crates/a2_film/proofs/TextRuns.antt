-- Films of machines and of finished runs.
use Rattle.std.specs.Prelude.{◌≡◌, ℕ, ◌<◌, Bool, List, ◌++◌, Result, Ok, Err, refl, min}
use Rattle.std.specs.List.{flat_map}
use Rattle.std.proofs.Common.{sym, ap, ◌∙◌, subst, arith}
use Rattle.a2_stream.specs.Stream.{Taker, Sends, Breaks}
use Rattle.a2_stream.proofs.Joined.{Sends-then, Breaks-then, Breaks-more}
use Rattle.a2_text.specs.Lines.{lines}
use Rattle.a2_bus.specs.Devices.{Devices}
use Rattle.a2_bus.proofs.Viewing.{devices_seen}
use Rattle.a2_asm.specs.Assembled.{Assembled}
use Rattle.a2_services.specs.World.{World}
use Rattle.a2_machine.specs.declared.causes.Cause.{Cause}
use Rattle.a2_machine.specs.ByteRun.{bytes}
use Rattle.a2_machine.specs.State.{Device, world_of_state, code_of}
use Rattle.a2_run.specs.Answers.{Answers}
use Rattle.a2_run.specs.declared.fault.RunFault.{RunFault}
use Rattle.a2_run.specs.declared.fault.RunFault.TheVariants.{Source, Script, Read, Write, Memory}
use Rattle.a2_run.specs.Started.{guard_of_run}
use Rattle.a2_timed_keys.specs.Finished.{Finished}
use Rattle.a2_timed_keys.specs.Rerun.{Rerunning, worlds_of, end_of}
use Rattle.a2_film.specs.Page as page
use Rattle.a2_film.specs.declared.chapters.Chapter.{Chapter}
use Rattle.a2_film.specs.declared.film.Window.{Window}
use Rattle.a2_film.specs.Rows.{opening, chapter_line, program_lines, start_lines}
use Rattle.a2_film.specs.Runs.{Part, lines_of, part_of}
use Rattle.a2_film.specs.Film.{film_head, IsFilmFrom, IsFilmOf}
use Rattle.a2_film.specs.Filmed.{IsFilm, rest_of}
use Rattle.a2_film.proofs.Windows.{limited}

-- a film is written: its text before the rows from a machine, and the lines of a part
module _ (text title : List ℕ) (chapters : List Chapter) (free : Bool) (program : Assembled) (steps : ℕ) (start : World) (part : Part)
    (device : Device) (texts : List (List ℕ)) (cut : texts ≡ lines text) (made : device.state.steps ≡ steps)
    (there : world_of_state device.state ≡ start) where
  abbrev IsThis : Cause → List ℕ → Type 0
  IsThis cause output = IsFilm text title chapters free program steps start part cause output

  -- the text before the rows, as it is written
  abbrev written : List ℕ
  written =
      page.head ++ (opening title free device.state.bus.devices.keys
      ++ (flat_map chapter_line chapters ++ (program_lines program texts
      ++ start_lines device.state.steps (world_of_state device.state))))

  keys_are : device.state.bus.devices.keys ≡ start.memory.devices.keys
  keys_are = sym (ap (λ (d : Devices). d.keys) (devices_seen device.state.bus)) ∙ ap (λ (w : World). w.memory.devices.keys) there

  written_is : written ≡ page.head ++ film_head title chapters text free program steps start
  written_is = λ i. page.head ++ (opening title free (keys_are i) ++ (flat_map chapter_line chapters
      ++ (program_lines program (cut i) ++ start_lines (made i) (there i))))

  abbrev whole : List ℕ
  whole = written ++ (lines_of part ++ page.tail)

  whole-is : (cause : Cause) → cause ≡ part.cause → IsThis cause whole
  whole-is cause is = record { cause_is = is; output_is = ap (λ (h : List ℕ). h ++ (lines_of part ++ page.tail)) written_is }

  pub film-done : (a b c : Taker) (cause : Cause) → cause ≡ part.cause → Sends a b written → Sends b c (lines_of part ++ page.tail)
      → (output : List ℕ) × IsThis cause output × Sends a c output
  film-done a b c cause is first rest = (whole, whole-is cause is, Sends-then a b c written (lines_of part ++ page.tail) first rest)

  pub film-broken : (a b c : Taker) → Sends a b written → Breaks b c (lines_of part ++ page.tail)
      → (cause : Cause) × (output : List ℕ) × IsThis cause output × Breaks a c output
  film-broken a b c first broke =
      (part.cause, whole, whole-is part.cause refl, Breaks-then a b c written (lines_of part ++ page.tail) first broke)

  pub head-broken : (a b : Taker) → Breaks a b written → (cause : Cause) × (output : List ℕ) × IsThis cause output × Breaks a b output
  head-broken a b broke =
      (part.cause, whole, whole-is part.cause refl, Breaks-more a b written (lines_of part ++ page.tail) broke)

-- the answer of one call as that of another
pub film-answers : {T : Type 0} (refuses : RunFault → Type 0) (gives others : T → List ℕ → Type 0) (a b : Taker)
    (r : Result T RunFault)
    → ((value : T) (output : List ℕ) → gives value output → others value output)
    → Answers (λ _. ⊥) gives a b r → Answers refuses others a b r
film-answers refuses gives others a b (Ok value) is (output, given, sent) = (output, is value output given, sent)
film-answers refuses gives others a b (Err Write) is (value, output, given, broke) = (value, output, is value output given, broke)
film-answers refuses gives others a b (Err Read) is none = none
film-answers refuses gives others a b (Err Memory) is none = none
film-answers refuses gives others a b (Err (Source fault)) is none = absurd none.0
film-answers refuses gives others a b (Err (Script fault)) is none = absurd none.0

-- a machine is filmed from its current state, after the guard is set
pub film-from : (text title : List ℕ) (chapters : List Chapter) (free : Bool) (program : Assembled) (old new : Device)
    → new ≡ record old { state = record old.state { guard = guard_of_run free program } } → (limit : ℕ)
    → old.state.steps < 4_294_967_296 → limit < 4_294_967_296 → (cause : Cause) (output : List ℕ)
    → IsFilm text title chapters free program new.state.steps (world_of_state new.state)
    (rest_of (code_of new.state) (world_of_state new.state) new.state.steps limit) cause output
    → IsFilmFrom text title chapters free program (bytes (guard_of_run free program)) old.state.steps (world_of_state old.state) limit
    cause output
film-from text title chapters free program old new set limit few low cause output film =
    let is : IsFilm text title chapters free program old.state.steps (world_of_state old.state)
    (rest_of (bytes (guard_of_run free program)) (world_of_state old.state) old.state.steps limit) cause output
    = subst (λ (d : Device). IsFilm text title chapters free program d.state.steps (world_of_state d.state)
    (rest_of (code_of d.state) (world_of_state d.state) d.state.steps limit) cause output) set film in record {
      part = rest_of (bytes (guard_of_run free program)) (world_of_state old.state) old.state.steps limit;
      is_part = limited (bytes (guard_of_run free program)) (world_of_state old.state) old.state.steps limit (omega (arith, few, low));
      cause_is = is.cause_is;
      output_is = is.output_is;
    }

-- a finished run is filmed
pub film-of : (text title : List ℕ) (chapters : List Chapter) (free : Bool) (program : Assembled) (f : Finished) (window : Window)
    (again : Rerunning) → again ≡ record { run = f; steps = min window.from (end_of f).steps } → free ≡ f.free
    → program ≡ f.program → (cause : Cause) (output : List ℕ)
    → IsFilm text title chapters free program again.steps (worlds_of again.run again.steps) (part_of again.run again.steps window.steps)
    cause output
    → IsFilmOf text title chapters f window cause output
film-of text title chapters free program f window again begun guarded same cause output film =
    let from = min window.from (end_of f).steps in
    let is : IsFilm text title chapters f.free f.program from (worlds_of f from) (part_of f from window.steps) cause output
    = subst (λ (b : Bool). IsFilm text title chapters b f.program from (worlds_of f from) (part_of f from window.steps) cause output) guarded
    (subst (λ (p : Assembled). IsFilm text title chapters free p from (worlds_of f from) (part_of f from window.steps) cause output) same
    (subst (λ (r : Rerunning). IsFilm text title chapters free program r.steps (worlds_of r.run r.steps) (part_of r.run r.steps window.steps)
    cause output) begun film)) in
    record { from = from; from_is = refl; cause_is = is.cause_is; output_is = is.output_is }
