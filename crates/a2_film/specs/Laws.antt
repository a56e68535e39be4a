-- Laws about films.
use Rattle.std.specs.Prelude.{◌≡◌, ◌≢◌, ℕ, ◌+◌, ◌^◌, ◌<◌, ◌≤◌, Bool, List, ◌++◌, IfSome, All}
use Rattle.std.specs.List.{flat_map}
use Rattle.a2_bus.specs.Memory.{ram_byte, ram_end}
use Rattle.a2_asm.specs.Assembled.{Assembled}
use Rattle.a2_services.specs.World.{World}
use Rattle.a2_machine.specs.declared.causes.Cause.{Cause}
use Rattle.a2_machine.specs.Meaning.{End}
use Rattle.a2_run.specs.Meaning.{IsProgramOf, code_of_run, start_of_run}
use Rattle.a2_timed_keys.specs.declared.strokes.Typed.{Typed}
use Rattle.a2_timed_keys.specs.Typed.{keys_at, world_with_keys, IsTypedEnd}
use Rattle.a2_film.specs.declared.chapters.Chapter.{Chapter}
use Rattle.a2_film.specs.Changes.{Course, Store, Change, Frame, frame_at}
use Rattle.a2_film.specs.Film.{film_head}
use Rattle.a2_film.specs.Rows.{row_text}
use Rattle.a2_film.specs.Reader.{rows_of}
use Rattle.a2_film.specs.Runs.{rows, lines_of}

-- a frame shows a world: the same registers, cycles and devices, and the same byte at each address of RAM
pub record Shows (frame : Frame) (world : World) : Type 0 where
  pub registers : frame.registers ≡ world.registers
  pub bytes : (a : ℕ) → a < ram_end → frame.bytes a ≡ ram_byte world.memory a
  pub devices : frame.devices ≡ world.memory.devices
  pub cycles : frame.cycles ≡ world.cycles

-- for any text, keys and limit, and any two numbers whose sum is at most the steps that are executed: the world that the run's
-- meaning gives at the first, with as many of the changes after it as the second says, is the world that the meaning gives at the
-- sum
abbrev pub FramesShowTheRun : Type 0
FramesShowTheRun =
    (text keys : List ℕ) (log : List Typed) (limit : ℕ) (free : Bool) (program : Assembled) (end : End) → IsProgramOf text program
    → IsTypedEnd (code_of_run free program) (start_of_run program keys) log limit end → (from n : ℕ) → from + n ≤ end.steps
    → let course : Course = record { world = world_with_keys (code_of_run free program) (start_of_run program keys) log; typed = keys_at log } in
    Shows (frame_at course from n) (course.world (from + n))

-- no byte is <, the only one that could end a script or begin a tag
abbrev pub HasNoTag : List ℕ → Type 0
HasNoTag text = All (λ c. c ≢ 0x3C) text

-- whatever a text, its title, its chapters and its keys are, the data of its film have none
abbrev pub DataHaveNoTag : Type 0
DataHaveNoTag =
    (text title : List ℕ) (chapters : List Chapter) (free : Bool) (program : Assembled) (steps : ℕ) (start : World) (course : Course)
    (from n : ℕ) (cause : Cause)
    → HasNoTag (film_head title chapters text free program steps start ++ lines_of (record { rows = rows course from n; cause = cause }))

-- the numbers of a change fit their fields
pub record Fits (change : Change) : Type 0 where
  pub pc : change.pc < 0x10000
  pub cycles : change.cycles < 10 ^ 64
  pub a : IfSome change.a (λ n. n < 0x100)
  pub x : IfSome change.x (λ n. n < 0x100)
  pub y : IfSome change.y (λ n. n < 0x100)
  pub s : IfSome change.s (λ n. n < 0x100)
  pub p : IfSome change.p (λ n. n < 0x100)
  pub switches : IfSome change.switches (λ n. n < 16)
  pub keys : change.keys < 10 ^ 64
  pub typed : All (λ (key : ℕ). key < 0x100) change.typed
  pub stores : All (λ (store : Store). (store.0 < 0x10000) × (store.1 < 0x100)) change.stores

-- the rows of changes that fit are read back as these changes
abbrev pub RowsReadBack : Type 0
RowsReadBack = (changes : List Change) → All (λ change. Fits change) changes → rows_of (flat_map row_text changes) ≡ changes
