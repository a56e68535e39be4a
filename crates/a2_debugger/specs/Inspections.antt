-- The effect of the debugger's lines. This project's profile.
use Rattle.std.specs.Prelude.{◌≡◌, ◌⊎◌, ℕ, ◌+◌, ◌-◌, ◌<◌, ◌≤◌, min, not, nat_lt, nat_le, List, [], ◌∷◌, ◌++◌, ◌==◌, ◌||◌, ◌&&◌, length, map, take, filter, slice_get, Bool, true, false, Option, Some, None, if◌then◌else◌}
use Rattle.a2_text.specs.Bytes.{capital}
use Rattle.a2_text.specs.Words.{words, first_word, after_first_word}
use Rattle.a2_services.specs.World.{World}
use Rattle.a2_asm.specs.Assembled.{Assembled}
use Rattle.a2_run.specs.Started.{IsStarted}
use Rattle.a2_history.specs.declared.Halt.{Halt}
use Rattle.a2_routines.specs.declared.routines.Entry.{Entry}
use Rattle.a2_history.specs.Going.{Track, here, Advances, IsNewest, with_typed, with_changed}
use Rattle.a2_history.specs.Courses.{with_change}
use Rattle.a2_history.specs.declared.actions.Change.{Change}
use Rattle.a2_routines.specs.Routines.{is_call}
use Rattle.a2_history.specs.Routines.{entered, IsNewestOutside}
use Rattle.a2_debugger.specs.Words.{IsVerb}
use Rattle.a2_debugger.specs.Sayings.{IsCommandOf, IsNoCommand}
use Rattle.a2_debugger.specs.Stops.{is_stop, is_changed_in, is_same_watch}
use Rattle.a2_debugger.specs.declared.inspector_command.InspectorCommand.{InspectorCommand}
use Rattle.a2_debugger.specs.declared.inspector_command.Outcome.{Outcome}
use Rattle.a2_debugger.specs.declared.inspector_command.Outcome.TheVariants.{Typed, KeysFull, Memory, Changed}
use Rattle.a2_debugger.specs.declared.inspector_command.InspectorCommand.TheVariants.{Step, Next, Out, Back, GoBackOver, Go, Until, GoBack, Watch, Who, Break, Clear, ClearAt, Unwatch, TypeKeys, Set}
use Rattle.a2_debugger.specs.Settings.{with_setting}
use Rattle.a2_debugger.specs.declared.settings.Setting.{Setting}
use Rattle.a2_debugger.specs.declared.stops.Break.{Break as Breakpoint}
use Rattle.a2_debugger.specs.declared.stops.Watch.{Watch as Watched}
use Rattle.a2_debugger.specs.declared.verbs.Verb.{Verb}

pub record Inspection : Type 0 where
  pub program : Assembled
  -- the run and the current position in it
  pub track : Track
  -- the breakpoints and what is watched, in the order in which they were set
  pub breaks : List Breakpoint
  pub watches : List Watched
  -- the line that an empty line repeats
  pub last : List ℕ
  -- the greatest number of steps that a command executes while it looks for a place
  pub most : ℕ

-- the world before a step of an instruction or service at this address
abbrev pub is_at : ℕ → World → Bool
is_at address world = world.registers.pc == address

-- a world in which the stack pointer is at least this value, or that is a stop
abbrev pub is_left : ℕ → (World → Bool) → World → Bool
is_left s stop world = nat_le s world.registers.s || stop world

-- steps were executed up to the first world that is seen or stuck, or up to this many steps
pub record GoesOn (seen : World → Bool) (most : ℕ) (old new : Track) : Type 0 where
  pub course : new.course ≡ old.course
  pub halt : Halt
  pub advances : Advances seen old.course old.position (min (old.position + most) 100_000_000) new.position halt

-- the run is at the position that was found, or where it was if none was found
abbrev pub moved_to : Option ℕ → Track → Track
moved_to None track = track
moved_to (Some position) track = record track { position = position }

-- the run is at the latest earlier position where something is seen, or where it was if there is none
pub record GoesBack (seen : World → Bool) (old new : Track) : Type 0 where
  pub found : Option ℕ
  pub newest : IsNewest seen old.course 0 old.position found
  pub turned : new ≡ moved_to found old

-- keys were typed at a position
abbrev pub with_keys_typed : List ℕ → Track → Track
with_keys_typed keys track = record track { course = with_typed track.position keys track.course }

-- the number of keys waiting at a position, with these added
abbrev pub waiting_with : List ℕ → Track → ℕ
waiting_with keys track = length (here track).memory.devices.keys + length keys

-- the outcome of typing keys: they are waiting; or more than 4,096 would be, or memory ran out, and nothing changed
abbrev pub TypesBy : Outcome → List ℕ → Track → Track → Type 0
TypesBy Typed keys old new = (waiting_with keys old ≤ 4096) × (new ≡ with_keys_typed keys old)
TypesBy KeysFull keys old new = (4096 < waiting_with keys old) × (new ≡ old)
TypesBy Memory keys old new = new ≡ old
TypesBy outcome keys old new = ⊥

abbrev pub Types : List ℕ → Track → Track → Type 0
Types keys old new = (outcome : Outcome) × TypesBy outcome keys old new

-- a change was made at the position, and what was done by hand later is forgotten
abbrev pub with_change_made : Change → Track → Track
with_change_made change track = record track { course = with_changed track.position change track.course }

-- the outcome of a change: it was made; or memory ran out, and nothing changed
abbrev pub ChangesBy : Outcome → Change → Track → Track → Type 0
ChangesBy (Changed farthest) change old new = new ≡ with_change_made change old
ChangesBy Memory change old new = new ≡ old
ChangesBy outcome change old new = ⊥

-- the outcome of setting something: that of a change that sets it
abbrev pub SetsBy : Outcome → Setting → Track → Track → Type 0
SetsBy outcome setting old new =
    (change : Change) × (with_change change (here old) ≡ with_setting setting (here old)) × ChangesBy outcome change old new

abbrev pub Sets : Setting → Track → Track → Type 0
Sets setting old new = (outcome : Outcome) × SetsBy outcome setting old new

-- if the next instruction is a JSR, steps were executed until its routine returned or up to a stop; otherwise one step was
-- executed
abbrev pub GoesOver : Bool → ℕ → (World → Bool) → ℕ → Track → Track → Type 0
GoesOver true s stop most old new = GoesOn (is_left s stop) most old new
GoesOver false s stop most old new = GoesOn (λ world. false) 1 old new

-- steps were executed until this routine returned or up to a stop; if there is no routine, nothing changed
abbrev pub GoesOut : Option Entry → (World → Bool) → ℕ → Track → Track → Type 0
GoesOut None stop most old new = new ≡ old
GoesOut (Some entry) stop most old new = GoesOn (is_left entry.s stop) most old new

-- the run is at the latest earlier position where no more routines are entered than now, or where it was if there is none
abbrev pub GoesBackOver : Track → Track → Type 0
GoesBackOver old new = (found : Option ℕ)
    × IsNewestOutside old.course (length (entered old.course old.position)) old.position found × (new ≡ moved_to found old)

-- the routine that was entered last
abbrev pub innermost : List Entry → Option Entry
innermost entries = slice_get entries (length entries - 1)

-- all breakpoints except the one at an address
abbrev pub others : ℕ → List Breakpoint → List Breakpoint
others address breaks = filter (λ b. not (b.address == address)) breaks

-- the breakpoint replaces the one at its address or is added; there are at most 64
abbrev pub with_break : Breakpoint → List Breakpoint → List Breakpoint
with_break b breaks = if nat_lt (length (others b.address breaks)) 64 then others b.address breaks ++ b ∷ [] else others b.address breaks

-- something to watch is added, each only once; there are at most 8
abbrev pub without_watch : Watched → List Watched → List Watched
without_watch watch watches = filter (λ w. not (is_same_watch watch w)) watches

abbrev pub with_watch : Watched → List Watched → List Watched
with_watch watch watches = if nat_lt (length (without_watch watch watches)) 8 then without_watch watch watches ++ watch ∷ [] else without_watch watch watches

-- the effect of a command on the run, with these stops
abbrev pub Moves : InspectorCommand → (World → Bool) → ℕ → Track → Track → Type 0
Moves (Step n) stop most old new = GoesOn (λ world. false) n old new
Moves Next stop most old new = GoesOver (is_call (here old)) (here old).registers.s stop most old new
-- if memory runs out, the position is unchanged
Moves Out stop most old new = GoesOut (innermost (entered old.course old.position)) stop most old new ⊎ (new ≡ old)
Moves (Back n) stop most old new = new ≡ record old { position = old.position - n }
Moves GoBackOver stop most old new = GoesBackOver old new ⊎ (new ≡ old)
Moves Go stop most old new = GoesOn stop most old new
Moves (Until address) stop most old new = GoesOn (is_at address) most old new
Moves GoBack stop most old new = GoesBack stop old new
Moves (Who watch) stop most old new = GoesBack (λ world. is_changed_in (here old) world watch) old new
Moves (TypeKeys keys) stop most old new = Types keys old new
Moves (Set setting) stop most old new = Sets setting old new
Moves order stop most old new = new ≡ old

-- the effect of a command on the breakpoints and on what is watched
abbrev pub breaks_by : InspectorCommand → List Breakpoint → List Breakpoint
breaks_by (Break b) breaks = with_break b breaks
breaks_by Clear breaks = []
breaks_by (ClearAt address) breaks = others address breaks
breaks_by order breaks = breaks

abbrev pub watches_by : InspectorCommand → List Watched → List Watched
watches_by (Watch watch) watches = with_watch watch watches
watches_by (Unwatch watch) watches = without_watch watch watches
watches_by Clear watches = []
watches_by order watches = watches

-- a command was executed
pub record IsDone (order : InspectorCommand) (old new : Inspection) : Type 0 where
  pub program : new.program ≡ old.program
  pub moves : Moves order (is_stop old.breaks old.watches (here old.track)) old.most old.track new.track
  pub breaks : new.breaks ≡ breaks_by order old.breaks
  pub watches : new.watches ≡ watches_by order old.watches
  pub last : new.last ≡ old.last
  pub most : new.most ≡ old.most

-- a line that is not blank was executed, or it holds no command and nothing changed
abbrev pub IsLineExecuted : List ℕ → Inspection → Inspection → Type 0
IsLineExecuted line old new =
    let word = map capital (first_word line) in
    (((verb : Verb) → IsVerb word verb → ⊥) × (new ≡ old))
    ⊎ ((verb : Verb) × IsVerb word verb × IsNoCommand old.program verb (after_first_word line) × (new ≡ old))
    ⊎ ((verb : Verb) × IsVerb word verb × ((order : InspectorCommand) × IsCommandOf old.program verb (after_first_word line) order × IsDone order old new))

-- the beginning of a line, which is the whole line unless it is too long
abbrev pub front : List ℕ → List ℕ
front line = take (min 255 (length line)) line

-- the line to execute: this one, or the last one again if this one is blank
abbrev pub line_to_run : List ℕ → List ℕ → List ℕ
line_to_run line last = front (if length (words line) == 0 then last else line)

-- the effect of a line, which is stored as the last one
abbrev pub IsAnswered : List ℕ → Inspection → Inspection → Type 0
IsAnswered line old new =
    (obeyed : Inspection) × IsLineExecuted (line_to_run line old.last) old obeyed × (new ≡ record obeyed { last = line_to_run line old.last })

-- a source's run at its start
pub record IsBegun (free : Bool) (keys : List ℕ) (limit : ℕ) (assembled : Assembled) (new : Inspection) : Type 0 where
  pub program : new.program ≡ assembled
  pub position : new.track.position ≡ 0
  pub started : IsStarted free assembled keys new.track.course.origin
  pub log : new.track.course.log ≡ []
  pub breaks : new.breaks ≡ []
  pub watches : new.watches ≡ []
  pub last : new.last ≡ []
  pub most : new.most ≡ limit
