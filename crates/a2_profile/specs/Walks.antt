-- What a walk through a run knows of its routines. No public clause cites this file.
use Rattle.std.specs.Prelude.{◌≡◌, ℕ, zero, suc, ◌+◌, ◌-◌, ◌*◌, ◌<◌, ◌≤◌, ◌==◌, ◌&&◌, nat_le, nat_lt, not, Bool, List, [], ◌∷◌, ◌++◌, length, take, slice_index_or, slice_set, if◌then◌else◌}
use Rattle.std.specs.List.{All, AllPairs, count_by}
use Rattle.a2_burst.specs.declared.observer.StepView.{StepView}
use Rattle.a2_burst.specs.Shown.{Shown}
use Rattle.a2_profile.specs.declared.walk.Frame.{Frame}
use Rattle.a2_profile.specs.declared.walk.Opening.{Opening}
use Rattle.a2_profile.specs.declared.walk.Totals.{Totals}
use Rattle.a2_profile.specs.Seeing.{is_small}
use Rattle.a2_profile.specs.Totals.{itself, totals_at, own_steps_in, own_cycles_in}

-- the routines that are entered and not left, what is counted of each, since when it is entered, and the steps and cycles so far
pub record Walk : Type 0 where
  pub frames : List Frame
  pub totals : List Totals
  pub openings : List Opening
  pub steps : ℕ
  pub cycles : ℕ

-- the frame of the program itself, which no stack pointer leaves
abbrev pub base : Frame
base = record { routine = itself; s = 256 }

abbrev pub closed : Opening
closed = record { depth = 0; steps = 0; cycles = 0 }

abbrev pub opening_at : List Opening → ℕ → Opening
opening_at openings routine = slice_index_or openings routine closed

abbrev pub frame_at : List Frame → ℕ → Frame
frame_at frames index = slice_index_or frames index base

-- the routine of the last frame
abbrev pub inner : List Frame → ℕ
inner frames = (frame_at frames (length frames - 1)).routine

abbrev pub depth_of : ℕ → List Frame → ℕ
depth_of routine frames = count_by (λ f. f.routine == routine) frames

-- a count with what was added since a routine was entered, if it is
abbrev pub with_open : ℕ → ℕ → ℕ → ℕ → ℕ
with_open now depth done since = done + (if depth == 0 then 0 else now - since)

-- the totals of a routine so far
abbrev pub seen : ℕ → ℕ → Opening → Totals → Totals
seen steps cycles opening t = record t {
  all_steps = with_open steps opening.depth t.all_steps opening.steps;
  all_cycles = with_open cycles opening.depth t.all_cycles opening.cycles;
}

abbrev pub seen_at : Walk → ℕ → Totals
seen_at walk routine = seen walk.steps walk.cycles (opening_at walk.openings routine) (totals_at walk.totals routine)

-- the greatest limit
abbrev pub most_steps : ℕ
most_steps = 4294967295

-- a stack pointer is below that of each frame
abbrev pub IsLow : ℕ → List Frame → Type 0
IsLow s frames = All (λ f. s < f.s) frames

pub record IsWithin (walk : Walk) (opening : Opening) (t : Totals) : Type 0 where
  pub times : t.times ≤ walk.steps
  pub since_steps : opening.steps ≤ walk.steps
  pub since_cycles : opening.cycles ≤ walk.cycles
  pub steps : t.steps ≤ walk.steps
  pub cycles : t.cycles ≤ walk.cycles
  pub all_steps : with_open walk.steps opening.depth t.all_steps opening.steps ≤ walk.steps
  pub all_cycles : with_open walk.cycles opening.depth t.all_cycles opening.cycles ≤ walk.cycles

pub record IsWalk (walk : Walk) : Type 0 where
  pub totals_size : length walk.totals ≡ 65537
  pub openings_size : length walk.openings ≡ 65537
  pub fit : All (λ f. f.routine < 65537) walk.frames
  -- a routine that was entered later has a lower stack pointer
  pub high : All (λ f. f.s ≤ 256) walk.frames
  pub falls : AllPairs (λ f g. g.s < f.s) walk.frames
  pub depths : (r : ℕ) → r < 65537 → (opening_at walk.openings r).depth ≡ depth_of r walk.frames
  pub within : (r : ℕ) → r < 65537 → IsWithin walk (opening_at walk.openings r) (totals_at walk.totals r)
  pub steps_are : own_steps_in walk.totals ≡ walk.steps
  pub cycles_are : own_cycles_in walk.totals ≡ walk.cycles
  pub few : walk.steps ≤ most_steps
  pub cheap : walk.cycles ≤ most_steps * walk.steps

-- a step of so many cycles was executed in the innermost routine
abbrev pub counted : ℕ → Walk → Walk
counted cost walk =
    let i = inner walk.frames in
    let t = totals_at walk.totals i in record walk {
      totals = slice_set walk.totals i (record t { steps = t.steps + 1; cycles = t.cycles + cost });
      steps = walk.steps + 1;
      cycles = walk.cycles + cost;
    }

-- a JSR went to a routine
abbrev pub noted : ℕ → Walk → Walk
noted routine walk =
    let t = totals_at walk.totals routine in
    record walk { totals = slice_set walk.totals routine (record t { times = t.times + 1 }) }

-- the routine is entered
abbrev pub opened : ℕ → ℕ → Walk → Walk
opened routine s walk =
    let o = opening_at walk.openings routine in record walk {
      frames = walk.frames ++ record { routine = routine; s = s } ∷ [];
      openings = slice_set walk.openings routine (record {
        depth = o.depth + 1;
        steps = if o.depth == 0 then walk.steps else o.steps;
        cycles = if o.depth == 0 then walk.cycles else o.cycles;
      });
    }

-- the innermost routine is left
abbrev pub left : Walk → Walk
left walk =
    let i = inner walk.frames in
    let o = opening_at walk.openings i in
    let t = totals_at walk.totals i in record walk {
      frames = take (length walk.frames - 1) walk.frames;
      totals = slice_set walk.totals i (record t {
        all_steps = t.all_steps + (if o.depth == 1 then walk.steps - o.steps else 0);
        all_cycles = t.all_cycles + (if o.depth == 1 then walk.cycles - o.cycles else 0);
      });
      openings = slice_set walk.openings i (record o { depth = o.depth - 1 });
    }

-- a stack pointer is not below that before the innermost routine, if there is one
abbrev pub leaves : ℕ → Walk → Bool
leaves s walk = not (length walk.frames == 0) && nat_le (frame_at walk.frames (length walk.frames - 1)).s s

-- all routines are left that it is not below
abbrev pub left_many : ℕ → ℕ → Walk → Walk
left_many s zero walk = walk
left_many s (suc n) walk = if leaves s walk then left_many s n (left walk) else walk

abbrev pub left_below : ℕ → Walk → Walk
left_below s walk = left_many s (length walk.frames) walk

-- a JSR before which the stack pointer was this enters a routine
abbrev pub entered : ℕ → ℕ → Walk → Walk
entered routine s walk = if leaves s walk then walk else opened routine s (noted routine walk)

abbrev pub has_room : Walk → Bool
has_room walk = nat_lt walk.steps most_steps && not (length walk.frames == 0)

-- a step that is seen is counted, with what it enters and leaves
abbrev pub with_call : StepView → Walk → Walk
with_call look walk = if look.opcode == 0x20 then entered look.next_pc look.s walk else walk

abbrev pub with_made : StepView → Walk → Walk
with_made look walk = left_below look.next_s (with_call look (counted look.cycles walk))

-- what no observer sees leaves no totals
abbrev pub lost : Walk
lost = record { frames = []; totals = []; openings = []; steps = 0; cycles = 0 }

-- the walk after a step that is seen: so if there are totals, each step was seen
abbrev pub with_look : Walk → StepView → Walk
with_look walk look =
    if is_small look && (length walk.totals == 65537) then (if has_room walk then with_made look walk else walk) else lost

-- and after what is shown of a step
abbrev pub shown_to : Walk → Shown → Walk
shown_to walk shown = with_look walk shown.look

-- the same is seen of all routines
pub record SeesAlike (old new : Walk) : Type 0 where
  pub seen_are : (r : ℕ) → r < 65537 → seen_at new r ≡ seen_at old r
  pub steps : new.steps ≡ old.steps
  pub cycles : new.cycles ≡ old.cycles
