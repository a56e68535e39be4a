-- The steps of a run that is walked, one after another.
use Rattle.std.specs.Prelude.{◌≡◌, ℕ, zero, suc, ◌+◌, ◌-◌, ◌^◌, ◌<◌, ◌≤◌, ◌==◌, ◌&&◌, ◌||◌, not, nat_lt, Bool, true, false, List, [], ◌∷◌, ◌++◌, map, filter, length, slice_index_or, if◌then◌else◌, Option, Some, None, refl}
use Rattle.std.specs.List.{All, list_any}
use Rattle.std.specs.Option.{unwrap_or}
use Rattle.std.proofs.Common.{sym, ap, ap₂, ◌∙◌, subst, arith}
use Rattle.std.proofs.lemmas.Bool.{and_parts, lt-ltb, ltb-true}
use Rattle.std.proofs.lemmas.Bool.Decides.{nat_tests}
use Rattle.std.proofs.lemmas.List.{length-map, get_or-map}
use Rattle.std.proofs.lemmas.List.Elements.{filter_passes}
use Rattle.std.proofs.lemmas.List.Sums.{sum_by-cons}
use Rattle.a2_bus.specs.Memory.{peek}
use Rattle.a2_burst.specs.declared.observer.StepView.{StepView}
use Rattle.a2_services.specs.World.{World}
use Rattle.a2_machine.specs.Looks.{observer_after}
use Rattle.a2_timed_keys.specs.Finished.{Finished, IsFinished}
use Rattle.a2_timed_keys.specs.Rerun.{worlds_of, end_of, shown_in}
use Rattle.a2_routines.specs.declared.routines.Entry.{Entry}
use Rattle.a2_routines.specs.Routines.{is_jsr, is_call, entry_at, begin_of, is_within, with_call, entered}
use Rattle.a2_routines.proofs.Along.{map-filter, map-push}
use Rattle.a2_profile.specs.declared.walk.Frame.{Frame}
use Rattle.a2_profile.specs.declared.walk.Totals.{Totals}
use Rattle.a2_profile.specs.Run.{cost}
use Rattle.a2_profile.specs.Totals.{itself, nothing, totals_at, own_steps_in, own_cycles_in}
use Rattle.a2_profile.specs.Routines.{around, is_in, is_own, is_entry, totals_of, IsRoutineProfile}
use Rattle.a2_profile.specs.Seeing.{is_small}
use Rattle.a2_profile.specs.Walks.{Walk, IsWalk, IsLow, most_steps, base, inner, depth_of, seen_at, counted, noted, opened, left_below, has_room, with_made, lost, shown_to, SeesAlike}
use Rattle.a2_profile.specs.Walks as walks
use Rattle.a2_profile.proofs.Going.{GoesLater, goes-later}
use Rattle.a2_profile.proofs.WalkLaws.{with_step, with_entry, totals-alike, counted-walk, counted-seen, counted-times, noted-walk, noted-seen, opened-walk, seen-opened, stays-low, below-walk, below-alike, below-frames}

-- The frames of a run

abbrev pub frame_of : (ℕ → World) → Entry → Frame
frame_of worlds entry = record { routine = begin_of worlds entry; s = entry.s }

abbrev pub frames_of : (ℕ → World) → ℕ → List Frame
frames_of worlds n = base ∷ map (frame_of worlds) (entered worlds n)

-- the entries within are above the stack pointer
pub entered-within : (worlds : ℕ → World) (n : ℕ) → All (λ (e : Entry). is_within (worlds n) e ≡ true) (entered worlds n)
unfolding entered
entered-within worlds zero = λ k d low. absurd (omega (arith, low))
entered-within worlds (suc n) = filter_passes (is_within (worlds (suc n))) (with_call n (worlds n) (entered worlds n))

pub frames-low : (worlds : ℕ → World) (n s : ℕ) (frames : List Frame) → frames ≡ frames_of worlds n → s ≡ (worlds n).registers.s → s < 256
    → IsLow s frames
frames-low worlds n s frames is at few = subst (IsLow s) (sym is) low
  where
    here : Frame
    here = base

    low : (k : ℕ) (d : Frame) → k < length (frames_of worlds n) → s < (slice_index_or (frames_of worlds n) k d).s
    low zero d lt = omega (arith, few)
    low (suc k) d lt =
        let count = length-map (entered worlds n) (frame_of worlds) in
        let within : k < length (entered worlds n) = omega (arith, lt, count) in
        let e : Entry = record { position = 0; call = 0; s = 0 } in
        let same : (slice_index_or (map (frame_of worlds) (entered worlds n)) k d).s ≡ (slice_index_or (entered worlds n) k e).s
        = ap (λ (f : Frame). f.s) (get_or-map (frame_of worlds) (entered worlds n) k e d within) in
        omega (arith, same, ltb-true (worlds n).registers.s (slice_index_or (entered worlds n) k e).s (entered-within worlds n k e within), at)

-- one more step
pub frames-next : (worlds : ℕ → World) (n : ℕ) (old mid new : List Frame) (calls : Bool) (routine s now : ℕ) → old ≡ frames_of worlds n
    → mid ≡ (if calls then old ++ record { routine = routine; s = s } ∷ [] else old) → calls ≡ is_call (worlds n)
    → routine ≡ (worlds (suc n)).registers.pc → s ≡ (worlds n).registers.s → now ≡ (worlds (suc n)).registers.s → now < 256
    → new ≡ filter (λ f. nat_lt now f.s) mid → new ≡ frames_of worlds (suc n)
unfolding entered
frames-next worlds n old mid new calls routine s now is_old is_mid is_calls is_routine is_s is_now few is_new =
    is_new ∙ ap (filter (λ f. nat_lt now f.s)) (is_mid ∙ ap₂ (λ (b : Bool) (l : List Frame). if b then l ++ record { routine = routine; s = s } ∷ [] else l) is_calls is_old
    ∙ ap₂ (λ (r t : ℕ). if is_call (worlds n) then frames_of worlds n ++ record { routine = r; s = t } ∷ [] else frames_of worlds n) is_routine is_s
    ∙ called (is_call (worlds n)))
    ∙ ap (λ (b : Bool). if b then base ∷ rest else rest) (lt-ltb now 256 few)
    ∙ ap (λ (l : List Frame). base ∷ l) (map-filter (frame_of worlds) (is_within (worlds (suc n))) (λ f. nat_lt now f.s) alike (with_call n (worlds n) (entered worlds n)))
  where
    rest : List Frame
    rest = filter (λ f. nat_lt now f.s) (map (frame_of worlds) (with_call n (worlds n) (entered worlds n)))

    alike : (e : Entry) → nat_lt now e.s ≡ is_within (worlds (suc n)) e
    alike e = ap (λ (k : ℕ). nat_lt k e.s) is_now

    called : (b : Bool) → (if b then frames_of worlds n ++ record { routine = (worlds (suc n)).registers.pc; s = (worlds n).registers.s } ∷ [] else frames_of worlds n)
        ≡ base ∷ map (frame_of worlds) (if b then entered worlds n ++ entry_at n (worlds n) ∷ [] else entered worlds n)
    called true = ap (λ (l : List Frame). base ∷ l) (sym (map-push (frame_of worlds) (entered worlds n) (entry_at n (worlds n))))
    called false = refl

-- What is counted of them

routines-of : (worlds : ℕ → World) (n : ℕ) → map (λ (f : Frame). f.routine) (frames_of worlds n) ≡ around worlds n
routines-of worlds n = ap (λ (l : List ℕ). itself ∷ l) (go (entered worlds n))
  where
    go : (es : List Entry) → map (λ (f : Frame). f.routine) (map (frame_of worlds) es) ≡ map (begin_of worlds) es
    go [] = refl
    go (e ∷ es) = ap (λ (l : List ℕ). begin_of worlds e ∷ l) (go es)

own-is : (worlds : ℕ → World) (n r : ℕ) → (inner (frames_of worlds n) == r) ≡ is_own worlds r n
own-is worlds n r =
    ap (λ (k : ℕ). k == r) (sym (get_or-map (λ (f : Frame). f.routine) (frames_of worlds n) (length (frames_of worlds n) - 1) base 0 (omega arith))
    ∙ ap₂ (λ (l : List ℕ) (k : ℕ). slice_index_or l (k - 1) 0) (routines-of worlds n)
    (sym (length-map (frames_of worlds n) (λ (f : Frame). f.routine)) ∙ ap length (routines-of worlds n)))

any-count : (r : ℕ) (frames : List Frame) → not (depth_of r frames == 0) ≡ list_any (λ q. q == r) (map (λ (f : Frame). f.routine) frames)
any-count r [] = refl
any-count r (f ∷ fs) =
    ap (λ (k : ℕ). not (k == 0)) (sum_by-cons (λ (g : Frame). if g.routine == r then 1 else 0) f fs) ∙ go (f.routine == r) (any-count r fs)
  where
    some : (k : ℕ) → not (1 + k == 0) ≡ true
    some k = grind (arith, nat_tests)

    go : (b : Bool) → not (depth_of r fs == 0) ≡ list_any (λ q. q == r) (map (λ (g : Frame). g.routine) fs)
        → not ((if b then 1 else 0) + depth_of r fs == 0) ≡ (b || list_any (λ q. q == r) (map (λ (g : Frame). g.routine) fs))
    go true rest = some (depth_of r fs)
    go false rest = ap (λ (k : ℕ). not (k == 0)) (zero-plus (depth_of r fs)) ∙ rest
      where
        zero-plus : (k : ℕ) → 0 + k ≡ k
        zero-plus k = omega arith

in-is : (worlds : ℕ → World) (n r : ℕ) → not (depth_of r (frames_of worlds n) == 0) ≡ is_in worlds r n
in-is worlds n r = any-count r (frames_of worlds n) ∙ ap (list_any (λ q. q == r)) (routines-of worlds n)

totals-next : (worlds : ℕ → World) (n r : ℕ)
    → totals_of worlds (suc n) r ≡ with_entry (is_entry worlds r n) (with_step (is_own worlds r n) (is_in worlds r n) (cost worlds n) (totals_of worlds n r))
unfolding totals_of
totals-next worlds n r = refl

-- After n steps of a walk

pub record IsAlong (worlds : ℕ → World) (n : ℕ) (walk : Walk) : Type 0 where
  pub is_walk : IsWalk walk
  pub frames : walk.frames ≡ frames_of worlds n
  pub seen : (r : ℕ) → r < 65537 → seen_at walk r ≡ totals_of worlds n r
  pub steps : walk.steps ≡ n
  pub cycles : walk.cycles ≡ (worlds n).cycles

-- before the first step
pub record IsBegun (worlds : ℕ → World) (walk : Walk) : Type 0 where
  pub is_walk : IsWalk walk
  pub frames : walk.frames ≡ base ∷ []
  pub seen : (r : ℕ) → r < 65537 → seen_at walk r ≡ nothing
  pub steps : walk.steps ≡ 0
  pub cycles : walk.cycles ≡ (worlds 0).cycles

along-none : (worlds : ℕ → World) (walk : Walk) → IsBegun worlds walk → IsAlong worlds 0 walk
unfolding entered totals_of
along-none worlds walk h = record { is_walk = h.is_walk; frames = h.frames; seen = h.seen; steps = h.steps; cycles = h.cycles }

-- the numbers of a view of a step are small
record AreSmall (look : StepView) : Type 0 where
  pub pc : look.pc < 2 ^ 16
  pub s : look.s < 2 ^ 8
  pub next_pc : look.next_pc < 2 ^ 16
  pub next_s : look.next_s < 2 ^ 8
  pub cycles : look.cycles < 2 ^ 32

are-small : (look : StepView) → is_small look ≡ true → AreSmall look
are-small look e =
    let pc = nat_lt look.pc (2 ^ 16) in
    let s = nat_lt look.s (2 ^ 8) in
    let next_pc = nat_lt look.next_pc (2 ^ 16) in
    let next_s = nat_lt look.next_s (2 ^ 8) in
    let cycles = nat_lt look.cycles (2 ^ 32) in
    let one = and_parts pc (s && (next_pc && (next_s && cycles))) e in
    let two = and_parts s (next_pc && (next_s && cycles)) one.1 in
    let three = and_parts next_pc (next_s && cycles) two.1 in
    let four = and_parts next_s cycles three.1 in
    record {
      pc = ltb-true look.pc (2 ^ 16) one.0;
      s = ltb-true look.s (2 ^ 8) two.0;
      next_pc = ltb-true look.next_pc (2 ^ 16) three.0;
      next_s = ltb-true look.next_s (2 ^ 8) four.0;
      cycles = ltb-true look.cycles (2 ^ 32) four.1;
    }

-- what is counted after the step, its entry and the routines that it left
abbrev Sees : Walk → Walk → (ℕ → Totals → Totals) → Type 0
Sees old new change = (r : ℕ) → r < 65537 → seen_at new r ≡ change r (seen_at old r)

-- A step that may be a JSR

record IsCalled (old new : Walk) (calls : Bool) (routine s : ℕ) : Type 0 where
  pub is_walk : IsWalk new
  pub frames : new.frames ≡ (if calls then old.frames ++ record { routine = routine; s = s } ∷ [] else old.frames)
  pub seen : Sees old new (λ r. with_entry (calls && (routine == r)))
  pub steps : new.steps ≡ old.steps
  pub cycles : new.cycles ≡ old.cycles

called-walk : (walk : Walk) (calls : Bool) (routine s : ℕ) → IsWalk walk → routine < 65537 → s < 256 → IsLow s walk.frames
    → ((r : ℕ) → r < 65537 → (totals_at walk.totals r).times < walk.steps)
    → IsCalled walk (if calls then walks.entered routine s walk else walk) calls routine s
called-walk walk true routine s h few small low times =
    subst (λ (w : Walk). IsCalled walk w true routine s)
    (ap (λ (b : Bool). if b then walk else opened routine s (noted routine walk)) (sym (stays-low walk s low)))
    (let noted-is = noted-walk walk h routine few (times routine few) in
    record {
      is_walk = opened-walk (noted routine walk) noted-is routine s few (omega (arith, small)) low;
      frames = refl;
      seen = λ r lt. seen-opened (noted routine walk) noted-is routine s few (omega (arith, small)) low r lt ∙ noted-seen walk h routine few r lt;
      steps = refl;
      cycles = refl;
    })
called-walk walk false routine s h few small low times = record {
  is_walk = h;
  frames = refl;
  seen = λ r lt. none-more (seen_at walk r);
  steps = refl;
  cycles = refl;
}
  where
    none-more : (t : Totals) → t ≡ with_entry false t
    none-more t = totals-alike t (with_entry false t) (omega arith) refl refl refl refl

-- the byte of the view is the opcode of JSR
call-is : (o : Option ℕ) → (unwrap_or o 0 == 0x20) ≡ is_jsr o
call-is None = refl
call-is (Some byte) = refl

module _ (worlds : ℕ → World) (n : ℕ) (walk : Walk) (h : IsAlong worlds n walk) (small : is_small ((shown_in worlds n).look) ≡ true) (later : GoesLater worlds) (few : n < most_steps) where
  abbrev look : StepView
  look = (shown_in worlds n).look

  sizes : AreSmall look
  sizes = are-small look small

  some : 0 < length walk.frames
  some = subst (λ (l : List Frame). 0 < length l) (sym h.frames) (omega arith)

  abbrev made : Walk
  made = counted look.cycles walk

  made-walk : IsWalk made
  made-walk = counted-walk walk h.is_walk some look.cycles (omega (arith, h.steps, few)) (omega (arith, sizes.cycles))

  called : IsCalled made (walks.with_call look made) (look.opcode == 0x20) look.next_pc look.s
  called =
      called-walk made (look.opcode == 0x20) look.next_pc look.s made-walk (omega (arith, sizes.next_pc)) sizes.s
      (frames-low worlds n look.s walk.frames h.frames refl sizes.s) (λ r lt. counted-times walk h.is_walk some look.cycles r lt)

  abbrev left_now : Walk
  left_now = left_below look.next_s (walks.with_call look made)

  left-alike-is : SeesAlike (walks.with_call look made) left_now
  left-alike-is = below-alike look.next_s (walks.with_call look made) called.is_walk

  calls-is : (look.opcode == 0x20) ≡ is_call (worlds n)
  calls-is = call-is (peek (worlds n).memory (worlds n).registers.pc)

  entry-is : (r : ℕ) → ((look.opcode == 0x20) && (look.next_pc == r)) ≡ is_entry worlds r n
  entry-is r = ap (λ (b : Bool). b && (look.next_pc == r)) calls-is

  step-is : (r : ℕ) → r < 65537 → with_step (inner walk.frames == r) (not (depth_of r walk.frames == 0)) look.cycles (seen_at walk r)
      ≡ with_step (is_own worlds r n) (is_in worlds r n) (cost worlds n) (totals_of worlds n r)
  step-is r low =
      ap (λ (l : List Frame). with_step (inner l == r) (not (depth_of r l == 0)) look.cycles (seen_at walk r)) h.frames
      ∙ ap₂ (λ (a b : Bool). with_step a b look.cycles (seen_at walk r)) (own-is worlds n r) (in-is worlds n r)
      ∙ ap (with_step (is_own worlds r n) (is_in worlds r n) (cost worlds n)) (h.seen r low)

  seen-now : (r : ℕ) → r < 65537 → seen_at left_now r ≡ totals_of worlds (suc n) r
  seen-now r low =
      left-alike-is.seen_are r low ∙ called.seen r low
      ∙ ap (with_entry ((look.opcode == 0x20) && (look.next_pc == r))) (counted-seen walk h.is_walk some look.cycles r low)
      ∙ ap₂ (λ (b : Bool) (t : Totals). with_entry b t) (entry-is r) (step-is r low)
      ∙ sym (totals-next worlds n r)

  pub along-next : IsAlong worlds (suc n) (with_made ((shown_in worlds n).look) walk)
  along-next = record {
    is_walk = below-walk look.next_s (walks.with_call look made) called.is_walk;
    frames = frames-next worlds n walk.frames (walks.with_call look made).frames left_now.frames (look.opcode == 0x20) look.next_pc look.s look.next_s h.frames
        called.frames calls-is refl refl refl sizes.next_s (below-frames look.next_s (walks.with_call look made) called.is_walk);
    seen = seen-now;
    steps = omega (arith, left-alike-is.steps, called.steps, h.steps);
    cycles = omega (arith, left-alike-is.cycles, called.cycles, h.cycles, later n);
  }

-- if there are totals at the end, each step was seen
along-after : (worlds : ℕ → World) (first : Walk) → GoesLater worlds → IsBegun worlds first → (n : ℕ) → n ≤ most_steps
    → length (observer_after shown_to (shown_in worlds) first n).totals ≡ 65537
    → IsAlong worlds n (observer_after shown_to (shown_in worlds) first n)
unfolding observer_after
along-after worlds first later begun zero few size = along-none worlds first begun
along-after worlds first later begun (suc n) few size =
    go (is_small look) (length before.totals == 65537) refl refl size (along-after worlds first later begun n (omega (arith, few)))
  where
    look : StepView
    look = (shown_in worlds n).look

    before : Walk
    before = observer_after shown_to (shown_in worlds) first n

    same-size : (a b : ℕ) → (a == b) ≡ true → a ≡ b
    same-size a b e = grind (arith, nat_tests, e)

    room-is : IsAlong worlds n before → has_room before ≡ true
    room-is h = room before.steps (length before.frames) (omega (arith, h.steps, few)) (subst (λ (l : List Frame). 0 < length l) (sym h.frames) (omega arith))
      where
        room : (steps frames : ℕ) → steps < most_steps → 0 < frames → (nat_lt steps most_steps && not (frames == 0)) ≡ true
        room steps frames lt some = grind (arith, nat_tests, lt, some)

    go : (small sized : Bool) → is_small look ≡ small → (length before.totals == 65537) ≡ sized
        → length (if small && sized then (if has_room before then with_made look before else before) else lost).totals ≡ 65537
        → (length before.totals ≡ 65537 → IsAlong worlds n before)
        → IsAlong worlds (suc n) (if small && sized then (if has_room before then with_made look before else before) else lost)
    go true true e f size earlier =
        let h = earlier (same-size (length before.totals) 65537 f) in
        subst (IsAlong worlds (suc n)) (ap (λ (b : Bool). if b then with_made look before else before) (sym (room-is h)))
        (along-next worlds n before h e later (omega (arith, few)))
    go true false e f size earlier = absurd (omega (arith, size))
    go false sized e f size earlier = absurd (omega (arith, size))

-- The profile of the program's run

-- a walk that saw a finished run knows the totals of its routines
pub walked : (f : Finished) (first walk : Walk) → IsFinished f → f.limit < 4294967296 → IsBegun (worlds_of f) first → IsWalk walk
    → walk ≡ observer_after shown_to (shown_in (worlds_of f)) first (end_of f).steps → (totals : List Totals)
    → ((r : ℕ) → r < 65537 → totals_at totals r ≡ seen_at walk r) → own_steps_in totals ≡ walk.steps → own_cycles_in totals ≡ walk.cycles
    → IsRoutineProfile f.program f.keys f.log f.limit f.free totals f.cause
unfolding worlds_of
walked f first walk is few begun is_walk seen totals all steps cycles = record {
  end = is.end;
  is_end = is.is_end;
  cause_is = is.cause_is;
  totals_are = λ r low. all r low ∙ done.seen r low ∙ ap (λ (n : ℕ). totals_of (worlds_of f) n r) is.steps_are;
  steps_are = steps ∙ done.steps ∙ is.steps_are;
  cycles_are = cycles ∙ done.cycles ∙ ap (λ (n : ℕ). (worlds_of f n).cycles) is.steps_are ∙ sym (ap (λ (w : World). w.cycles) is.is_end.reached);
}
  where
    done : IsAlong (worlds_of f) f.machine.state.steps walk
    done =
        subst (IsAlong (worlds_of f) f.machine.state.steps) (sym seen)
        (along-after (worlds_of f) first (goes-later f) begun f.machine.state.steps (omega (arith, is.steps_are, is.is_end.within, few))
        (ap (λ (w : Walk). length w.totals) (sym seen) ∙ is_walk.totals_size))
