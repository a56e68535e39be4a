-- The routines of a run that is drawn, one step after another.
use Rattle.std.specs.Prelude.{◌≡◌, ℕ, zero, suc, ◌+◌, ◌-◌, ◌<◌, ◌≤◌, nat_lt, Bool, true, false, List, [], ◌∷◌, ◌++◌, map, filter, length, drop, Option, Some, None, Result, refl, if◌then◌else◌}
use Rattle.std.proofs.Common.{sym, ap, ap₂, ◌∙◌, subst, arith, append_assoc, get_or}
use Rattle.std.proofs.lemmas.Bool.{ltb-true}
use Rattle.std.proofs.lemmas.List.{append-nil, drop_more, length-map}
use Rattle.a2_stream.specs.Stream.{Taker, Sends, Breaks, SendsOrBreaks}
use Rattle.a2_stream.proofs.Joined.{Sends-then, Breaks-more, went_on}
use Rattle.a2_services.specs.World.{World}
use Rattle.a2_asm.specs.Assembled.{Assembled}
use Rattle.a2_machine.specs.Meaning.{End}
use Rattle.a2_machine.specs.Output.{cause_line}
use Rattle.a2_machine.specs.State.{MachineState, world_of_state}
use Rattle.a2_routines.specs.declared.routines.Entry.{Entry}
use Rattle.a2_routines.specs.Routines.{is_call, entry_at, with_call, entered}
use Rattle.a2_routines.specs.Routines as routines
use Rattle.a2_routines.proofs.Along.{map-filter, map-push}
use Rattle.a2_trace.specs.declared.calls.Visit.{Visit}
use Rattle.a2_trace.specs.Calls.{visit_of, entered_row, spent_row, is_within, word_of, left_rows, visits, visits_called, call_row, back_rows, call_rows, call_tree}
use Rattle.a2_trace.specs.Called.{begun}

-- The rows of the routines that are left

abbrev pub no_visit : Visit
no_visit = record { caller = 0; begin = 0; s = 0; steps = 0; cycles = 0 }

module _ (s : Option ℕ) (program : Assembled) (steps cycles : ℕ) where
  abbrev pub rows : ℕ → List Visit → List ℕ
  rows depth inner = left_rows s program steps cycles depth inner

  abbrev pub row : ℕ → Visit → List ℕ
  row depth visit = if is_within s visit then [] else spent_row (word_of s) program steps cycles depth visit

  pub left-next : (all : List Visit) (depth : ℕ) (d : Visit) → depth < length all
      → rows depth (drop depth all) ≡ rows (depth + 1) (drop (depth + 1) all) ++ row depth (get_or all depth d)
  unfolding left_rows
  left-next all depth d low = ap (rows depth) (drop_more all depth d low)

  pub left-none : (all : List Visit) (depth : ℕ) → drop depth all ≡ [] → rows depth (drop depth all) ≡ []
  unfolding left_rows
  left-none all depth e = ap (rows depth) e

  pub left-rest : (all : List Visit) (depth : ℕ) → depth ≤ length all → (rest : List ℕ) × (rows 0 all ≡ rows depth (drop depth all) ++ rest)
  left-rest all zero le = ([], sym (append-nil (rows 0 all)))
  left-rest all (suc depth) le =
      let (rest, is) = left-rest all depth (omega (arith, le)) in
      let one : depth + 1 ≡ suc depth = omega arith in
      let here = row depth (get_or all depth no_visit) in (
        here ++ rest,
        is
            ∙ ap (λ (l : List ℕ). l ++ rest) (left-next all depth no_visit (omega (arith, le)) ∙ ap (λ (k : ℕ). rows k (drop k all) ++ here) one)
            ∙ append_assoc (rows (suc depth) (drop (suc depth) all)) here rest,
      )

-- Stack pointers

-- the stack pointer of each routine is below that of its caller, and all are below a bound
abbrev pub Falls : ℕ → List Visit → Type 0
Falls bound [] = Unit {0}
Falls bound (v ∷ vs) = (v.s < bound) × Falls v.s vs

abbrev pub Above : ℕ → List Visit → Type 0
Above s [] = Unit {0}
Above s (v ∷ vs) = (s < v.s) × Above s vs

-- so there are only a few routines
pub few : (bound s : ℕ) (vs : List Visit) → Falls bound vs → Above s vs → s < bound → length vs + s < bound
few bound s [] falls above low = omega (arith, low)
few bound s (v ∷ vs) falls above low = omega (arith, few v.s s vs falls.1 above.1 above.0, falls.0)

falls-push : (bound : ℕ) (vs : List Visit) (v : Visit) → Falls bound vs → Above v.s vs → v.s < bound → Falls bound (vs ++ v ∷ [])
falls-push bound [] v falls above low = (low, falls)
falls-push bound (w ∷ ws) v falls above low = (falls.0, falls-push w.s ws v falls.1 above.1 above.0)

falls-more : (bound more : ℕ) (vs : List Visit) → bound ≤ more → Falls bound vs → Falls more vs
falls-more bound more [] le falls = falls
falls-more bound more (v ∷ vs) le falls = (omega (arith, falls.0, le), falls.1)

filtered-falls : (bound : ℕ) (b : Bool) (v : Visit) (vs : List Visit) → v.s < bound → Falls v.s vs → Falls bound (if b then v ∷ vs else vs)
filtered-falls bound true v vs low falls = (low, falls)
filtered-falls bound false v vs low falls = falls-more v.s bound vs (omega (arith, low)) falls

falls-filter : (p : Visit → Bool) (bound : ℕ) (vs : List Visit) → Falls bound vs → Falls bound (filter p vs)
falls-filter p bound [] falls = falls
falls-filter p bound (v ∷ vs) falls = filtered-falls bound (p v) v (filter p vs) falls.0 (falls-filter p v.s vs falls.1)

filtered-above : (s : ℕ) (b : Bool) (v : Visit) (vs : List Visit) → nat_lt s v.s ≡ b → Above s vs → Above s (if b then v ∷ vs else vs)
filtered-above s true v vs e above = (ltb-true s v.s e, above)
filtered-above s false v vs e above = above

above-filter : (s : ℕ) (vs : List Visit) → Above s (filter (λ v. nat_lt s v.s) vs)
above-filter s [] = tt
above-filter s (v ∷ vs) = filtered-above s (nat_lt s v.s) v (filter (λ v. nat_lt s v.s) vs) refl (above-filter s vs)

-- Steps

visit-is : (v w : Visit) → v.caller ≡ w.caller → v.begin ≡ w.begin → v.s ≡ w.s → v.steps ≡ w.steps → v.cycles ≡ w.cycles → v ≡ w
visit-is v w e f g h k = λ i. record { caller = e i; begin = f i; s = g i; steps = h i; cycles = k i }

module _ (program : Assembled) (worlds : ℕ → World) where
  -- n steps are executed, and their rows were written
  pub record IsDrawn (a b : Taker) (n : ℕ) (items : List Visit) : Type 0 where
    pub items_are : items ≡ visits worlds n
    pub falls : Falls 256 items
    pub above : Above (worlds n).registers.s items
    pub sent : Sends a b (call_rows program worlds n)

  pub drawn-none : (a : Taker) (n : ℕ) (items : List Visit) → items ≡ [] → n ≡ 0 → Sends a a [] → IsDrawn a a n items
  unfolding entered call_rows
  drawn-none a n items e start sent =
      subst (λ (m : ℕ). IsDrawn a a m items) (sym start) (subst (λ (l : List Visit). IsDrawn a a 0 l) (sym e) (record {
        items_are = refl;
        falls = tt;
        above = tt;
        sent = sent;
      }))

  -- the next step led to the state `new`
  module _ (a b : Taker) (n : ℕ) (items : List Visit) (h : IsDrawn a b n items) (new : MachineState) (reached : world_of_state new ≡ worlds (suc n))
      (steps : new.steps ≡ suc n) (calls : Bool) (caller s : ℕ) (is_calls : calls ≡ is_call (worlds n)) (is_caller : caller ≡ (worlds n).registers.pc)
      (is_s : s ≡ (worlds n).registers.s) where
    abbrev now : Visit
    now = begun caller s new

    abbrev mid : List Visit
    mid = if calls then items ++ now ∷ [] else items

    now-is : now ≡ visit_of worlds (entry_at n (worlds n))
    now-is =
        visit-is now (visit_of worlds (entry_at n (worlds n))) is_caller (ap (λ (w : World). w.registers.pc) reached) is_s steps
        (ap (λ (w : World). w.cycles) reached)

    mid-is : mid ≡ visits_called worlds n
    mid-is =
        ap₂ (λ (b : Bool) (v : Visit). if b then items ++ v ∷ [] else items) is_calls now-is
        ∙ ap (λ (l : List Visit). if is_call (worlds n) then l ++ visit_of worlds (entry_at n (worlds n)) ∷ [] else l) h.items_are
        ∙ go (is_call (worlds n))
      where
        go : (b : Bool) → (if b then visits worlds n ++ visit_of worlds (entry_at n (worlds n)) ∷ [] else visits worlds n)
            ≡ map (visit_of worlds) (if b then entered worlds n ++ entry_at n (worlds n) ∷ [] else entered worlds n)
        go true = sym (map-push (visit_of worlds) (entered worlds n) (entry_at n (worlds n)))
        go false = refl

    -- the rows of the step
    pub rows-next : (piece : List ℕ)
        → piece ≡ (if calls then entered_row program (length items) now else []) ++ left_rows (Some new.regs.s) program new.steps new.cycles 0 mid
        → call_rows program worlds n ++ piece ≡ call_rows program worlds (suc n)
    unfolding call_rows
    rows-next piece is =
        ap (λ (l : List ℕ). call_rows program worlds n ++ l)
        (is ∙ ap₂ (λ (x y : List ℕ). x ++ y)
        (ap₂ (λ (b : Bool) (v : Visit). if b then entered_row program (length items) v else []) is_calls now-is
        ∙ ap (λ (k : ℕ). if is_call (worlds n) then entered_row program k (visit_of worlds (entry_at n (worlds n))) else [])
        (ap length h.items_are ∙ length-map (entered worlds n) (visit_of worlds)))
        (ap₂ (λ (k : ℕ) (l : List Visit). left_rows (Some new.regs.s) program k new.cycles 0 l) steps mid-is
        ∙ ap (λ (w : World). left_rows (Some w.registers.s) program (suc n) w.cycles 0 (visits_called worlds n)) reached))

    falls-mid : s < 256 → Falls 256 mid
    falls-mid low = go calls
      where
        go : (b : Bool) → Falls 256 (if b then items ++ now ∷ [] else items)
        go true = falls-push 256 items now h.falls (subst (λ (k : ℕ). Above k items) (sym is_s) h.above) low
        go false = h.falls

    pub drawn-next : (c : Taker) (left : List Visit) (piece : List ℕ) → s < 256 → left ≡ filter (λ v. nat_lt new.regs.s v.s) mid
        → piece ≡ (if calls then entered_row program (length items) now else []) ++ left_rows (Some new.regs.s) program new.steps new.cycles 0 mid
        → Sends b c piece → IsDrawn a c (suc n) left
    unfolding entered
    drawn-next c left piece low is_left is_piece sent = record {
      items_are = is_left ∙ ap (filter (λ v. nat_lt new.regs.s v.s)) mid-is
          ∙ map-filter (visit_of worlds) (routines.is_within (worlds (suc n))) (λ v. nat_lt new.regs.s v.s) alike (with_call n (worlds n) (entered worlds n));
      falls = subst (Falls 256) (sym is_left) (falls-filter (λ v. nat_lt new.regs.s v.s) 256 mid (falls-mid low));
      above = subst (λ (w : World). Above w.registers.s left) reached (subst (Above new.regs.s) (sym is_left) (above-filter new.regs.s mid));
      sent = subst (Sends a c) (rows-next piece is_piece) (Sends-then a b c _ _ h.sent sent);
    }
      where
        alike : (e : Entry) → nat_lt new.regs.s e.s ≡ routines.is_within (worlds (suc n)) e
        alike e = ap (λ (w : World). nat_lt w.registers.s e.s) reached

  -- The end of the run

  pub drawn-end : {T E : Type 0} → (a b c : Taker) (n : ℕ) (items : List Visit) (end : End) (r : Result T E) → IsDrawn a b n items → end.steps ≡ n
      → SendsOrBreaks b c r (left_rows None program end.steps end.world.cycles 0 items ++ cause_line end.cause)
      → SendsOrBreaks a c r (call_tree program worlds end)
  drawn-end a b c n items end r h all last =
      went_on a b c r (call_rows program worlds end.steps) _ (subst (λ (k : ℕ). Sends a b (call_rows program worlds k)) (sym all) h.sent)
      (subst (λ (l : List Visit). SendsOrBreaks b c r (left_rows None program end.steps end.world.cycles 0 l ++ cause_line end.cause))
      (h.items_are ∙ ap (visits worlds) (sym all)) last)

  -- the rows of more steps begin with those of fewer
  rows-more : (n more : ℕ) → (rest : List ℕ) × (call_rows program worlds (n + more) ≡ call_rows program worlds n ++ rest)
  unfolding call_rows
  rows-more n zero =
      let e : n + zero ≡ n = omega arith in
      ([], ap (call_rows program worlds) e ∙ sym (append-nil (call_rows program worlds n)))
  rows-more n (suc more) =
      let e : n + suc more ≡ suc (n + more) = omega arith in
      let (rest, is) = rows-more n more in
      let line = call_row program worlds (n + more) ++ back_rows program worlds (n + more) in
      (rest ++ line, ap (call_rows program worlds) e ∙ ap (λ (l : List ℕ). l ++ line) is ∙ append_assoc (call_rows program worlds n) rest line)

  pub drawn-broken : (a c : Taker) (n : ℕ) (end : End) → n ≤ end.steps → Breaks a c (call_rows program worlds n) → Breaks a c (call_tree program worlds end)
  drawn-broken a c n end le broke =
      let (rest, same) = rows-more n (end.steps - n) in
      let all : n + (end.steps - n) ≡ end.steps = omega (arith, le) in
      Breaks-more a c (call_rows program worlds end.steps) _
      (subst (Breaks a c) (sym same ∙ ap (call_rows program worlds) all) (Breaks-more a c (call_rows program worlds n) rest broke))
