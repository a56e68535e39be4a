-- What a run leaves unchanged between marked addresses.
use Rattle.std.specs.Prelude.{IsTrue, ◌≢◌, not, is_some, length, take, get_or, slice_set, Contains, ◌||◌, ◌&&◌, ◌==◌, nat_le, nat_lt, if◌then◌else◌}
use Rattle.std.specs.List.{list_any, list_all}
use Rattle.std.proofs.Common.{◌≡◌, ◌⊎◌, inl, inr, ℕ, zero, suc, ◌+◌, ◌-◌, ◌<◌, ◌≤◌, Bool, true, false, true≢false, List, [], ◌∷◌, Option, Some, None, Result, Ok, Err, refl, sym, ap, ap₂, subst, ◌∙◌, arith}
use Rattle.std.proofs.lemmas.Bool.{ne_eqb}
use Rattle.std.proofs.lemmas.Bool.Decides.{nat_tests}
use Rattle.std.proofs.lemmas.List.{get_or_default, get_or-set_same, get_or-set_other}
use Rattle.a2_text.specs.Bytes.{is_among}
use Rattle.a2_opcode.specs.declared.Row.{Row}
use Rattle.a2_opcode.specs.declared.Instr.{Instr}
use Rattle.a2_opcode.specs.Table.{IsRowFor}
use Rattle.a2_opcode.specs.Encoding.{instruction, fetched}
use Rattle.a2_opcode.proofs.Lookup.{row-is}
use Rattle.a2_bus.specs.Memory.{Memory, ram_end, ram_byte, peek, memory_access}
use Rattle.a2_bus.proofs.Frame.{changed_by_writes}
use Rattle.a2_effect.specs.Place.{place_of}
use Rattle.a2_effect.specs.Effect.{effect_of}
use Rattle.a2_cpu.specs.Code.{effect_stores}
use Rattle.a2_effect.specs.Instruction.{performed}
use Rattle.a2_cpu.specs.Stores.{stores_of, IsNotIn}
use Rattle.a2_cpu.proofs.StoresLemmas.{performed-stores}
use Rattle.a2_cpu.proofs.EffectStores.{stores_of-is}
use Rattle.a2_services.specs.declared.rows.Service.{Service}
use Rattle.a2_services.specs.World.{World}
use Rattle.a2_services.specs.Services.{service_at, served}
use Rattle.a2_asm.specs.Assembled.{Assembled}
use Rattle.a2_asm.specs.declared.program.Statement.{Statement}
use Rattle.a2_asm.specs.Programs.{covers, is_code, Holds}
use Rattle.a2_machine.specs.declared.causes.Cause.{Cause}
use Rattle.a2_machine.specs.declared.causes.Cause.TheVariants.{Returned, OffStatement}
use Rattle.a2_machine.specs.ByteRun.{Guard, bytes, decoded_or_cause}
use Rattle.a2_machine.specs.Guarded.{HoldsCode}
use Rattle.a2_machine.specs.Meaning.{Code, Decoded, service_cause, return_address, found_at_pc, stuck_at, stuck, next_at, next}
use Rattle.a2_machine.specs.ProgramGuard.{guard_of_program}
use Rattle.a2_machine.specs.State.{code_of}
use Rattle.a2_machine.proofs.Guarding.{any-taken}
use Rattle.a2_machine.proofs.GuardedRuns.{next-keeps_code}
use Rattle.a2_machine.proofs.Marking.{among-low}
use Rattle.a2_run.specs.Started.{guard_of_run}
use Rattle.a2_history.specs.declared.actions.Action.{Action}
use Rattle.a2_history.specs.declared.actions.Action.TheVariants.{Keys, Change as Changed}
use Rattle.a2_history.specs.declared.actions.Logged.{Logged}
use Rattle.a2_history.specs.Courses.{Course, typed, with_keys, with_action, with_logged, arrived, world_on, NoneStuck}
use Rattle.a2_history.specs.Going.{Track, here, shown_on, is_change, is_changed_after, NothingDoneAt, AlarmsAreComplete}
use Rattle.a2_machine.specs.Looks.{shown_between}
use Rattle.a2_symbols.specs.declared.places.Span.{Span}
use Rattle.a2_debugger.specs.declared.stops.Watch.{Watch}
use Rattle.a2_debugger.specs.declared.stops.Watch.TheVariants.{OfRegister, OfFlag, OfBytes}
use Rattle.a2_debugger.specs.declared.stops.Break.{Break}
use Rattle.a2_debugger.specs.Inspections.{is_at, is_left}
use Rattle.a2_debugger.specs.Stops.{Moment, moment_of, holds, is_hit, bytes_differ, is_changed_from, is_span_changed, is_watch_changed, in_register, in_flag, is_changed_in, is_stop}
use Rattle.a2_debugger.specs.Alerts.{Alerts, is_marked, is_in, is_watched, is_of_bytes, place_in, IsCalmStatement, IsCalm, MarksAllBut, AreAlerts, alarms, WarnsOfStops}

or-true : (b : Bool) → (b || true) ≡ true
or-true true = refl
or-true false = refl

or-false : (u v : Bool) → (u || v) ≡ false → (u ≡ false) × (v ≡ false)
or-false false v e = (refl, e)
or-false true v e = absurd (true≢false e)

some≢none : {X : Type 0} (x : X) → Some x ≡ None → ⊥
some≢none x e = true≢false (ap is_some e)

-- an element that passes the test is found
any-at : {X : Type 0} (p : X → Bool) (xs : List X) (i : ℕ) (d : X) → i < length xs → p (get_or xs i d) ≡ true → list_any p xs ≡ true
any-at p [] i d low is = absurd (omega (arith, low))
any-at p (x ∷ xs) zero d low is = ap (λ v. v || list_any p xs) is
any-at p (x ∷ xs) (suc i) d low is = ap (λ v. p x || v) (any-at p xs i d (omega (arith, low)) is) ∙ or-true (p x)

-- a calm statement makes its address calm
pub calm-at : (watches : List Watch) (statements : List Statement) (memory : Memory) (i : ℕ) (d : Statement)
    → i < length statements → IsCalmStatement watches memory (get_or statements i d) → IsCalm watches statements memory (get_or statements i d).addr
calm-at watches statements memory i d low calm =
    (get_or statements i d, (i, low, get_or_default statements i (get_or statements i d) d low), refl, calm)

-- a statement's bytes are code
code-held : (statements : List Statement) (s : Statement) (a : ℕ) → Contains statements s → is_some s.instr ≡ true → Holds s a
    → IsTrue (is_code statements a)
code-held statements s a among some held =
    any-at (covers a) statements among.0 s among.1 (ap (covers a) among.2 ∙ covered (is_some s.instr) some)
  where
    covered : (v : Bool) → v ≡ true → (v && nat_le s.addr a && nat_lt a (s.addr + s.length)) ≡ true
    covered v is = grind (arith, nat_tests, is, held.0, held.1)

same-or-not : (a b : ℕ) → (a ≡ b) ⊎ (a ≢ b)
same-or-not a b = grind arith

pub cleared : (watches : List Watch) (memory : Memory) (marks : List Bool) (s : Statement) (at : ℕ) → at ≡ s.addr
    → IsCalmStatement watches memory s → (a : ℕ) → is_marked (slice_set marks at false) a ≡ false
    → (is_marked marks a ≡ false) ⊎ ((s.addr ≡ a) × IsCalmStatement watches memory s)
cleared watches memory marks s at here calm a unmarked = go (same-or-not a at)
  where
    go : (a ≡ at) ⊎ (a ≢ at) → (is_marked marks a ≡ false) ⊎ ((s.addr ≡ a) × IsCalmStatement watches memory s)
    go (inl e) = inr (sym (e ∙ here), calm)
    go (inr ne) = inl (sym (get_or-set_other marks at a false true ne) ∙ unmarked)

pub calm-more : (watches : List Watch) (statements : List Statement) (memory : Memory) (old new : List Bool)
    (i : ℕ) (d : Statement) → i < length statements → MarksAllBut watches statements memory old
    → ((a : ℕ) → is_marked new a ≡ false
    → (is_marked old a ≡ false) ⊎ (((get_or statements i d).addr ≡ a) × IsCalmStatement watches memory (get_or statements i d)))
    → MarksAllBut watches statements memory new
calm-more watches statements memory old new i d low all made a unmarked = go (made a unmarked)
  where
    go : (is_marked old a ≡ false) ⊎ (((get_or statements i d).addr ≡ a) × IsCalmStatement watches memory (get_or statements i d))
        → IsCalm watches statements memory a
    go (inl e) = all a e
    go (inr is) = subst (λ k. IsCalm watches statements memory k) is.0 (calm-at watches statements memory i d low is.1)

left-true : (u v : Bool) → (u || v) ≡ true → v ≡ false → u ≡ true
left-true true v h e = refl
left-true false v h e = absurd (true≢false (sym h ∙ e))

pub marked-next : (breaks : List Break) (i : ℕ) (d : Break) (marks : List Bool) (at : ℕ) → i < length breaks → at ≡ (get_or breaks i d).address
    → at < length marks → ((m : Moment) → list_any (is_hit m) (take i breaks) ≡ true → is_marked marks m.pc ≡ true)
    → (m : Moment) → list_any (is_hit m) (take (i + 1) breaks) ≡ true → is_marked (slice_set marks at true) m.pc ≡ true
marked-next breaks i d marks at low here in_range before m hit = go (same-or-not m.pc at)
  where
    go : (m.pc ≡ at) ⊎ (m.pc ≢ at) → is_marked (slice_set marks at true) m.pc ≡ true
    go (inl e) = ap (λ k. get_or (slice_set marks at true) k true) e ∙ get_or-set_same marks at true true in_range
    go (inr ne) =
        let away : (get_or breaks i d).address ≢ m.pc = λ e. ne (sym (here ∙ e)) in
        let other : ((get_or breaks i d).address == m.pc) ≡ false = ne_eqb (get_or breaks i d).address m.pc away in
        let missed : is_hit m (get_or breaks i d) ≡ false = ap (λ v. v && holds (get_or breaks i d).condition m) other in
        get_or-set_other marks at m.pc true true ne
        ∙ before m (left-true (list_any (is_hit m) (take i breaks)) _ (sym (any-taken (is_hit m) breaks i d low) ∙ hit) missed)

-- typing keys changes no byte
keys-byte : (keys : List ℕ) (w : World) (a : ℕ) → ram_byte (with_keys keys w).memory a ≡ ram_byte w.memory a
unfolding with_keys ram_byte
keys-byte keys w a = go (nat_le (length w.memory.devices.keys + length keys) 4096)
  where
    go : (b : Bool) → ram_byte (if b then typed keys w else w).memory a ≡ ram_byte w.memory a
    go true = refl
    go false = refl

-- nor does anything that is no change
action-byte : (action : Action) (w : World) (a : ℕ) → is_change action ≡ false → ram_byte (with_action action w).memory a ≡ ram_byte w.memory a
action-byte (Keys keys) w a e = keys-byte keys w a
action-byte (Changed change) w a e = absurd (true≢false e)

-- nor does a log that has no change after an earlier position
logged-byte : (log : List Logged) (p n : ℕ) (w : World) (a : ℕ) → p < n → is_changed_after p log ≡ false
    → ram_byte (with_logged log n w).memory a ≡ ram_byte w.memory a
unfolding with_logged
logged-byte [] p n w a low none = refl
logged-byte (t ∷ ts) p n w a low none = logged-byte ts p n _ a low parts.1 ∙ one (t.position == n) refl
  where
    parts : ((nat_lt p t.position && is_change t.action) ≡ false) × (is_changed_after p ts ≡ false)
    parts = or-false (nat_lt p t.position && is_change t.action) (is_changed_after p ts) none

    after : (t.position == n) ≡ true → nat_lt p t.position ≡ true
    after e = grind (arith, nat_tests, e, low)

    none-here : (b : Bool) → b ≡ true → (b && is_change t.action) ≡ false → is_change t.action ≡ false
    none-here true e is = is
    none-here false e is = absurd (true≢false (sym e))

    one : (b : Bool) → (t.position == n) ≡ b → ram_byte (if b then with_action t.action w else w).memory a ≡ ram_byte w.memory a
    one true e = action-byte t.action w a (none-here (nat_lt p t.position) (after e) parts.0)
    one false e = refl

-- a world at a position where nothing is done by hand
at-rest : (course : Course) (n : ℕ) → NothingDoneAt course n → world_on course n ≡ arrived course n
unfolding world_on
at-rest course n quiet = quiet (arrived course n)

as-shown : (course : Course) (k : ℕ) → NothingDoneAt course (k + 1) → shown_between (world_on course k) (world_on course (k + 1)) ≡ shown_on course k
as-shown course k quiet = ap (shown_between (world_on course k)) (at-rest course (k + 1) quiet)

-- what is found where an instruction is fetched
found-there : (guard : Guard) (w : World) (row : Row) (value : ℕ) → fetched (peek w.memory) w.registers.pc ≡ instruction row value
    → ((cause : Cause) × (found_at_pc (bytes (Some guard)) w ≡ Err cause))
    ⊎ (found_at_pc (bytes (Some guard)) w ≡ Ok (record { row = row; value = value }))
unfolding bytes
found-there guard w row value is = go (is_among guard.starts w.registers.pc) refl
  where
    found : Bool → Result Decoded Cause
    found admitted = if admitted then decoded_or_cause (fetched (peek w.memory) w.registers.pc) else Err OffStatement

    go : (b : Bool) → is_among guard.starts w.registers.pc ≡ b
        → ((cause : Cause) × (found_at_pc (bytes (Some guard)) w ≡ Err cause))
        ⊎ (found_at_pc (bytes (Some guard)) w ≡ Ok (record { row = row; value = value }))
    go false e = inl (OffStatement, ap found e)
    go true e = inr (ap found e ∙ ap decoded_or_cause is)

-- if nothing is found, a world is stuck
none-found : (code : Code) (w : World) (cause : Cause) → service_at w.registers.pc ≡ None → found_at_pc code w ≡ Err cause → stuck code w ≡ None → ⊥
unfolding stuck stuck_at
none-found code w cause none found free = told (w.registers.pc == return_address) (sym step ∙ free)
  where
    step : stuck code w ≡ (if w.registers.pc == return_address then Some Returned else Some cause)
    step =
        ap (λ (f : Result Decoded Cause). stuck_at code.protected f w) found
        ∙ ap (λ (s : Option Service). if w.registers.pc == return_address then Some Returned
        else (let c : Option Cause = elim s [ Some service ↦ service_cause code.protected service w | None ↦ Some cause ] in c)) none

    told : (b : Bool) → (if b then Some Returned else Some cause) ≡ None → ⊥
    told true e = some≢none Returned e
    told false e = some≢none cause e

-- an instruction changes only the bytes where it stores
calm-next : (guard : Guard) (w : World) (row : Row) (value : ℕ) → service_at w.registers.pc ≡ None
    → fetched (peek w.memory) w.registers.pc ≡ instruction row value → stuck (bytes (Some guard)) w ≡ None
    → (a : ℕ) → IsNotIn a (stores_of memory_access row value w)
    → ram_byte (next (bytes (Some guard)) w).memory a ≡ ram_byte w.memory a
unfolding next next_at
calm-next guard w row value none there free a away = go (found-there guard w row value there)
  where
    go : ((cause : Cause) × (found_at_pc (bytes (Some guard)) w ≡ Err cause))
        ⊎ (found_at_pc (bytes (Some guard)) w ≡ Ok (record { row = row; value = value }))
        → ram_byte (next (bytes (Some guard)) w).memory a ≡ ram_byte w.memory a
    go (inl is) = absurd (none-found (bytes (Some guard)) w is.0 none is.1 free)
    go (inr is) =
        ap (λ (f : Result Decoded Cause). ram_byte (next_at f w).memory a) is
        ∙ ap (λ (s : Option Service). ram_byte (elim s as (λ _. World) [
          | Some service ↦ served service w
          | None ↦ performed memory_access row value w
        ]).memory a) none
        ∙ performed-stores memory_access ram_byte changed_by_writes row value w a away

-- keys, and steps that store nothing into code, leave the code unchanged
module _ (course : Course) (laid : ℕ → ℕ) (from : ℕ) (none : is_changed_after from course.log ≡ false) where
  holds-next : (n : ℕ) → from ≤ n → HoldsCode (code_of course.origin).protected laid (world_on course n).memory
      → stuck (code_of course.origin) (world_on course n) ≡ None → HoldsCode (code_of course.origin).protected laid (world_on course (suc n)).memory
  unfolding world_on arrived
  holds-next n later holds free = λ a among.
      logged-byte course.log from (suc n) (arrived course (suc n)) a (omega (arith, later)) none
      ∙ next-keeps_code (code_of course.origin) laid (world_on course n) holds free a among

  holds-on : (d : ℕ) → HoldsCode (code_of course.origin).protected laid (world_on course from).memory → NoneStuck course (from + d)
      → HoldsCode (code_of course.origin).protected laid (world_on course (from + d)).memory
  holds-on zero holds went =
      let e : from + 0 ≡ from = omega arith in
      subst (λ n. HoldsCode (code_of course.origin).protected laid (world_on course n).memory) (sym e) holds
  holds-on (suc d) holds went =
      let e : from + suc d ≡ suc (from + d) = omega arith in
      subst (λ n. HoldsCode (code_of course.origin).protected laid (world_on course n).memory) (sym e)
      (holds-next (from + d) (omega arith) (holds-on d holds (λ k l. went k (omega (arith, l)))) (went (from + d) (omega arith)))

same-number : (a : ℕ) → (a == a) ≡ true
same-number a = grind (arith, nat_tests)

-- a byte that is the same is not changed
unchanged-from : (first n : ℕ) (ram : ℕ → Option ℕ) → is_changed_from first n ram ram ≡ false
unfolding is_changed_from
unchanged-from first zero ram = refl
unchanged-from first (suc n) ram = ap₂ (λ x y. x || y) (unchanged-from first n ram) (same (ram (first + n)))
  where
    same : (o : Option ℕ) → bytes_differ o o ≡ false
    same None = refl
    same (Some byte) = ap not (same-number byte)

watch-unchanged : (watch : Watch) (moment : Moment) → is_watch_changed moment moment watch ≡ false
watch-unchanged (OfRegister register) moment = ap not (same-number (in_register register moment))
watch-unchanged (OfFlag flag) moment = ap not (same-number (in_flag flag moment))
watch-unchanged (OfBytes s) moment = unchanged-from s.first (s.last + 1 - s.first) moment.ram

unchanged : (watches : List Watch) (moment : Moment) → list_any (is_watch_changed moment moment) watches ≡ false
unchanged [] moment = refl
unchanged (w ∷ ws) moment = ap₂ (λ x y. x || y) (watch-unchanged w moment) (unchanged ws moment)

-- if a conjunction fails and one side holds, the other side fails
and-false : (u v : Bool) → (u && v) ≡ false → v ≡ true → u ≡ false
and-false u v e is = sym (right u v is) ∙ e
  where
    right : (u v : Bool) → v ≡ true → (u && v) ≡ u
    right true v is = is
    right false v is = refl

and-true : (u v : Bool) → (u && v) ≡ true → (u ≡ true) × (v ≡ true)
and-true true v e = (refl, e)
and-true false v e = absurd (true≢false (sym e))

-- an address that passes a test is not in a list in which none passes
away-from : (test : ℕ → Bool) (a : ℕ) (xs : List ℕ) → list_any test xs ≡ false → test a ≡ true → IsNotIn a xs
away-from test a [] none is = tt
away-from test a (x ∷ xs) none is =
    let parts = or-false (test x) (list_any test xs) none in
    (λ e. true≢false (sym is ∙ ap test e ∙ parts.0), away-from test a xs parts.1 is)

-- whether one of these bytes has changed depends only on them
span-same : (first n : ℕ) (before one other : ℕ → Option ℕ) → ((k : ℕ) → k < n → one (first + k) ≡ other (first + k))
    → is_changed_from first n before one ≡ is_changed_from first n before other
unfolding is_changed_from
span-same first zero before one other same = refl
span-same first (suc n) before one other same =
    ap₂ (λ x y. x || y) (span-same first n before one other (λ k l. same k (omega (arith, l))))
    (ap (λ o. bytes_differ o (before (first + n))) (same n (omega arith)))

-- if a watch is of bytes, whether they have changed depends only on them
watch-same : (watch : Watch) (before one other : Moment) → is_of_bytes watch ≡ true → ((a : ℕ) → is_in watch a ≡ true → one.ram a ≡ other.ram a)
    → is_watch_changed before one watch ≡ is_watch_changed before other watch
watch-same (OfRegister register) before one other bytes same = absurd (true≢false (sym bytes))
watch-same (OfFlag flag) before one other bytes same = absurd (true≢false (sym bytes))
watch-same (OfBytes s) before one other bytes same =
    span-same s.first (s.last + 1 - s.first) before.ram one.ram other.ram (λ k l. same (s.first + k) (inside s.first s.last k l))
  where
    inside : (first last k : ℕ) → k < last + 1 - first → (nat_le first (first + k) && nat_le (first + k) last) ≡ true
    inside first last k l = grind (arith, nat_tests, l)

watched-same : (watches : List Watch) (before one other : Moment) → list_all is_of_bytes watches ≡ true
    → ((a : ℕ) → is_watched watches a ≡ true → one.ram a ≡ other.ram a)
    → list_any (is_watch_changed before one) watches ≡ list_any (is_watch_changed before other) watches
watched-same [] before one other bytes same = refl
watched-same (w ∷ ws) before one other bytes same =
    let parts = and-true (is_of_bytes w) (list_all is_of_bytes ws) bytes in
    ap₂ (λ x y. x || y)
    (watch-same w before one other parts.0 (λ a is. same a (ap (λ v. v || is_watched ws a) is)))
    (watched-same ws before one other parts.1 (λ a is. same a (ap (λ v. is_in w a || v) is ∙ or-true (is_in w a))))

same-peek : (v w : World) (a : ℕ) → ram_byte v.memory a ≡ ram_byte w.memory a → peek v.memory a ≡ peek w.memory a
same-peek v w a e = ap (λ (b : ℕ). if nat_lt a ram_end then Some b else None) e

-- a run that continues from a position, with its breakpoints, the watched spans, and the addresses marked for them
module _ (may_change_code free : Bool) (program : Assembled) (course : Course) (from : ℕ) (breaks : List Break) (watches : List Watch)
    (alerts : Alerts) (guarded : course.origin.guard ≡ guard_of_run free program)
    (code : may_change_code ≡ (free || is_changed_after from course.log))
    (are : AreAlerts may_change_code program.statements (world_on course from).memory breaks watches alerts) where
  bound : may_change_code ≡ false → (free ≡ false) × (is_changed_after from course.log ≡ false)
  bound e = or-false free (is_changed_after from course.log) (sym code ∙ e)

  code-is : free ≡ false → code_of course.origin ≡ bytes (Some (guard_of_program program))
  code-is e = ap bytes (guarded ∙ ap (λ b. guard_of_run b program) e)

  code-among : (a : ℕ) → a < ram_end → IsTrue (is_code program.statements a) → IsTrue (is_among (bytes (Some (guard_of_program program))).protected a)
  unfolding bytes guard_of_program
  code-among a low is = among-low ram_end (is_code program.statements) a low ∙ is

  held : (k : ℕ) → from ≤ k → NoneStuck course (k + 1) → may_change_code ≡ false → (a : ℕ) → a < ram_end → IsTrue (is_code program.statements a)
      → ram_byte (world_on course k).memory a ≡ ram_byte (world_on course from).memory a
  held k l went e a low is =
      let at : from + (k - from) ≡ k = omega (arith, l) in
      let h : HoldsCode (code_of course.origin).protected (λ b. ram_byte (world_on course from).memory b) (world_on course k).memory =
      subst (λ n. HoldsCode (code_of course.origin).protected (λ b. ram_byte (world_on course from).memory b) (world_on course n).memory) at
      (holds-on course (λ b. ram_byte (world_on course from).memory b) from (bound e).1 (k - from) (λ b _. refl) (λ j m. went j (omega (arith, m, l)))) in
      h a (subst (λ (c : Code). IsTrue (is_among c.protected a)) (sym (code-is (bound e).0)) (code-among a low is))

  shown-held : (k : ℕ) → from ≤ k → NoneStuck course (k + 1) → may_change_code ≡ false → (s : Statement) → Contains program.statements s
      → is_some s.instr ≡ true → (a : ℕ) → Holds s a → peek (world_on course k).memory a ≡ peek (world_on course from).memory a
  shown-held k l went e s among some a inside = go (nat_lt a ram_end) refl
    where
      shown : Bool → World → Option ℕ
      shown low w = if low then Some (ram_byte w.memory a) else None

      go : (low : Bool) → nat_lt a ram_end ≡ low → peek (world_on course k).memory a ≡ peek (world_on course from).memory a
      go true is =
          same-peek (world_on course k) (world_on course from) a
          (held k l went e a (grind (arith, nat_tests, is)) (code-held program.statements s a among some inside))
      go false is = ap (λ v. shown v (world_on course k)) is ∙ sym (ap (λ v. shown v (world_on course from)) is)

  calm-step : (k : ℕ) → from ≤ k → NoneStuck course (k + 1) → NothingDoneAt course (k + 1) → may_change_code ≡ false
      → IsCalm watches program.statements (world_on course from).memory (world_on course k).registers.pc
      → (a : ℕ) → is_watched watches a ≡ true
      → ram_byte (world_on course (k + 1)).memory a ≡ ram_byte (world_on course k).memory a
  unfolding world_on arrived
  calm-step k l went quiet e calm a watched =
      let w : World = world_on course k in
      let s : Statement = calm.0 in
      let i : Instr = calm.3.harmless.instr in
      let at : k + 1 ≡ suc k = omega arith in
      let found = calm.3.harmless.stands w.memory (shown-held k l went e s calm.1 calm.3.some) in
      let is : IsRowFor i.mnemonic i.mode found.0 = row-is i.mnemonic i.mode found.0 found.1 in
      let there : fetched (peek w.memory) w.registers.pc ≡ instruction found.0 i.value =
      subst (λ (n : ℕ). fetched (peek w.memory) n ≡ instruction found.0 i.value) calm.2 found.2 in
      let none : service_at w.registers.pc ≡ None = subst (λ (n : ℕ). service_at n ≡ None) calm.2 calm.3.none in
      let stores : stores_of memory_access found.0 i.value w
      ≡ effect_stores (effect_of i.mnemonic) (place_in w i) w.registers.s =
      stores_of-is memory_access found.0 i.value w
      ∙ ap₂ (λ m o. effect_stores (effect_of m) (place_of memory_access w.memory w.registers o i.value) w.registers.s)
      is.mnemonic_is is.mode_is in
      let away : IsNotIn a (stores_of memory_access found.0 i.value w) =
      away-from (is_watched watches) a _ (ap (list_any (is_watched watches)) stores ∙ calm.3.harmless.spares w) watched in
      let free : stuck (bytes (Some (guard_of_program program))) w ≡ None =
      subst (λ (c : Code). stuck c w ≡ None) (code-is (bound e).0) (went k (omega arith)) in
      ap (λ (v : World). ram_byte v.memory a) (at-rest course (k + 1) quiet)
      ∙ ap (λ n. ram_byte (arrived course n).memory a) at
      ∙ ap (λ (c : Code). ram_byte (next c w).memory a) (code-is (bound e).0)
      ∙ calm-next (guard_of_program program) w found.0 i.value none there free a away

  -- a step that stores at no watched byte changes no watched byte, so it is not the first step to a stop
  was-changed : (k : ℕ) → from ≤ k → list_all is_of_bytes watches ≡ true
      → ((a : ℕ) → is_watched watches a ≡ true
      → ram_byte (world_on course (k + 1)).memory a ≡ ram_byte (world_on course k).memory a)
      → list_any (is_changed_in (world_on course from) (world_on course (k + 1))) watches ≡ true
      → (from < k) × (list_any (is_changed_in (world_on course from) (world_on course k)) watches ≡ true)
  was-changed k l bytes same changed = (later (split k l), before)
    where
      before : list_any (is_changed_in (world_on course from) (world_on course k)) watches ≡ true
      before =
          sym (watched-same watches (moment_of (world_on course from)) (moment_of (world_on course (k + 1)))
          (moment_of (world_on course k)) bytes (λ a is. same-peek (world_on course (k + 1)) (world_on course k) a (same a is)))
          ∙ changed

      split : (k : ℕ) → from ≤ k → (from ≡ k) ⊎ (from < k)
      split k l = grind (arith, l)

      later : (from ≡ k) ⊎ (from < k) → from < k
      later (inl e) = absurd (true≢false
          (sym (ap (λ n. list_any (is_changed_in (world_on course from) (world_on course n)) watches) e ∙ before)
          ∙ unchanged watches (moment_of (world_on course from))))
      later (inr l) = l

  pub warns : WarnsOfStops alerts breaks watches (record { course = course; position = from })
  warns k l went quiet seen calm = go (list_any (is_hit (moment_of (world_on course (k + 1)))) breaks) refl seen
    where
      pc : ℕ
      pc = (world_on course k).registers.pc

      off : ((is_marked alerts.stops (world_on course (k + 1)).registers.pc && list_any (is_hit (moment_of (world_on course (k + 1)))) breaks) ≡ false)
          × ((is_marked alerts.stores pc && list_any (is_changed_in (world_on course from) (world_on course (k + 1))) watches) ≡ false)
      off = or-false _ _ (ap (alarms alerts breaks watches (world_on course from)) (as-shown course k quiet) ∙ calm)

      seen-before : (from < k) × (list_any (is_changed_in (world_on course from) (world_on course k)) watches ≡ true)
          → (from < k) × (is_stop breaks watches (world_on course from) (world_on course k) ≡ true)
      seen-before was =
          (was.0, ap (λ v. list_any (is_hit (moment_of (world_on course k))) breaks || v) was.1 ∙ or-true (list_any (is_hit (moment_of (world_on course k))) breaks))

      watched : list_any (is_changed_in (world_on course from) (world_on course (k + 1))) watches ≡ true
          → (watches ≡ []) ⊎ ((may_change_code ≡ false) × (list_all is_of_bytes watches ≡ true) × IsCalm watches program.statements (world_on course from).memory pc)
          → (from < k) × (is_stop breaks watches (world_on course from) (world_on course k) ≡ true)
      watched changed (inl none) =
          absurd (true≢false (sym changed ∙ ap (λ (ws : List Watch). list_any (is_changed_in (world_on course from) (world_on course (k + 1))) ws) none))
      watched changed (inr is) = seen-before (was-changed k l is.1 (λ a among. calm-step k l went quiet is.0 is.2 a among) changed)

      go : (b : Bool) → list_any (is_hit (moment_of (world_on course (k + 1)))) breaks ≡ b
          → (b || list_any (is_changed_in (world_on course from) (world_on course (k + 1))) watches) ≡ true
          → (from < k) × (is_stop breaks watches (world_on course from) (world_on course k) ≡ true)
      go true e _ =
          absurd (true≢false (sym (are.breaks_marked (moment_of (world_on course (k + 1))) e)
          ∙ and-false (is_marked alerts.stops (world_on course (k + 1)).registers.pc) _ off.0 e))
      go false e changed = watched changed (are.watched pc (and-false (is_marked alerts.stores pc) _ off.1 changed))

-- the same holds from the current position on
pub warned : (may_change_code free : Bool) (program : Assembled) (track : Track) (before : World) (breaks : List Break) (watches : List Watch)
    (alerts : Alerts) → before ≡ here track → track.course.origin.guard ≡ guard_of_run free program
    → may_change_code ≡ (free || is_changed_after track.position track.course.log)
    → AreAlerts may_change_code program.statements before.memory breaks watches alerts → WarnsOfStops alerts breaks watches track
warned may_change_code free program track before breaks watches alerts is guarded code are =
    warns may_change_code free program track.course track.position breaks watches alerts guarded code
    (subst (λ (w : World). AreAlerts may_change_code program.statements w.memory breaks watches alerts) is are)

-- and up to the step where a routine returns
pub warns-left : (s : ℕ) (alerts : Alerts) (breaks : List Break) (watches : List Watch) (track : Track) → WarnsOfStops alerts breaks watches track
    → AlarmsAreComplete (is_left s (is_stop breaks watches (here track))) (λ shown. nat_le s shown.look.next_s || alarms alerts breaks watches (here track) shown)
    track.course track.position
warns-left s alerts breaks watches track stops k l went quiet seen calm =
    let off = or-false (nat_le s (arrived track.course (k + 1)).registers.s) _ calm in
    let stays : nat_le s (world_on track.course (k + 1)).registers.s ≡ false =
    ap (λ (w : World). nat_le s w.registers.s) (at-rest track.course (k + 1) quiet) ∙ off.0 in
    let was = stops k l went quiet (right (nat_le s (world_on track.course (k + 1)).registers.s) _ stays seen) off.1 in
    (was.0, ap (λ v. nat_le s (world_on track.course k).registers.s || v) was.1 ∙ or-true (nat_le s (world_on track.course k).registers.s))
  where
    right : (u v : Bool) → u ≡ false → (u || v) ≡ true → v ≡ true
    right false v e h = h
    right true v e h = absurd (true≢false e)

-- an address that no step reaches
pub warns-at : (address : ℕ) (course : Course) (from : ℕ) → AlarmsAreComplete (is_at address) (λ shown. shown.look.next_pc == address) course from
warns-at address course from k l went quiet seen calm =
    absurd (true≢false (sym seen ∙ ap (λ (w : World). w.registers.pc == address) (at-rest course (k + 1) quiet) ∙ calm))
