-- Each line of a session has an answer or an error, whatever the session is.
use Rattle.std.specs.Prelude.{bytes_eq, Decides}
use Rattle.std.proofs.Common.{◌≡◌, ◌≢◌, ◌⊎◌, ℕ, zero, suc, ◌+◌, ◌-◌, ◌%◌, ◌<◌, ◌≤◌, Bool, true, false, List, [], ◌∷◌, ◌++◌, length, map, Option, Some, None, Result, Ok, Err, refl, sym, ap, ◌∙◌, inl, inr, arith, eqb, cond, zero-add, add-zero, add-suc, add-one}
use Rattle.std.proofs.lemmas.Bool.{false≢true}
use Rattle.std.proofs.lemmas.List.Elements.{All-append}
use Rattle.std.proofs.lemmas.Slice.Eq.{bytes_eq-Decides}
use Rattle.a2_text.specs.Bytes.{capital}
use Rattle.a2_text.specs.Words.{words, first_word, after_first_word, only_word}
use Rattle.a2_asm.specs.Values.{Names}
use Rattle.a2_bus.specs.KeyText.{escaped, BeginsWith, SpellsKeys}
use Rattle.a2_bus.proofs.KeyReading.{begins_only, empty_begins}
use Rattle.a2_debug_script.specs.declared.fault.DebugFault.{DebugFault}
use Rattle.a2_debug_script.specs.declared.fault.DebugFault.TheVariants as fault
use Rattle.a2_debug_script.specs.declared.calls.Call.{Call}
use Rattle.a2_debug_script.specs.declared.calls.Call.TheVariants as call
use Rattle.a2_debug_script.specs.declared.calls.Answer.{Answer}
use Rattle.a2_debug_script.specs.declared.calls.Answer.TheVariants.{Halted, Done, Refused}
use Rattle.a2_debug_script.specs.declared.commands.Verb.{Verb}
use Rattle.a2_debug_script.specs.declared.commands.Verb.TheVariants.{Step, Go, Back, Break, Clear, TypeKeys, Screen}
use Rattle.a2_debug_script.specs.Session.{Halted as End, advanced, appended, oldest_after}
use Rattle.a2_debug_script.specs.Stored.{Stored, session_of, typed_at, up_to, NoneAbove}
use Rattle.a2_debug_script.specs.Marks.{word_address, marked, unmarked, at_place}
use Rattle.a2_debug_script.specs.Calls.{CallDoes, ExecutesSteps, Sets, Run}
use Rattle.a2_debug_script.specs.Lines.{verb_letters, only_number, session_line, halt_line, session_picture}
use Rattle.a2_debug_script.specs.Answers.{MeansCall, MeansNoCall, done_text, IsVerb, IsDebugAnswer, IsLineRejected}
use Rattle.a2_debug_script.proofs.Keys.{NoneAbove-up_to, typed_then}
use Rattle.a2_debug_script.proofs.Sessions.{session_next, session_typed, session_back}
use Rattle.a2_debug_script.proofs.GoingOn.{reached}
use Rattle.a2_debug_script.proofs.Listed.{refused_same}
use Rattle.a2_debug_script.proofs.Saying.{lacking}

-- Calls

-- the answer of a call, and the state afterwards
abbrev Outcome : (Answer → Stored → Type 0) → Type 0
Outcome does = (answer : Answer) × (new : Stored) × does answer new

-- the lowest count to return to, after this many steps
olds : Stored → ℕ → ℕ
olds s zero = s.oldest
olds s (suc k) = oldest_after s.oldest (s.count + suc k)

after : Stored → ℕ → Stored
after s k = record s { count = s.count + k; oldest = olds s k; made = s.made + k }

after_next : (s : Stored) → NoneAbove s.count s.log → (k : ℕ) → session_of (after s (suc k)) ≡ appended s.program (session_of (after s k))
unfolding after olds
after_next s past k = rw (add-suc, ← add-one) (session_next s (s.count + k) _ _ _ _ past (omega arith) (raise k))
  where
    raise : (k : ℕ) → oldest_after s.oldest (s.count + k + 1) ≡ oldest_after (olds s k) (s.count + k + 1)
    raise zero = omega arith
    raise (suc k) = omega arith

either : (m n : ℕ) → (m ≤ n) ⊎ (n < m)
either m n = grind arith

steps_made : (marks : List ℕ) (n : ℕ) (old : Stored) → NoneAbove old.count old.log
    → Outcome (ExecutesSteps old n (advanced old.program marks n (session_of old)))
unfolding after olds session_of
steps_made marks n old past = go (either (old.count + n) 100_000_000)
  where
    go : (old.count + n ≤ 100_000_000) ⊎ (100_000_000 < old.count + n) → Outcome (ExecutesSteps old n (advanced old.program marks n (session_of old)))
    go (inl low) =
        let (k, le, is) = reached old.program marks (λ k. session_of (after old k)) (after_next old past) n 0 in
        let start : session_of (after old 0) ≡ session_of old = rw add-zero in (
          Halted (advanced old.program marks n (session_of old)).halt,
          after old k,
          (low, sym (rw (start, zero-add) at is), refl, record { program = refl; log = refl; breaks = refl; reruns = refl; further = omega arith; within = omega (arith, le); made = λ small. omega arith }),
        )
    go (inr high) = (Refused fault.Steps, old, (high, refl, refl))

breaks_set : (old : Stored) (found : Result (List ℕ) DebugFault) → Outcome (Sets old found)
unfolding session_of
breaks_set old (Ok breaks) = (Done, record old { breaks = breaks }, (refl, refl, refl))
breaks_set old (Err why) = (Refused why, old, (refl, refl))

-- each call has an answer
pub call_answers : (c : Call) (old : Stored) → NoneAbove old.count old.log → (answer : Answer) × (new : Stored) × CallDoes old c answer new
call_answers (call.Step n) old past = steps_made [] n old past
call_answers (call.Go n) old past = steps_made (session_of old).breaks n old past
call_answers (call.TypeKeys keys) old past = go (either (length old.log + length keys) 4096)
  where
    go : (length old.log + length keys ≤ 4096) ⊎ (4096 < length old.log + length keys) → Outcome (CallDoes old (call.TypeKeys keys))
    go (inl low) = (Done, record old { log = old.log ++ typed_at old.count keys }, (low, session_typed old keys old.made, refl))
    go (inr high) = (Refused fault.Full, old, (high, refl, refl))
call_answers (call.Back n) old past = go (either (old.oldest + n) old.count)
  where
    go : (old.oldest + n ≤ old.count) ⊎ (old.count < old.oldest + n) → Outcome (CallDoes old (call.Back n))
    go (inl low) =
        let m = old.count - n in (
          Done,
          record old { count = m; log = up_to m old.log; reruns = m % 1024; made = old.made + m % 1024 },
          (low, session_back old n m (m % 1024) (old.made + m % 1024) (omega (arith, low)), refl, λ small. refl),
        )
    go (inr high) = (Refused fault.TooFar, old, (high, refl, refl))
call_answers (call.SetBreak word) old past = breaks_set old (at_place marked old.program.names word.now old.breaks)
call_answers (call.ClearBreak word) old past = breaks_set old (at_place unmarked old.program.names word.now old.breaks)

-- Keys that a text spells

abbrev Spelt : List ℕ → Type 0
Spelt text = ((keys : List ℕ) × SpellsKeys text keys) ⊎ ((keys : List ℕ) → SpellsKeys text keys → ⊥)

pub spells_only : (text xs ys : List ℕ) → SpellsKeys text xs → SpellsKeys text ys → xs ≡ ys
spells_only text [] [] h k = refl
spells_only text [] (y ∷ ys) h k = absurd (empty_begins y k.0 (rw h at k.1))
spells_only text (x ∷ xs) [] h k = absurd (empty_begins x h.0 (rw k at h.1))
spells_only text (x ∷ xs) (y ∷ ys) h k =
    let same = begins_only text x y h.0 k.0 h.1 k.1 in
    let rest : xs ≡ ys = spells_only k.0 xs ys (rw same.same_rest at h.2) k.2 in
    cc (same.same_key)

spelt_on : (text rest : List ℕ) (key : ℕ) → BeginsWith text key rest → Spelt rest → Spelt text
spelt_on text rest key begins (inl found) = inl (key ∷ found.0, (rest, begins, found.1))
spelt_on text rest key begins (inr none) = inr go
  where
    go : (keys : List ℕ) → SpellsKeys text keys → ⊥
    go [] h = empty_begins key rest (rw h at begins)
    go (k ∷ ks) h =
        let same = begins_only text key k rest h.0 begins h.1 in
        none ks (rw (sym same.same_rest) at h.2)

-- a text that begins with neither a printable character nor \ and the letter of a key
no_spelling : (c : ℕ) (cs : List ℕ) → (0x20 ≤ c → c ≤ 0x7E → c ≢ 0x5C → ⊥)
    → ((l key : ℕ) (ls : List ℕ) → cs ≡ l ∷ ls → c ≡ 0x5C → escaped l ≡ Some key → ⊥) → Spelt (c ∷ cs)
no_spelling c cs plain escape = inr go
  where
    begins : (key : ℕ) (rest : List ℕ) → BeginsWith (c ∷ cs) key rest → ⊥
    begins key rest ([], e, is) = is
    begins key rest (a ∷ [], e, is) = let same : c ≡ a = cc in rw same at plain is.0 is.1 is.2
    begins key rest (a ∷ b ∷ [], e, is) = let same : c ≡ a = cc in escape b key rest (cc) (same ∙ is.0) is.1
    begins key rest (a ∷ b ∷ d ∷ ds, e, is) = is

    go : (keys : List ℕ) → SpellsKeys (c ∷ cs) keys → ⊥
    go [] h = (let bad : ⊥ = cc in bad)
    go (k ∷ ks) h = begins k h.0 h.1

-- a text by its first character, if the rest spells keys, and so does the text after the letter that follows \\
spelt_by : (c : ℕ) (cs : List ℕ) → Spelt cs → ((l : ℕ) (ls : List ℕ) → cs ≡ l ∷ ls → Spelt ls) → Spelt (c ∷ cs)
spelt_by c cs rest following = go split
  where
    split : ((0x20 ≤ c) × (c ≤ 0x7E) × (c ≢ 0x5C)) ⊎ (c ≡ 0x5C) ⊎ ((0x20 ≤ c → c ≤ 0x7E → ⊥) × (c ≢ 0x5C))
    split = grind arith

    letter : (l : ℕ) (ls : List ℕ) → cs ≡ l ∷ ls → c ≡ 0x5C → (o : Option ℕ) → escaped l ≡ o → Spelt (c ∷ cs)
    letter l ls e slash (Some key) is = rw e (spelt_on (c ∷ l ∷ ls) ls key (c ∷ l ∷ [], refl, (slash, is)) (following l ls e))
    letter l ls e slash None is = no_spelling c cs (λ low high other. other slash) (λ m key ms f s found. (let same : l ≡ m = cc in let bad : None ≡ Some key = cc in cc))

    escape : (ds : List ℕ) → cs ≡ ds → c ≡ 0x5C → Spelt (c ∷ cs)
    escape [] e slash = no_spelling c cs (λ low high other. other slash) (λ l key ls f s found. (let bad : ⊥ = cc in bad))
    escape (l ∷ ls) e slash = letter l ls e slash (escaped l) refl

    go : ((0x20 ≤ c) × (c ≤ 0x7E) × (c ≢ 0x5C)) ⊎ (c ≡ 0x5C) ⊎ ((0x20 ≤ c → c ≤ 0x7E → ⊥) × (c ≢ 0x5C)) → Spelt (c ∷ cs)
    go (inl (low, high, other)) = spelt_on (c ∷ cs) cs c (c ∷ [], refl, (low, high, other, refl)) rest
    go (inr (inl slash)) = escape cs refl slash
    go (inr (inr (unseen, other))) = no_spelling c cs (λ low high _. unseen low high) (λ l key ls e slash found. other slash)

-- each text spells keys, or does not
spelt : (text : List ℕ) → Spelt text
spelt [] = inl ([], refl)
spelt (c ∷ []) = spelt_by c [] (inl ([], refl)) (λ l ls e. (let bad : ⊥ = cc in absurd bad))
spelt (c ∷ l ∷ ls) = spelt_by c (l ∷ ls) (spelt (l ∷ ls)) (λ m ms e. (let same : ls ≡ ms = cc in rw same at (spelt ls)))

-- Verbs and their calls

-- the verb with this second letter
by_letter : List ℕ → Verb
by_letter [] = Screen
by_letter (a ∷ []) = Screen
by_letter (a ∷ b ∷ more) =
    cond (eqb b 84) Step (cond (eqb b 79) Go (cond (eqb b 65) Back
    (cond (eqb b 82) Break (cond (eqb b 76) Clear (cond (eqb b 89) TypeKeys Screen)))))

spelled : (verb : Verb) → by_letter (verb_letters verb) ≡ verb
unfolding by_letter
spelled Step = refl
spelled _ = refl

pub verb-one : (line : List ℕ) (verb other : Verb) → IsVerb line verb → IsVerb line other → verb ≡ other
verb-one line verb other h k = sym (spelled verb) ∙ ap by_letter (h ∙ sym k) ∙ spelled other

abbrev Found : List ℕ → Type 0
Found word = ((verb : Verb) × (verb_letters verb ≡ word)) ⊎ ((verb : Verb) → verb_letters verb ≡ word → ⊥)

verb_in : (word : List ℕ) → Found word
verb_in word = go (bytes_eq (verb_letters (by_letter word)) word) (bytes_eq-Decides (verb_letters (by_letter word)) word)
  where
    go : (b : Bool) → Decides b (verb_letters (by_letter word) ≡ word) → Found word
    go true is = inl (by_letter word, is.0 refl)
    go false is = inr (λ verb e. (let same : by_letter word ≡ verb = ap by_letter (sym e) ∙ spelled verb in false≢true (is.1 (ap verb_letters same ∙ e))))

abbrev Asked : Verb → List ℕ → Type 0
Asked verb rest = ((c : Call) × MeansCall verb rest c) ⊎ MeansNoCall verb rest

by_option : {X Y : Type 0} (o : Option X) → ((x : X) → o ≡ Some x → Y) → (o ≡ None → Y) → Y
by_option (Some x) some none = some x refl
by_option None some none = none refl

asked : (verb : Verb) (rest : List ℕ) → Asked verb rest
asked Step rest = by_option (only_number (words rest)) (λ n e. inl (call.Step n, e)) (λ e. inr (lacking Step rest e))
asked Go rest = by_option (only_number (words rest)) (λ n e. inl (call.Go n, e)) (λ e. inr (lacking Go rest e))
asked Back rest = by_option (only_number (words rest)) (λ n e. inl (call.Back n, e)) (λ e. inr (lacking Back rest e))
asked Break rest = by_option (only_word (words rest)) (λ word e. inl (call.SetBreak (record { ref_ptr = (0, 0); now = word }), e)) (λ e. inr (lacking Break rest e))
asked Clear rest = by_option (only_word (words rest)) (λ word e. inl (call.ClearBreak (record { ref_ptr = (0, 0); now = word }), e)) (λ e. inr (lacking Clear rest e))
asked TypeKeys [] = inr (lacking TypeKeys [] (λ some keys h. omega (arith, some)))
asked TypeKeys (c ∷ cs) = go (spelt cs)
  where
    fits : (keys : List ℕ) → SpellsKeys cs keys → (length keys ≤ 4096) ⊎ (4096 < length keys) → Asked TypeKeys (c ∷ cs)
    fits keys h (inl low) = inl (call.TypeKeys keys, (omega arith, h, low))
    fits keys h (inr high) = inr (lacking TypeKeys (c ∷ cs) (λ some others k. rw (spells_only cs others keys k h) high))

    go : Spelt cs → Asked TypeKeys (c ∷ cs)
    go (inl found) = fits found.0 found.1 (either (length found.0) 4096)
    go (inr none) = inr (lacking TypeKeys (c ∷ cs) (λ some keys h. absurd (none keys h)))
asked Screen rest = inr (λ c says. says)

-- Lines

abbrev pub Met : List ℕ → Stored → Type 0
Met line old = ((text : List ℕ) × (new : Stored) × IsDebugAnswer line old text new) ⊎ ((why : DebugFault) × IsLineRejected line old why)

-- each line has an answer or an error
pub met : (line : List ℕ) (old : Stored) → NoneAbove old.count old.log → Met line old
met line old past = go (first_word line) refl
  where
    done : (verb : Verb) → verb ≢ Screen → IsVerb line verb → (c : Call) → MeansCall verb (after_first_word line) c
        → (answer : Answer) (new : Stored) → CallDoes old c answer new → Met line old
    done verb other is c says (Halted halt) new does =
        inl (session_line new ++ halt_line halt, new, inr (inr (verb, is, record { answer = Halted halt; called = (c, says, does); spelt = refl })))
    done verb other is c says Done new does =
        inl (done_text verb new, new, inr (inr (verb, is, record { answer = Done; called = (c, says, does); spelt = refl })))
    done verb other is c says (Refused why) new does =
        inr (why, inr (inr (verb, other, is, record { cause = inr (c, says, rw (refused_same old new c why does) at does) })))

    obeyed : (verb : Verb) → verb ≢ Screen → IsVerb line verb → Asked verb (after_first_word line) → Met line old
    obeyed verb other is (inr none) = inr (fault.Syntax, inr (inr (verb, other, is, record { cause = inl (none, refl) })))
    obeyed verb other is (inl (c, says)) = let (answer, new, does) = call_answers c old past in done verb other is c says answer new does

    shown : IsVerb line Screen → (ws : List (List ℕ)) → words (after_first_word line) ≡ ws → Met line old
    shown is [] e = inl (session_picture old, old, inr (inl (is, e, refl, refl)))
    shown is (w ∷ ws) e = inr (fault.Syntax, inr (inl (is, λ nothing. (let bad : ⊥ = cc in bad), refl)))

    by_verb : (verb : Verb) → IsVerb line verb → Met line old
    by_verb Screen is = shown is (words (after_first_word line)) refl
    by_verb verb is = obeyed verb (λ e. cc) is (asked verb (after_first_word line))

    with_verb : first_word line ≢ [] → Found (map capital (first_word line)) → Met line old
    with_verb some (inl found) = by_verb found.0 found.1
    with_verb some (inr none) = inr (fault.Syntax, inl (some, none, refl))

    go : (word : List ℕ) → first_word line ≡ word → Met line old
    go [] e = inl ([], old, inl (e, refl, refl))
    go (c ∷ cs) e = with_verb (λ nothing. (let bad : ⊥ = cc in bad)) (verb_in (map capital (first_word line)))

-- All keys are still typed at counts up to the current one

steps_past : (old new : Stored) (n : ℕ) (end : End) (answer : Answer) → ExecutesSteps old n end answer new → NoneAbove old.count old.log → NoneAbove new.count new.log
steps_past old new n end (Refused why) h past = rw h.2 past
steps_past old new n end Done h past = absurd h
steps_past old new n end (Halted halt) h past = rw h.3.log (omega (arith, past, h.3.further))

sets_past : (old new : Stored) (found : Result (List ℕ) DebugFault) (answer : Answer) → Sets old found answer new → NoneAbove old.count old.log → NoneAbove new.count new.log
sets_past old new (Ok breaks) answer h past = rw h.2 past
sets_past old new (Err why) answer h past = rw h.1 past

pub does_past : (old new : Stored) (c : Call) (answer : Answer) → CallDoes old c answer new → NoneAbove old.count old.log → NoneAbove new.count new.log
does_past old new (call.Step n) answer h past = steps_past old new n _ answer h past
does_past old new (call.Go n) answer h past = steps_past old new n _ answer h past
does_past old new (call.TypeKeys keys) Done h past =
    rw h.2 (All-append (λ t. t.count ≤ old.count) old.log (typed_at old.count keys) past (omega (arith, typed_then old.count keys)))
does_past old new (call.TypeKeys keys) (Refused why) h past = rw h.2 past
does_past old new (call.TypeKeys keys) (Halted halt) h past = absurd h
does_past old new (call.Back n) Done h past = rw h.2 (NoneAbove-up_to old.log (old.count - n))
does_past old new (call.Back n) (Refused why) h past = rw h.2 past
does_past old new (call.Back n) (Halted halt) h past = absurd h
does_past old new (call.SetBreak word) answer h past = sets_past old new (at_place marked old.program.names word.now old.breaks) answer h past
does_past old new (call.ClearBreak word) answer h past = sets_past old new (at_place unmarked old.program.names word.now old.breaks) answer h past

-- each list of calls has answers
pub calls_answer : (calls : List Call) (old : Stored) → NoneAbove old.count old.log → (answers : List Answer) × (new : Stored) × Run old calls answers new
calls_answer [] old past = ([], old, refl)
calls_answer (c ∷ calls) old past =
    let (answer, mid, does) = call_answers c old past in
    let (answers, new, runs) = calls_answer calls mid (does_past old mid c answer does past) in
    (answer ∷ answers, new, (mid, does, runs))

pub answered_past : (line : List ℕ) (old : Stored) (text : List ℕ) (new : Stored) → IsDebugAnswer line old text new → NoneAbove old.count old.log → NoneAbove new.count new.log
answered_past line old text new (inl blank) past = rw blank.2 past
answered_past line old text new (inr (inl screen)) past = rw screen.3 past
answered_past line old text new (inr (inr obeyed)) past = does_past old new obeyed.2.called.0 obeyed.2.answer obeyed.2.called.2 past

-- No line is rejected because of a failed write

place_no : (names : Names) (word : List ℕ) → word_address names word ≡ Err fault.Write → ⊥
unfolding word_address
place_no names [] e = (let bad : ⊥ = cc in bad)
place_no names (c ∷ cs) e = grind arith

does_no : (old : Stored) (c : Call) → CallDoes old c (Refused fault.Write) old → ⊥
does_no old (call.Step n) h = let same = h.1 in cc
does_no old (call.Go n) h = let same = h.1 in cc
does_no old (call.TypeKeys keys) h = let same = h.1 in cc
does_no old (call.Back n) h = let same = h.1 in cc
does_no old (call.SetBreak word) h = let never = place_no old.program.names word.now in grind arith
does_no old (call.ClearBreak word) h = let never = place_no old.program.names word.now in grind arith

pub never_by_write : (line : List ℕ) (old : Stored) → IsLineRejected line old fault.Write → ⊥
never_by_write line old (inl none) = let same = none.2 in cc
never_by_write line old (inr (inl more)) = let same = more.2 in cc
never_by_write line old (inr (inr (verb, other, is, refused))) = go refused.cause
  where
    go : (MeansNoCall verb (after_first_word line) × (fault.Write ≡ fault.Syntax)) ⊎ ((c : Call) × MeansCall verb (after_first_word line) c × CallDoes old c (Refused fault.Write) old) → ⊥
    go (inl none) = let same = none.1 in cc
    go (inr (c, says, does)) = does_no old c does
