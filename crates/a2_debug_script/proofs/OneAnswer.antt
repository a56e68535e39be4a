-- On debuggers that look alike, each call has one answer, and each line has one answer or one error.
use Rattle.std.proofs.Common.{◌≡◌, ◌⊎◌, ℕ, List, [], ◌∷◌, ◌++◌, length, map, drop, Result, Ok, Err, refl, sym, ap, ap₂, ◌∙◌, inl, inr, arith}
use Rattle.a2_text.specs.Bytes.{capital}
use Rattle.a2_text.specs.Words.{words, first_word, after_first_word}
use Rattle.a2_debug_script.specs.declared.fault.DebugFault.{DebugFault}
use Rattle.a2_debug_script.specs.declared.fault.DebugFault.TheVariants as fault
use Rattle.a2_debug_script.specs.declared.calls.Call.{Call}
use Rattle.a2_debug_script.specs.declared.calls.Call.TheVariants as call
use Rattle.a2_debug_script.specs.declared.calls.Answer.{Answer}
use Rattle.a2_debug_script.specs.declared.calls.Answer.TheVariants.{Halted, Done, Refused}
use Rattle.a2_debug_script.specs.declared.commands.Verb.{Verb}
use Rattle.a2_debug_script.specs.declared.commands.Verb.TheVariants.{Step, Go, Back, Break, Clear, TypeKeys, Screen}
use Rattle.a2_debug_script.specs.declared.Halt.{Halt}
use Rattle.a2_debug_script.specs.Session.{Halted as End}
use Rattle.a2_debug_script.specs.Stored.{Stored}
use Rattle.a2_debug_script.specs.Marks.{marked, unmarked, at_place}
use Rattle.a2_debug_script.specs.Calls.{CallDoes, ExecutesSteps, Sets, Run}
use Rattle.a2_debug_script.specs.Lines.{verb_letters, halt_line}
use Rattle.a2_debug_script.specs.Answers.{MeansCall, MeansNoCall, IsAnswerText, IsCallAnswered, IsCallDone, IsVerb, IsDebugAnswer, IsLineRejected}
use Rattle.a2_debug_script.specs.Laws.{LookAlike}
use Rattle.a2_debug_script.proofs.Alike.{stepped-alike, stepped_to_break-alike, line-alike, picture-alike, moves-alike, both-alike}
use Rattle.a2_debug_script.proofs.Total.{spells_only, verb-one}

-- Calls

-- two equal answers, and states that look alike
abbrev One : Answer → Answer → Stored → Stored → Type 0
One answer other new next = (answer ≡ other) × LookAlike new next

refused-one : (old other new next : Stored) (why reason told : DebugFault) → LookAlike old other
    → (why ≡ told) × (new ≡ old) → (reason ≡ told) × (next ≡ other) → One (Refused why) (Refused reason) new next
refused-one old other new next why reason told like (a, kept) (b, left) = (ap (λ f. Refused f) (a ∙ sym b), both-alike new next old other kept left like)

steps-one : (old other new next : Stored) (n : ℕ) (end final : End) (a b : Answer) → LookAlike old other → end ≡ final
    → ExecutesSteps old n end a new → ExecutesSteps other n final b next → One a b new next
steps-one old other new next n end final (Refused why) (Refused reason) like same h k =
    refused-one old other new next why reason fault.Steps like (h.1, h.2) (k.1, k.2)
steps-one old other new next n end final (Halted halt) (Halted stop) like same h k = (
  ap (λ (e : Halt). Halted e) (h.2 ∙ ap (λ (e : End). e.halt) same ∙ sym k.2),
  moves-alike old other new next n like (h.1 ∙ ap (λ (e : End). e.session) same ∙ sym k.1) h.3 k.3,
)
steps-one old other new next n end final (Refused why) (Halted halt) like same h k = absurd (omega (arith, like.count, h.0, k.0))
steps-one old other new next n end final (Halted halt) (Refused why) like same h k = absurd (omega (arith, like.count, h.0, k.0))
steps-one old other new next n end final Done b like same h k = absurd h
steps-one old other new next n end final a Done like same h k = absurd k

typed-one : (old other new next : Stored) (keys : List ℕ) (a b : Answer) → LookAlike old other
    → CallDoes old (call.TypeKeys keys) a new → CallDoes other (call.TypeKeys keys) b next → One a b new next
typed-one old other new next keys (Refused why) (Refused reason) like h k =
    refused-one old other new next why reason fault.Full like (h.1, h.2) (k.1, k.2)
typed-one old other new next keys Done Done like h k = (
  refl,
  both-alike new next _ _ h.2 k.2 (search like),
)
typed-one old other new next keys (Refused why) Done like h k = absurd (omega (arith, ap length like.log, h.0, k.0))
typed-one old other new next keys Done (Refused why) like h k = absurd (omega (arith, ap length like.log, h.0, k.0))
typed-one old other new next keys (Halted halt) b like h k = absurd h
typed-one old other new next keys a (Halted halt) like h k = absurd k

back-one : (old other new next : Stored) (n : ℕ) (a b : Answer) → LookAlike old other
    → CallDoes old (call.Back n) a new → CallDoes other (call.Back n) b next → One a b new next
back-one old other new next n (Refused why) (Refused reason) like h k =
    refused-one old other new next why reason fault.TooFar like (h.1, h.2) (k.1, k.2)
back-one old other new next n Done Done like h k = (
  refl,
  both-alike new next _ _ h.2 k.2 (grind (arith, like)),
)
back-one old other new next n (Refused why) Done like h k = absurd (omega (arith, like.count, like.oldest, h.0, k.0))
back-one old other new next n Done (Refused why) like h k = absurd (omega (arith, like.count, like.oldest, h.0, k.0))
back-one old other new next n (Halted halt) b like h k = absurd h
back-one old other new next n a (Halted halt) like h k = absurd k

sets-one : (old other new next : Stored) (found : Result (List ℕ) DebugFault) (a b : Answer) → LookAlike old other
    → Sets old found a new → Sets other found b next → One a b new next
sets-one old other new next (Ok breaks) a b like h k = (h.0 ∙ sym k.0, both-alike new next _ _ h.2 k.2 (search like))
sets-one old other new next (Err why) a b like h k = (h.0 ∙ sym k.0, both-alike new next old other h.1 k.1 like)

pub does-one : (old other new next : Stored) (c : Call) (a b : Answer) → LookAlike old other
    → CallDoes old c a new → CallDoes other c b next → One a b new next
does-one old other new next (call.Step n) a b like h k = steps-one old other new next n _ _ a b like (stepped-alike old other n like) h k
does-one old other new next (call.Go n) a b like h k = steps-one old other new next n _ _ a b like (stepped_to_break-alike old other n like) h k
does-one old other new next (call.TypeKeys keys) a b like h k = typed-one old other new next keys a b like h k
does-one old other new next (call.Back n) a b like h k = back-one old other new next n a b like h k
does-one old other new next (call.SetBreak word) a b like h k =
    sets-one old other new next _ a b like (rw (ap₂ (λ names breaks. at_place marked names word.now breaks) like.programs.names_are like.breaks) at h) k
does-one old other new next (call.ClearBreak word) a b like h k =
    sets-one old other new next _ a b like (rw (ap₂ (λ names breaks. at_place unmarked names word.now breaks) like.programs.names_are like.breaks) at h) k

pub run-one : (calls : List Call) (answers also : List Answer) (old other new next : Stored) → LookAlike old other
    → Run old calls answers new → Run other calls also next → (answers ≡ also) × LookAlike new next
run-one [] [] [] old other new next like a b = (refl, both-alike new next old other a b like)
run-one (c ∷ calls) (a ∷ answers) (b ∷ also) old other new next like (mid, does, runs) (between, did, ran) =
    let (same, after) = does-one old other mid between c a b like does did in
    let (rest, end) = run-one calls answers also mid between new next after runs ran in
    (ap₂ (λ x xs. x ∷ xs) same rest, end)
run-one [] (a ∷ answers) also old other new next like h k = absurd h
run-one (c ∷ calls) [] also old other new next like h k = absurd h
run-one calls answers also old other new next like h k = absurd k

-- What a verb and the text after it mean

-- a call, wherever its word is stored
plain : Call → Call
plain (call.SetBreak word) = call.SetBreak (record { ref_ptr = (0, 0); now = word.now })
plain (call.ClearBreak word) = call.ClearBreak (record { ref_ptr = (0, 0); now = word.now })
plain c = c

does-plain : (old : Stored) (c : Call) (answer : Answer) (new : Stored) → CallDoes old c answer new → CallDoes old (plain c) answer new
unfolding plain
does-plain old (call.Step n) answer new h = h
does-plain old _ answer new h = h

call-one : (verb : Verb) (rest : List ℕ) (c d : Call) → MeansCall verb rest c → MeansCall verb rest d → plain c ≡ plain d
unfolding plain
call-one Step rest (call.Step n) (call.Step m) h k = cc
call-one Step rest (call.Step n) d h k = absurd k
call-one Go rest (call.Go n) (call.Go m) h k = cc
call-one Go rest (call.Go n) d h k = absurd k
call-one Back rest (call.Back n) (call.Back m) h k = cc
call-one Back rest (call.Back n) d h k = absurd k
call-one Break rest (call.SetBreak word) (call.SetBreak other) h k = let same : word.now ≡ other.now = cc in cc
call-one Break rest (call.SetBreak word) d h k = absurd k
call-one Clear rest (call.ClearBreak word) (call.ClearBreak other) h k = let same : word.now ≡ other.now = cc in cc
call-one Clear rest (call.ClearBreak word) d h k = absurd k
call-one TypeKeys rest (call.TypeKeys keys) (call.TypeKeys others) h k = ap (λ x. call.TypeKeys x) (spells_only (drop 1 rest) keys others h.1 k.1)
call-one TypeKeys rest (call.TypeKeys keys) d h k = absurd k
call-one verb rest c d h k = absurd h

screen_says : (line : List ℕ) (verb : Verb) (rest : List ℕ) (c : Call) → MeansCall verb rest c → IsVerb line verb → IsVerb line Screen → ⊥
screen_says line verb rest c h is screen = rw (verb-one line verb Screen is screen) at h

-- a blank line does not begin with a verb
blank_none : (line : List ℕ) (verb : Verb) → first_word line ≡ [] → IsVerb line verb → ⊥
blank_none line Step blank h = let bad : verb_letters Step ≡ map capital [] = rw blank at h in cc
blank_none line verb blank h = let bad : verb_letters verb ≡ map capital [] = rw blank at h in cc

-- Lines

text-one : (verb : Verb) (answer : Answer) (new next : Stored) (text words : List ℕ) → LookAlike new next
    → IsAnswerText verb answer new text → IsAnswerText verb answer next words → text ≡ words
text-one verb (Halted halt) new next text words like h k = h ∙ ap (λ l. l ++ halt_line halt) (line-alike new next like) ∙ sym k
text-one Back Done new next text words like h k = h ∙ line-alike new next like ∙ sym k
text-one verb Done new next text words like h k = h ∙ sym k
text-one verb (Refused why) new next text words like h k = absurd h

-- a verb and the text after it have only one result
said-one : (verb : Verb) (rest : List ℕ) (old other new next : Stored) (c d : Call) (a b : Answer) → LookAlike old other
    → MeansCall verb rest c → MeansCall verb rest d → CallDoes old c a new → CallDoes other d b next → One a b new next
said-one verb rest old other new next c d a b like says said does did =
    does-one old other new next (plain d) a b like (rw (call-one verb rest c d says said) at (does-plain old c a new does)) (does-plain other d b next did)

done-one : (verb : Verb) (rest text words : List ℕ) (old other new next : Stored) → LookAlike old other
    → IsCallDone verb rest old text new → IsCallDone verb rest other words next → (text ≡ words) × LookAlike new next
done-one verb rest text words old other new next like a b =
    let (same, left) = said-one verb rest old other new next a.called.0 b.called.0 a.answer b.answer like a.called.1 b.called.1 a.called.2 b.called.2 in
    (text-one verb b.answer new next text words left (rw same at a.spelt) b.spelt, left)

pub one-answer : (line text words : List ℕ) (old other new next : Stored) → LookAlike old other
    → IsDebugAnswer line old text new → IsDebugAnswer line other words next → (text ≡ words) × LookAlike new next
one-answer line text words old other new next like (inl a) (inl b) = (a.1 ∙ sym b.1, both-alike new next old other a.2 b.2 like)
one-answer line text words old other new next like (inl a) (inr (inl b)) = absurd (blank_none line Screen a.0 b.0)
one-answer line text words old other new next like (inl a) (inr (inr (verb, is, b))) = absurd (blank_none line verb a.0 is)
one-answer line text words old other new next like (inr (inl a)) (inl b) = absurd (blank_none line Screen b.0 a.0)
one-answer line text words old other new next like (inr (inl a)) (inr (inl b)) =
    (a.2 ∙ picture-alike old other like ∙ sym b.2, both-alike new next old other a.3 b.3 like)
one-answer line text words old other new next like (inr (inl a)) (inr (inr (verb, is, b))) =
    absurd (screen_says line verb _ b.called.0 b.called.1 is a.0)
one-answer line text words old other new next like (inr (inr (verb, is, a))) (inl b) = absurd (blank_none line verb b.0 is)
one-answer line text words old other new next like (inr (inr (verb, is, a))) (inr (inl b)) =
    absurd (screen_says line verb _ a.called.0 a.called.1 is b.0)
one-answer line text words old other new next like (inr (inr (verb, is, a))) (inr (inr (verb', is', b))) =
    done-one verb' (after_first_word line) text words old other new next like (rw (verb-one line verb verb' is is') at a) b

abbrev Refuses : Verb → List ℕ → Stored → DebugFault → Type 0
Refuses verb rest old why = (MeansNoCall verb rest × (why ≡ fault.Syntax)) ⊎ IsCallAnswered verb rest old (Refused why) old

done_unrefused : (verb : Verb) (rest text : List ℕ) (old other new : Stored) (why : DebugFault) → LookAlike old other
    → IsCallDone verb rest old text new → Refuses verb rest other why → ⊥
done_unrefused verb rest text old other new why like a (inl none) = none.0 a.called.0 a.called.1
done_unrefused verb rest text old other new why like a (inr (c, says, does)) =
    let one = said-one verb rest old other new other a.called.0 c a.answer (Refused why) like a.called.1 says a.called.2 does in rw one.0 at a.spelt

pub never-both : (line text : List ℕ) (old other new : Stored) (why : DebugFault) → LookAlike old other
    → IsDebugAnswer line old text new → IsLineRejected line other why → ⊥
never-both line text old other new why like (inl a) (inl b) = b.0 a.0
never-both line text old other new why like (inl a) (inr (inl b)) = blank_none line Screen a.0 b.0
never-both line text old other new why like (inl a) (inr (inr (verb, some, is, b))) = blank_none line verb a.0 is
never-both line text old other new why like (inr (inl a)) (inl b) = b.1 Screen a.0
never-both line text old other new why like (inr (inl a)) (inr (inl b)) = b.1 a.1
never-both line text old other new why like (inr (inl a)) (inr (inr (verb, some, is, b))) = some (verb-one line verb Screen is a.0)
never-both line text old other new why like (inr (inr (verb, is, a))) (inl b) = b.1 verb is
never-both line text old other new why like (inr (inr (verb, is, a))) (inr (inl b)) =
    screen_says line verb _ a.called.0 a.called.1 is b.0
never-both line text old other new why like (inr (inr (verb, is, a))) (inr (inr (verb', some, is', b))) =
    done_unrefused verb' (after_first_word line) text old other new why like (rw (verb-one line verb verb' is is') at a) b.cause

refusal-one : (verb : Verb) (rest : List ℕ) (old other : Stored) (why reason : DebugFault) → LookAlike old other
    → Refuses verb rest old why → Refuses verb rest other reason → why ≡ reason
refusal-one verb rest old other why reason like (inl none) (inl nor) = none.1 ∙ sym nor.1
refusal-one verb rest old other why reason like (inl none) (inr (d, says, does)) = absurd (none.0 d says)
refusal-one verb rest old other why reason like (inr (c, says, does)) (inl nor) = absurd (nor.0 c says)
refusal-one verb rest old other why reason like (inr (c, says, does)) (inr (d, said, did)) =
    let one = said-one verb rest old other old other c d (Refused why) (Refused reason) like says said does did in
    let same : Refused why ≡ Refused reason = one.0 in
    cc

pub one-refusal : (line : List ℕ) (old other : Stored) (why reason : DebugFault) → LookAlike old other
    → IsLineRejected line old why → IsLineRejected line other reason → why ≡ reason
one-refusal line old other why reason like (inl a) (inl b) = a.2 ∙ sym b.2
one-refusal line old other why reason like (inl a) (inr (inl b)) = a.2 ∙ sym b.2
one-refusal line old other why reason like (inl a) (inr (inr (verb, some, is, b))) = absurd (a.1 verb is)
one-refusal line old other why reason like (inr (inl a)) (inl b) = a.2 ∙ sym b.2
one-refusal line old other why reason like (inr (inl a)) (inr (inl b)) = a.2 ∙ sym b.2
one-refusal line old other why reason like (inr (inl a)) (inr (inr (verb, some, is, b))) = absurd (some (verb-one line verb Screen is a.0))
one-refusal line old other why reason like (inr (inr (verb, some, is, a))) (inl b) = absurd (b.1 verb is)
one-refusal line old other why reason like (inr (inr (verb, some, is, a))) (inr (inl b)) = absurd (some (verb-one line verb Screen is b.0))
one-refusal line old other why reason like (inr (inr (verb, some, is, a))) (inr (inr (verb', some', is', b))) =
    refusal-one verb' (after_first_word line) old other why reason like (rw (verb-one line verb verb' is is') at a).cause b.cause
