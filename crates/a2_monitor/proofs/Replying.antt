-- Each line has one reply.
use Rattle.std.specs.Prelude.{codes}
use Rattle.std.specs.Option.{unwrap_or}
use Rattle.std.proofs.Common.{◌≡◌, ℕ, ◌+◌, ◌-◌, min, List, [], ◌++◌, length, Option, Some, None, refl, sym, ap, ◌∙◌, inl, inr}
use Rattle.a2_machine.specs.ByteRun.{bytes}
use Rattle.a2_machine.specs.Meaning.{End}
use Rattle.a2_machine.specs.Start.{called_at}
use Rattle.a2_machine.specs.State.{most_steps}
use Rattle.a2_machine.proofs.RunFrom.{run_from}
use Rattle.a2_machine.proofs.Runs.{run-is_end, end-unique}
use Rattle.a2_monitor.specs.declared.fault.MonFault.{MonFault}
use Rattle.a2_monitor.specs.declared.fault.MonFault.TheVariants as fault
use Rattle.a2_monitor.specs.Commands.{Command, command_of, nothing, examines, stores, moves, verifies, lists, goes}
use Rattle.a2_monitor.specs.SessionStates.{SessionState, CommandDoes, end_lines, command_error, state_with, examined, differences, listed, with_stored_bytes, moved}
use Rattle.a2_monitor.specs.Answers.{IsAnswered, line_error}
use Rattle.a2_monitor.specs.Replies.{IsReply}
use Rattle.a2_monitor.specs.Texts.{monitor_fault_text}

pub refusal_is : (line : List ℕ) (old : SessionState) (o : Option Command) → command_of line ≡ o
    → line_error line old ≡ (elim o [ None ↦ Some fault.Syntax | Some command ↦ command_error command old.next ])
refusal_is line old o h = rw (h, line_error)

-- each command has an answer
answered : (command : Command) (old : SessionState) → (text : List ℕ) × (new : SessionState) × CommandDoes command old text new
answered nothing old = ([], old, (refl, refl))
answered (examines range) old = (examined old.world.memory range, record old { next = range.first }, (refl, refl))
answered (stores store) old =
    let at = unwrap_or store.address old.next in
    ([], record (state_with old (with_stored_bytes old.world.memory at store.bytes)) { next = at + length store.bytes }, (refl, refl))
answered (moves to range) old = ([], state_with old (moved old.world.memory range to), (refl, refl))
answered (verifies to range) old = (differences old.world.memory range to, old, (refl, refl))
answered (lists at) old = (listed old.world.memory at 20, old, (refl, refl))
answered (goes at) old =
    let end : End = run_from (bytes None) (called_at at old.world) 0 (min 1_000_000 (most_steps - old.steps)) in (
      end_lines end.world (old.steps + end.steps) end.cause,
      record { world = end.world; steps = old.steps + end.steps; next = old.next },
      (end.cause, record { end = end; runs = run-is_end (bytes None) (called_at at old.world) (min 1_000_000 (most_steps - old.steps)); left = refl; cause_is = refl }, refl),
    )

turned_down : (line : List ℕ) (old : SessionState) (why : MonFault) → line_error line old ≡ Some why → (text : List ℕ) × (new : SessionState) × IsReply line old text new
turned_down line old why h = (monitor_fault_text why ++ codes "\n", old, inr (record { fault = why; refused = h; told = refl; kept = refl }))

-- so each line has a reply
pub each-reply : (line : List ℕ) (old : SessionState) → (text : List ℕ) × (new : SessionState) × IsReply line old text new
each-reply line old = go (command_of line) refl
  where
    done : (command : Command) → command_of line ≡ Some command → (o : Option MonFault) → command_error command old.next ≡ o
        → (text : List ℕ) × (new : SessionState) × IsReply line old text new
    done command says (Some why) h = turned_down line old why (refusal_is line old (Some command) says ∙ h)
    done command says None h =
        let (text, new, answers) = answered command old in
        (text, new, inl (record { command = command; says = says; done = record { allowed = h; answers = answers } }))

    go : (o : Option Command) → command_of line ≡ o → (text : List ℕ) × (new : SessionState) × IsReply line old text new
    go None h = turned_down line old fault.Syntax (refusal_is line old None h)
    go (Some command) h = done command h (command_error command old.next) refl

-- a command has only one answer
abbrev Same : List ℕ → List ℕ → SessionState → SessionState → Type 0
Same text words new other = (text ≡ words) × (new ≡ other)

one-answer : (command : Command) (old new other : SessionState) (text words : List ℕ) → CommandDoes command old text new → CommandDoes command old words other
    → Same text words new other
one-answer (goes at) old new other text words (cause, a, told) (why, b, said) =
    let same : a.end ≡ b.end = end-unique (bytes None) (called_at at old.world) (min 1_000_000 (most_steps - old.steps)) a.end b.end a.runs b.runs in
    let left : new ≡ other = cc (a.left, b.left) in
    (cc (told, said, a.cause_is, b.cause_is), left)
one-answer nothing old new other text words a b = (a.0 ∙ sym b.0, a.1 ∙ sym b.1)
one-answer (examines range) old new other text words a b = (a.0 ∙ sym b.0, a.1 ∙ sym b.1)
one-answer (stores store) old new other text words a b = (a.0 ∙ sym b.0, a.1 ∙ sym b.1)
one-answer _ old new other text words a b = (a.0 ∙ sym b.0, a.1 ∙ sym b.1)

-- a line that is answered is not rejected
answered-allowed : (line : List ℕ) (old new : SessionState) (text : List ℕ) → IsAnswered line old text new → line_error line old ≡ None
answered-allowed line old new text a = refusal_is line old (Some a.command) a.says ∙ a.done.allowed

pub one-reply : (line : List ℕ) (old new other : SessionState) (text words : List ℕ) → IsReply line old text new → IsReply line old words other
    → (text ≡ words) × (new ≡ other)
one-reply line old new other text words (inl a) (inl b) =
    let same : a.command ≡ b.command = cc (a.says, b.says) in
    one-answer b.command old new other text words (rw same at a.done.answers) b.done.answers
one-reply line old new other text words (inl a) (inr b) = let none = answered-allowed line old new text a in let some = b.refused in cc
one-reply line old new other text words (inr a) (inl b) = let none = answered-allowed line old other words b in let some = a.refused in cc
one-reply line old new other text words (inr a) (inr b) =
    let same : a.fault ≡ b.fault = cc (a.refused, b.refused) in
    (a.told ∙ ap (λ why. monitor_fault_text why ++ codes "\n") same ∙ sym b.told, a.kept ∙ sym b.kept)
