-- From a source text to what its run writes. The text is read and its bytes are placed by computation, its run is a
-- walk over its statements, and the result of `run_text` follows.
use Rattle.std.specs.Prelude.{◌≡◌, ◌≤◌, ℕ, Bool, true, false, ◌&&◌, not, nat_lt, List, [], Option, Some, None, Result, Ok, Err, is_some, unwrap_or, if◌then◌else◌, refl}
use Rattle.std.specs.List.{list_all}
use Rattle.std.proofs.Common.{sym, ap, ◌∙◌, subst, inl, inr}
use Rattle.std.proofs.lemmas.Bool.{false≢true}
use Rattle.a2_stream.specs.Stream.{Breaks, Sends}
use Rattle.a2_syntax.specs.Bare.{BareLine}
use Rattle.a2_syntax.specs.Sources.{IsSource}
use Rattle.a2_syntax.specs.declared.fault.Fault.{Fault}
use Rattle.a2_syntax.proofs.Reader.{read_source, read-is_source}
use Rattle.a2_syntax.proofs.OneReading.{one-source, refused-none}
use Rattle.a2_hex.specs.Images.{held}
use Rattle.a2_asm.specs.declared.program.Statement.{Statement}
use Rattle.a2_asm.specs.Layout.{names}
use Rattle.a2_asm.specs.Bytes as laid
use Rattle.a2_asm.specs.Pass.{source_rows, layout_error}
use Rattle.a2_asm.specs.Refusals.{IsLayoutError}
use Rattle.a2_asm.specs.Programs.{IsProgram, instr_at, is_code}
use Rattle.a2_asm.proofs.MadeLaws.{IsMade, made-of, refusal-of}
use Rattle.a2_bus.specs.Memory.{ram_end}
use Rattle.a2_services.specs.World.{World}
use Rattle.a2_machine.specs.declared.causes.Cause.{Cause}
use Rattle.a2_machine.specs.declared.causes.Cause.TheVariants.{Returned}
use Rattle.a2_machine.specs.Meaning.{Code, IsEnd, stuck, statements}
use Rattle.a2_machine.specs.ByteRun.{addresses_below}
use Rattle.a2_machine.specs.ProgramGuard.{guard_of_program}
use Rattle.a2_machine.specs.Start.{start_world}
use Rattle.a2_machine.proofs.Runs.{end-unique}
use Rattle.a2_machine.proofs.Walks.{walked, Leads, ends}
use Rattle.a2_machine.proofs.Protected.{code_bytes, guarded, same_walk, same_cause}
use Rattle.a2_run.specs.declared.fault.RunFault.{RunFault}
use Rattle.a2_run.specs.declared.fault.RunFault.TheVariants as fault
use Rattle.a2_run.specs.Answers.{Answers, OfSource}
use Rattle.a2_run.specs.Meaning.{IsRefused, IsRun, output_of}
use Rattle.a2_theorems.specs.Runs.{IsRunResult, RunWrites, Runs}

-- The lines, statements and image of a text

abbrev pub source_of : List ℕ → List BareLine
source_of text = unwrap_or (read_source text) []

abbrev pub statements_of : List ℕ → List Statement
statements_of text = laid.statements_of (names (source_rows (source_of text))) (source_rows (source_of text))

abbrev pub image_of : List ℕ → ℕ → Option ℕ
image_of text = laid.image (names (source_rows (source_of text))) (source_rows (source_of text))

-- the code of a text's statements, with the addresses of its bytes listed
abbrev pub code_of : List ℕ → Code
code_of text = statements (instr_at (statements_of text)) (code_bytes (statements_of text))

-- the world in which its run begins
abbrev pub start_of : List ℕ → ℕ → List ℕ → World
start_of text entry keys = start_world (image_of text) entry keys

-- all code is in RAM
abbrev pub is_in_ram : List ℕ → Bool
is_in_ram text = list_all (λ n. nat_lt n ram_end) (code_bytes (statements_of text))

-- the address at which the text's run begins, if the text is read and has no errors
abbrev pub entry_of : List ℕ → Option ℕ
entry_of text =
    if is_some (read_source text) && (not (is_some (layout_error (source_of text))) && is_in_ram text)
    then laid.first_instruction (source_rows (source_of text)) else None

-- the text is read, it has no errors, and its code is in RAM
pub record IsAccepted (text : List ℕ) (entry : ℕ) : Type 0 where
  pub read : IsSource text (source_of text)
  pub accepted : layout_error (source_of text) ≡ None
  pub in_ram : is_in_ram text ≡ true
  pub begins : laid.first_instruction (source_rows (source_of text)) ≡ Some entry

pub accepted : (text : List ℕ) (entry : ℕ) → entry_of text ≡ Some entry → IsAccepted text entry
accepted text entry e = go (read_source text) (layout_error (source_of text)) (is_in_ram text) refl refl refl e
  where
    never : {Y : Type 0} → None ≡ Some entry → Y
    never h = absurd (false≢true (ap is_some h))

    go : (found : Option (List BareLine)) (refused : Option Fault) (in_ram : Bool) → read_source text ≡ found → layout_error (source_of text) ≡ refused
        → is_in_ram text ≡ in_ram → (if is_some found && (not (is_some refused) && in_ram) then laid.first_instruction (source_rows (source_of text)) else None) ≡ Some entry → IsAccepted text entry
    go None refused in_ram is not_refused low h = never h
    go (Some source) (Some f) in_ram is not_refused low h = never h
    go (Some source) None false is not_refused low h = never h
    go (Some source) None true is not_refused low h = record {
      read = subst (IsSource text) (sym (ap (λ o. unwrap_or o []) is)) (read-is_source text source is);
      accepted = not_refused;
      in_ram = low;
      begins = h;
    }

-- such a text has no errors
pub not_refused : (text : List ℕ) (entry : ℕ) → IsAccepted text entry → (f : Fault) → IsRefused text f → ⊥
not_refused text entry is f (inl refusal) = refused-none text f (source_of text) refusal is.read
not_refused text entry is f (inr (other, it, e)) =
    false≢true (ap is_some (sym is.accepted ∙ refusal-of (source_of text) f (subst (λ s. IsLayoutError s f) (one-source text other (source_of text) it is.read) e)))

-- a walk from the start to a world that returns is the run of the text
one_run : (text keys : List ℕ) (entry steps limit : ℕ) (last : World) → IsAccepted text entry
    → walked (code_of text) (start_of text entry keys) steps ≡ Some last → stuck (code_of text) last ≡ Some Returned → steps ≤ limit
    → (attr : Bool) (cause : Cause) (output : List ℕ) → IsRun text keys limit (record { free = false; attr = attr }) cause output
    → (cause ≡ Returned) × (output ≡ output_of attr (record { world = last; steps = steps; cause = Returned }))
unfolding guard_of_program
one_run text keys entry steps limit last is walk stops within attr cause output run =
    (run.cause_is ∙ ap (λ e. e.cause) same, run.output_is ∙ ap (λ e. output_of attr e) same)
  where
    program : IsMade (source_of text) run.program
    program =
        made-of (source_of text) run.program
        (subst (λ s. IsProgram s run.program) (one-source text run.is_program.source (source_of text) run.is_program.is_source is.read) run.is_program.is_program)

    guard_code : List Statement → Code
    guard_code all = statements (instr_at all) (addresses_below ram_end (is_code all))

    start : World
    start = start_of text entry keys

    image_is : held run.program.image ≡ image_of text
    image_is = λ i a. program.laid a i

    entry_is : run.program.entry ≡ entry
    entry_is = ap (λ o. unwrap_or o 0) (sym program.begins ∙ is.begins)

    the_end : IsEnd (guard_code (statements_of text)) start limit run.end
    the_end =
        subst (λ s. IsEnd (guard_code s) start limit run.end) program.stated
        (subst (λ image. IsEnd (guard_code run.program.statements) (start_world image entry keys) limit run.end) image_is
        (subst (λ e. IsEnd (guard_code run.program.statements) (start_world (held run.program.image) e keys) limit run.end) entry_is run.is_end))

    ours : IsEnd (guard_code (statements_of text)) start limit (record { world = last; steps = steps; cause = Returned })
    ours =
        ends (guard_code (statements_of text)) start last steps limit Returned
        (same_walk (instr_at (statements_of text)) (addresses_below ram_end (is_code (statements_of text))) (code_bytes (statements_of text)) (guarded (statements_of text) is.in_ram) start steps ∙ walk)
        (same_cause (instr_at (statements_of text)) (addresses_below ram_end (is_code (statements_of text))) (code_bytes (statements_of text)) (guarded (statements_of text) is.in_ram) last ∙ stops)
        within

    same : run.end ≡ record { world = last; steps = steps; cause = Returned }
    same = end-unique (guard_code (statements_of text)) start limit run.end _ the_end ours

writes : (text keys : List ℕ) (entry steps limit : ℕ) (last : World) → IsAccepted text entry
    → walked (code_of text) (start_of text entry keys) steps ≡ Some last → stuck (code_of text) last ≡ Some Returned → steps ≤ limit
    → (attr : Bool) → RunWrites text keys limit attr (output_of attr (record { world = last; steps = steps; cause = Returned }))
writes text keys entry steps limit last is walk stops within attr old new result h = go result h
  where
    output : List ℕ
    output = output_of attr (record { world = last; steps = steps; cause = Returned })

    one : (cause : Cause) (other : List ℕ) → IsRun text keys limit (record { free = false; attr = attr }) cause other → (cause ≡ Returned) × (other ≡ output)
    one = one_run text keys entry steps limit last is walk stops within attr

    go : (result : Result Cause RunFault) → Answers (OfSource (IsRefused text)) (IsRun text keys limit (record { free = false; attr = attr })) old new result → IsRunResult output old new result
    go (Ok cause) (other, run, sent) = let is = one cause other run in (is.0, subst (Sends old new) is.1 sent)
    go (Err (fault.Source f)) (refused, sent) = not_refused text entry is f refused
    go (Err (fault.Script f)) h = h.0
    go (Err fault.Read) h = h
    go (Err fault.Write) (cause, other, run, broken) = subst (Breaks old new) (one cause other run).1 broken
    go (Err fault.Memory) h = h

-- THE BRIDGE: if a text is read, a walk from its start to a world that returns is a run of the text
pub runs : (text keys : List ℕ) (entry steps : ℕ) (Q : World → Type 0) → entry_of text ≡ Some entry
    → Leads (code_of text) (start_of text entry keys) steps (λ v. (stuck (code_of text) v ≡ Some Returned) × Q v) → Runs text keys steps Q
runs text keys entry steps Q is (last, walk, (stops, holds)) =
    (last, holds, λ limit attr within. writes text keys entry steps limit last (accepted text entry is) walk stops within attr)

-- the world after this many steps of a text's run, or the start if it cannot be reached
abbrev pub last_of : (text : List ℕ) (entry : ℕ) (keys : List ℕ) (steps : ℕ) → World
last_of text entry keys steps = unwrap_or (walked (code_of text) (start_of text entry keys) steps) (start_of text entry keys)

-- if only the keys are unknown, the whole output is computed
pub prints : (text keys : List ℕ) (entry steps limit : ℕ) (attr : Bool) (output : List ℕ) → entry_of text ≡ Some entry
    → is_some (walked (code_of text) (start_of text entry keys) steps) ≡ true
    → stuck (code_of text) (last_of text entry keys steps) ≡ Some Returned
    → output_of attr (record { world = last_of text entry keys steps; steps = steps; cause = Returned }) ≡ output
    → steps ≤ limit → RunWrites text keys limit attr output
prints text keys entry steps limit attr output is walks stops is_output within =
    subst (RunWrites text keys limit attr) is_output
    (writes text keys entry steps limit (last_of text entry keys steps) (accepted text entry is) (there _ walks) stops within attr)
  where
    there : (o : Option World) → is_some o ≡ true → o ≡ Some (unwrap_or o (start_of text entry keys))
    there None h = absurd (false≢true h)
    there (Some w) h = refl
