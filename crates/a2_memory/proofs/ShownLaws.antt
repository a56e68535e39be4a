-- What a session answers to the line of a part, and parts one after another.
use Rattle.std.specs.Prelude.{nat_lt, ◌+◌, ◌-◌}
use Rattle.std.proofs.Common.{◌≡◌, ℕ, ◌<◌, ◌≤◌, true, false, List, [], ◌∷◌, ◌++◌, length, take, get_or, Option, Some, None, Result, Ok, Err, refl, sym, ap, ◌∙◌, subst, arith}
use Rattle.std.specs.List.{flat_map}
use Rattle.std.proofs.lemmas.Bool.{le-ltb, lt-ltb}
use Rattle.std.proofs.lemmas.List.{append-nil, take_more}
use Rattle.std.proofs.lemmas.Grind.{flat_map-append}
use Rattle.a2_stream.proofs.Joined.{Sends-then}
use Rattle.a2_stream.specs.Stream.{Taker, Sends, Breaks, SendsOrBreaks}
use Rattle.a2_bus.specs.Memory.{Memory, ram_end}
use Rattle.a2_monitor.specs.declared.fault.MonFault.{MonFault}
use Rattle.a2_monitor.specs.declared.fault.MonFault.TheVariants.{Syntax, Backward, Outside, Write}
use Rattle.a2_monitor.specs.Commands.{Command, command_of, examines}
use Rattle.a2_monitor.specs.SessionStates.{SessionState, CommandDoes, command_error, examined}
use Rattle.a2_monitor.specs.Answers.{IsAnswered, LineAnswers, line_error}
use Rattle.a2_memory.specs.declared.part.Part.{Part}
use Rattle.a2_memory.specs.Parts.{shown_part}

-- a part never causes an error
never-refused : (first last next : ℕ) → first ≤ last → last < ram_end → command_error (examines (record { first = first; last = last })) next ≡ None
unfolding command_error
never-refused first last next ordered inside =
    let forward : nat_lt last first ≡ false = le-ltb last first ordered in
    let some : nat_lt 0 (last + 1 - first) ≡ true = lt-ltb 0 (last + 1 - first) (omega (arith, ordered)) in
    let within : nat_lt 49152 (first + (last + 1 - first)) ≡ false = le-ltb 49152 (first + (last + 1 - first)) (omega (arith, ordered, inside)) in
    rw (forward, some, within) refl

-- what a session answers to the line of a part
pub record IsPartShown (first last : ℕ) (old new : SessionState) (a b : Taker) (r : Result (Unit {0}) MonFault) : Type 0 where
  pub world : new.world ≡ old.world
  pub shown : SendsOrBreaks a b r (examined old.world.memory (record { first = first; last = last }))

module _ (line : List ℕ) (first last : ℕ) (old new : SessionState) (says : command_of line ≡ Some (examines (record { first = first; last = last })))
    (ordered : first ≤ last) (inside : last < ram_end) where
  same-command : (command : Command) → command_of line ≡ Some command → command ≡ examines (record { first = first; last = last })
  same-command command is = cc

  answered : (text : List ℕ) → IsAnswered line old text new
      → (text ≡ examined old.world.memory (record { first = first; last = last })) × (new ≡ record old { next = first })
  answered text is = subst (λ (command : Command). CommandDoes command old text new) (same-command is.command is.says) is.done.answers

  refusal_by : Option Command → Option MonFault
  refusal_by o = elim o [ None ↦ Some Syntax | Some command ↦ command_error command old.next ]

  refused-not : (why : MonFault) → line_error line old ≡ Some why → ⊥
  unfolding refusal_by
  refused-not why refused =
      let none : line_error line old ≡ None = ap (λ (o : Option Command). refusal_by o) says ∙ never-refused first last old.next ordered inside in
      cc

  pub part_shown : (a b : Taker) (r : Result (Unit {0}) MonFault) → LineAnswers line old new a b r → IsPartShown first last old new a b r
  part_shown a b (Ok x) (text, is, sent) =
      let does = answered text is in
      record { world = ap (λ (s : SessionState). s.world) does.1; shown = subst (Sends a b) does.0 sent }
  part_shown a b (Err Write) (text, is, broke) =
      let does = answered text is in
      record { world = ap (λ (s : SessionState). s.world) does.1; shown = subst (Breaks a b) does.0 broke }
  part_shown a b (Err Syntax) h = absurd (refused-not Syntax h.0)
  part_shown a b (Err Backward) h = absurd (refused-not Backward h.0)
  part_shown a b (Err Outside) h = absurd (refused-not Outside h.0)

-- one more piece of a list of pieces was written
pub sends-more : {X : Type 0} (f : X → List ℕ) (xs : List X) (i : ℕ) (d : X) (a b c : Taker) → i < length xs
    → Sends a b (flat_map f (take i xs)) → Sends b c (f (get_or xs i d)) → Sends a c (flat_map f (take (i + 1) xs))
sends-more f xs i d a b c low sent more = subst (Sends a c) whole (Sends-then a b c _ _ sent more)
  where
    whole : flat_map f (take i xs) ++ f (get_or xs i d) ≡ flat_map f (take (i + 1) xs)
    whole =
        ap (λ (l : List ℕ). flat_map f (take i xs) ++ l) (sym (append-nil (f (get_or xs i d))))
        ∙ sym (flat_map-append f (take i xs) (get_or xs i d ∷ []))
        ∙ ap (flat_map f) (sym (take_more xs i d low))

-- a part of an equal memory
pub sends-moved : (m n : Memory) (a b : Taker) (part : Part) → m ≡ n → Sends a b (shown_part m part) → Sends a b (shown_part n part)
sends-moved m n a b part e h = subst (λ (k : Memory). Sends a b (shown_part k part)) e h

pub breaks-moved : (m n : Memory) (a b : Taker) (part : Part) → m ≡ n → Breaks a b (shown_part m part) → Breaks a b (shown_part n part)
breaks-moved m n a b part e h = subst (λ (k : Memory). Breaks a b (shown_part k part)) e h
