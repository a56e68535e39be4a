-- Debuggers that look alike represent the same session, and show the same.
use Rattle.std.proofs.Common.{arith, ◌≡◌, ℕ, zero, suc, List, [], ◌∷◌, length, refl, sym, ap, ap₂, ◌∙◌}
use Rattle.a2_hex.specs.Images.{held}
use Rattle.a2_asm.specs.Assembled.{Assembled}
use Rattle.a2_asm.specs.Programs.{AreAlike}
use Rattle.a2_machine.specs.Meaning.{next}
use Rattle.a2_machine.specs.Output.{register_line}
use Rattle.a2_machine.specs.ProgramGuard.{guard_of_program}
use Rattle.a2_machine.specs.Start.{start_world}
use Rattle.a2_page.specs.Picture as page
use Rattle.a2_debug_script.specs.Worlds.{guarded_code, start, typed}
use Rattle.a2_debug_script.specs.declared.Typed.{Typed}
use Rattle.a2_debug_script.specs.Session.{Session, appended, advanced, stepped, stepped_to_break}
use Rattle.a2_debug_script.specs.Stored.{Stored, keys_at, world_before_keys, world_with_keys, worlds_below, session_of, Moves}
use Rattle.a2_debug_script.specs.Lines.{session_line, session_picture}
use Rattle.a2_debug_script.specs.Laws.{LookAlike}
use Rattle.a2_debug_script.proofs.Sessions.{count_is, oldest_is}

-- Programs that are alike run alike

code-alike : (p q : Assembled) → AreAlike p q → guarded_code p ≡ guarded_code q
unfolding guarded_code guard_of_program
code-alike p q h = ap (λ s. guarded_code (record p { statements = s })) h.statements_are

start-alike : (p q : Assembled) → AreAlike p q → start p ≡ start q
unfolding start
start-alike p q h =
    let images : held p.image ≡ held q.image = λ i a. h.held_is a i in
    ap₂ (λ image entry. start_world image entry []) images h.entry_is

module _ (p q : Assembled) (h : AreAlike p q) where
  before-alike : (log : List Typed) (n : ℕ) → world_before_keys p log n ≡ world_before_keys q log n
  unfolding world_before_keys
  before-alike log zero = start-alike p q h
  before-alike log (suc n) = ap₂ (λ code world. next code (typed (keys_at log n) world)) (code-alike p q h) (before-alike log n)

  world_at-alike : (log : List Typed) (n : ℕ) → world_with_keys p log n ≡ world_with_keys q log n
  unfolding world_with_keys
  world_at-alike log n = ap (λ world. typed (keys_at log n) world) (before-alike log n)

  worlds_below-alike : (log : List Typed) (n : ℕ) → worlds_below p log n ≡ worlds_below q log n
  unfolding worlds_below
  worlds_below-alike log zero = refl
  worlds_below-alike log (suc n) = ap₂ (λ world worlds. world ∷ worlds) (world_at-alike log n) (worlds_below-alike log n)

  advanced-alike : (marks : List ℕ) (n : ℕ) (session : Session) → advanced p marks n session ≡ advanced q marks n session
  unfolding advanced appended
  advanced-alike marks zero session = let code = code-alike p q h in grind arith
  advanced-alike marks (suc n) session =
      let code = code-alike p q h in
      let rest = λ (s : Session). advanced-alike marks n s in
      grind arith

-- Debuggers that look alike

pub session-alike : (s t : Stored) → LookAlike s t → session_of s ≡ session_of t
unfolding session_of
session-alike s t h =
    let last = world_at-alike s.program t.program h.programs s.log s.count in
    let earlier = worlds_below-alike s.program t.program h.programs s.log s.count in
    rw (last, earlier, h.log, h.count, h.breaks, h.oldest)

pub stepped-alike : (s t : Stored) (n : ℕ) → LookAlike s t → stepped s.program n (session_of s) ≡ stepped t.program n (session_of t)
stepped-alike s t n h =
    advanced-alike s.program t.program h.programs [] n (session_of s) ∙ ap (λ session. stepped t.program n session) (session-alike s t h)

pub stepped_to_break-alike : (s t : Stored) (n : ℕ) → LookAlike s t → stepped_to_break s.program n (session_of s) ≡ stepped_to_break t.program n (session_of t)
stepped_to_break-alike s t n h =
    advanced-alike s.program t.program h.programs (session_of s).breaks n (session_of s)
    ∙ ap (λ session. stepped_to_break t.program n session) (session-alike s t h)

pub line-alike : (s t : Stored) → LookAlike s t → session_line s ≡ session_line t
line-alike s t h =
    ap₂ (λ (session : Session) (n : ℕ). register_line session.last.registers n session.last.cycles) (session-alike s t h) h.count

pub picture-alike : (s t : Stored) → LookAlike s t → session_picture s ≡ session_picture t
unfolding session_picture
picture-alike s t h =
    ap (λ (session : Session). let memory = session.last.memory in page.picture memory.devices.switches memory.page1 memory.page2)
    (session-alike s t h)

-- after steps to the same session, they look alike
pub moves-alike : (s t new next : Stored) (n : ℕ) → LookAlike s t → session_of new ≡ session_of next → Moves s n new → Moves t n next
    → LookAlike new next
moves-alike s t new next n h same a b = record {
  programs = rw (a.program, b.program) h.programs;
  log = a.log ∙ h.log ∙ sym b.log;
  count = sym (count_is new) ∙ ap (λ (session : Session). length session.earlier) same ∙ count_is next;
  breaks = a.breaks ∙ h.breaks ∙ sym b.breaks;
  oldest = sym (oldest_is new) ∙ ap (λ (session : Session). session.oldest) same ∙ oldest_is next;
  reruns = a.reruns ∙ h.reruns ∙ sym b.reruns;
}

-- debuggers equal to two that look alike also look alike
pub both-alike : (new next s t : Stored) → new ≡ s → next ≡ t → LookAlike s t → LookAlike new next
both-alike new next s t a b h = rw (a, b) h

-- looking alike is symmetric
pub alike-back : (s t : Stored) → LookAlike s t → LookAlike t s
alike-back s t h = record {
  programs = grind (arith, h.programs);
  log = sym h.log;
  count = sym h.count;
  breaks = sym h.breaks;
  oldest = sym h.oldest;
  reruns = sym h.reruns;
}
