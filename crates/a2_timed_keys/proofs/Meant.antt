-- The run of a program's bytes in which keys are typed is that of its statements.
use Rattle.std.proofs.Common.{◌≡◌, ◌⊎◌, inl, inr, ℕ, zero, suc, ◌<◌, Bool, true, false, List, length, refl, sym, ap, ◌∙◌, subst, arith, Option, Some, None}
use Rattle.a2_opcode.specs.declared.Instr.{Instr}
use Rattle.a2_page.specs.declared.Page.{Page}
use Rattle.a2_page.specs.declared.Page.TheVariants.{One, Two}
use Rattle.a2_page.specs.Cells.{Cell, cell_at}
use Rattle.a2_page.specs.Grid.{byte_in}
use Rattle.a2_bus.specs.Memory.{Memory, grid, ram_byte}
use Rattle.a2_asm.specs.Assembled.{Assembled}
use Rattle.a2_asm.specs.Programs.{instr_at, IsSound}
use Rattle.a2_services.specs.World.{World}
use Rattle.a2_machine.specs.declared.causes.Cause.TheVariants.{Limit}
use Rattle.a2_machine.specs.Meaning.{Code, End, stuck, next, statements}
use Rattle.a2_machine.specs.ByteRun.{Guard, bytes}
use Rattle.a2_machine.specs.Guarded.{HoldsCode, BytesMatchStatements}
use Rattle.a2_machine.specs.ProgramGuard.{guard_of_program}
use Rattle.a2_machine.proofs.GuardedRuns.{next-keeps_code}
use Rattle.a2_machine.proofs.Runs.{stuck-alike, next-alike}
use Rattle.a2_machine.proofs.Laid.{laid_by, start-holds, same-code}
use Rattle.a2_run.specs.Meaning.{code_of_run, start_of_run}
use Rattle.a2_run.specs.Started.{guard_of_run}
use Rattle.a2_timed_keys.specs.declared.strokes.Typed.{Typed}
use Rattle.a2_timed_keys.specs.Typed.{keys_typed_in, typed, keys_at, world_before_keys, world_with_keys, IsTypedEnd, IsOverfull}

-- keys change no byte of RAM
pub same_byte : (keys : List ℕ) (memory : Memory) (a : ℕ) → ram_byte (keys_typed_in keys memory) a ≡ ram_byte memory a
unfolding ram_byte
same_byte keys memory a = go (cell_at a)
  where
    page : (p : Page) → grid (keys_typed_in keys memory) p ≡ grid memory p
    page One = refl
    page Two = refl

    go : (found : Option Cell) → (elim found as (λ _. ℕ) [
      | Some cell ↦ byte_in (grid (keys_typed_in keys memory) cell.page) cell.row cell.column
      | None ↦ memory.plain a
    ]) ≡ (elim found as (λ _. ℕ) [ Some cell ↦ byte_in (grid memory cell.page) cell.row cell.column | None ↦ memory.plain a ])
    go (Some cell) = ap (λ g. byte_in g cell.row cell.column) (page cell.page)
    go None = refl

module _ (statement_at : ℕ → Option Instr) (guard : Guard) (laid : ℕ → ℕ) (start : World) (log : List Typed)
    (says : BytesMatchStatements statement_at guard laid) (starts : HoldsCode guard.code laid start.memory) where
  abbrev pub s : Code
  s = statements statement_at guard.code

  abbrev pub b : Code
  b = bytes (Some guard)

  typed-holds : (keys : List ℕ) (w : World) → HoldsCode guard.code laid w.memory → HoldsCode guard.code laid (typed keys w).memory
  unfolding typed
  typed-holds keys w h a among = same_byte keys w.memory a ∙ h a among

  kept : (w : World) → HoldsCode guard.code laid w.memory → stuck s w ≡ None → HoldsCode guard.code laid (next s w).memory
  unfolding statements
  kept w h free = next-keeps_code (statements statement_at guard.code) laid w h free

  stuck-same : (w : World) → HoldsCode guard.code laid w.memory → stuck s w ≡ stuck b w
  unfolding statements bytes
  stuck-same w h = stuck-alike (statements statement_at guard.code) (bytes (Some guard)) w refl (says w.memory h w.registers.pc)

  next-same : (w : World) → HoldsCode guard.code laid w.memory → next s w ≡ next b w
  unfolding statements bytes
  next-same w h = next-alike (statements statement_at guard.code) (bytes (Some guard)) w (says w.memory h w.registers.pc)

  -- as long as no world is stuck, the worlds are the same, and hold the code
  before : (n : ℕ) → ((k : ℕ) → k < n → stuck b (world_with_keys b start log k) ≡ None)
      → (world_before_keys s start log n ≡ world_before_keys b start log n) × HoldsCode guard.code laid (world_before_keys b start log n).memory
  unfolding world_before_keys world_with_keys
  before zero free = (refl, starts)
  before (suc n) free =
      let below = before n (λ k l. free k (omega (arith, l))) in
      let w : World = typed (keys_at log n) (world_before_keys b start log n) in
      let holds : HoldsCode guard.code laid w.memory = typed-holds (keys_at log n) (world_before_keys b start log n) below.1 in (
        ap (λ x. next s (typed (keys_at log n) x)) below.0 ∙ next-same w holds,
        subst (λ (x : World). HoldsCode guard.code laid x.memory) (next-same w holds)
            (kept w holds (stuck-same w holds ∙ free n (omega arith))),
      )

  pub with-same : (n : ℕ) → ((k : ℕ) → k < n → stuck b (world_with_keys b start log k) ≡ None)
      → (world_with_keys s start log n ≡ world_with_keys b start log n) × HoldsCode guard.code laid (world_with_keys b start log n).memory
  unfolding world_with_keys
  with-same n free =
      let at = before n free in
      (ap (λ x. typed (keys_at log n) x) at.0, typed-holds (keys_at log n) (world_before_keys b start log n) at.1)

  first-same : (n : ℕ) → ((k : ℕ) → k < n → stuck b (world_with_keys b start log k) ≡ None)
      → (k : ℕ) → k < n → stuck s (world_with_keys s start log k) ≡ None
  first-same n free k l =
      let at = with-same k (λ i h. free i (omega (arith, h, l))) in
      ap (λ w. stuck s w) at.0 ∙ stuck-same (world_with_keys b start log k) at.1 ∙ free k l

  pub end-same : (limit : ℕ) (end : End) → IsTypedEnd b start log limit end → IsTypedEnd s start log limit end
  end-same limit end is = record {
    within = is.within;
    reached = is.reached ∙ sym at.0;
    first = first-same end.steps is.first;
    cause = go is.cause;
  }
    where
      at : (world_with_keys s start log end.steps ≡ world_with_keys b start log end.steps)
          × HoldsCode guard.code laid (world_with_keys b start log end.steps).memory
      at = with-same end.steps is.first

      same : stuck s end.world ≡ stuck b end.world
      same = stuck-same end.world (subst (λ (w : World). HoldsCode guard.code laid w.memory) (sym is.reached) at.1)

      go : (stuck b end.world ≡ Some end.cause) ⊎ ((stuck b end.world ≡ None) × (end.steps ≡ limit) × (end.cause ≡ Limit))
          → (stuck s end.world ≡ Some end.cause) ⊎ ((stuck s end.world ≡ None) × (end.steps ≡ limit) × (end.cause ≡ Limit))
      go (inl e) = inl (same ∙ e)
      go (inr e) = inr (same ∙ e.0, e.1, e.2)

  pub overfull-same : (limit steps : ℕ) → IsOverfull b start log limit steps → IsOverfull s start log limit steps
  overfull-same limit steps is = record {
    within = is.within;
    first = first-same steps is.first;
    full = subst (λ (w : World). 4096 < length w.memory.devices.keys) (sym (with-same steps is.first).0) is.full;
  }

-- the end of the bytes' run is that of the program's
pub typed_meant : (free : Bool) (program : Assembled) (keys : List ℕ) (log : List Typed) (limit : ℕ) (end : End) → IsSound program
    → IsTypedEnd (bytes (guard_of_run free program)) (start_of_run program keys) log limit end
    → IsTypedEnd (code_of_run free program) (start_of_run program keys) log limit end
typed_meant true program keys log limit end sound is = is
typed_meant false program keys log limit end sound is =
    end-same (instr_at program.statements) (guard_of_program program) (laid_by program) (start_of_run program keys) log
    (same-code program sound) (start-holds program keys sound) limit end is

-- up to there the bytes' run goes through the program's worlds
pub world_meant : (free : Bool) (program : Assembled) (keys : List ℕ) (log : List Typed) (n : ℕ) → IsSound program
    → ((k : ℕ) → k < n → stuck (bytes (guard_of_run free program)) (world_with_keys (bytes (guard_of_run free program)) (start_of_run program keys) log k) ≡ None)
    → world_with_keys (bytes (guard_of_run free program)) (start_of_run program keys) log n
    ≡ world_with_keys (code_of_run free program) (start_of_run program keys) log n
world_meant true program keys log n sound going = refl
world_meant false program keys log n sound going =
    sym (with-same (instr_at program.statements) (guard_of_program program) (laid_by program) (start_of_run program keys) log
    (same-code program sound) (start-holds program keys sound) n going).0

pub overfull_meant : (free : Bool) (program : Assembled) (keys : List ℕ) (log : List Typed) (limit steps : ℕ) → IsSound program
    → IsOverfull (bytes (guard_of_run free program)) (start_of_run program keys) log limit steps
    → IsOverfull (code_of_run free program) (start_of_run program keys) log limit steps
overfull_meant true program keys log limit steps sound is = is
overfull_meant false program keys log limit steps sound is =
    overfull-same (instr_at program.statements) (guard_of_program program) (laid_by program) (start_of_run program keys) log
    (same-code program sound) (start-holds program keys sound) limit steps is
