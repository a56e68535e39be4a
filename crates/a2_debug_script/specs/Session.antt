-- What a debugging session is: the worlds that a guarded program has reached, of which the last one is shown.
use Rattle.std.specs.Prelude.{ℕ, zero, suc, ◌+◌, ◌-◌, ◌*◌, ◌/◌, List, [], ◌∷◌, length, if◌then◌else◌, Some, None, max}
use Rattle.a2_text.specs.Bytes.{is_among}
use Rattle.a2_asm.specs.Assembled.{Assembled}
use Rattle.a2_machine.specs.declared.causes.Cause.TheVariants.{Limit}
use Rattle.a2_services.specs.World.{World}
use Rattle.a2_machine.specs.Meaning.{stuck, next}
use Rattle.a2_debug_script.specs.Worlds.{guarded_code, start, typed}
use Rattle.a2_debug_script.specs.declared.Halt.{Halt}
use Rattle.a2_debug_script.specs.declared.Halt.TheVariants.{Stopped, Break}

pub record Session : Type 0 where
  pub last : World
  -- the worlds before the last one, the latest first
  pub earlier : List World
  pub breaks : List ℕ
  -- the lowest count that `back` can return to
  pub oldest : ℕ

-- the lowest count that `back` can return to, once this count is reached
abbrev pub oldest_after : ℕ → ℕ → ℕ
oldest_after oldest count = max oldest (1024 * (count / 1024 - 7))

-- the session at its start
abbrev pub start_session : Assembled → Session
start_session program = record { last = start program; earlier = []; breaks = []; oldest = 0 }

-- the session with one more world
unfoldable pub appended : Assembled → Session → Session
appended program session = record session {
  last = next (guarded_code program) session.last;
  earlier = session.last ∷ session.earlier;
  oldest = oldest_after session.oldest (length session.earlier + 1);
}

-- the reason why steps must end at a world, if they did not end before
abbrev pub halt_at : Assembled → World → Halt
halt_at program world = elim (stuck (guarded_code program) world) [ Some cause ↦ Stopped cause | None ↦ Stopped Limit ]

-- the state and the answer of a call that steps
pub record Halted : Type 0 where
  pub session : Session
  pub halt : Halt

-- next worlds are appended until the last one is stuck or at a mark, or until this many were appended
unfoldable pub advanced : Assembled → List ℕ → ℕ → Session → Halted
advanced program marks zero session = record { session = session; halt = halt_at program session.last }
advanced program marks (suc n) session =
    elim (stuck (guarded_code program) session.last) [
      | Some cause ↦ record { session = session; halt = Stopped cause }
      | None ↦
          if is_among marks (appended program session).last.registers.pc
          then record { session = appended program session; halt = Break }
          else advanced program marks n (appended program session)
    ]

-- steps that ignore breakpoints, and steps that end at one
abbrev pub stepped : Assembled → ℕ → Session → Halted
stepped program n session = advanced program [] n session

abbrev pub stepped_to_break : Assembled → ℕ → Session → Halted
stepped_to_break program n session = advanced program session.breaks n session

-- keys typed at the last world
unfoldable pub with_keys : List ℕ → Session → Session
with_keys keys session = record session { last = typed keys session.last }

-- the session without this many of its last worlds
unfoldable pub stepped_back : ℕ → Session → Session
stepped_back zero session = session
stepped_back (suc n) session =
    elim session.earlier [
      | [] ↦ session
      | world ∷ worlds ↦ stepped_back n (record session { last = world; earlier = worlds })
    ]

-- the session with other breakpoints
abbrev pub with_breaks : List ℕ → Session → Session
with_breaks breaks session = record session { breaks = breaks }
