-- A finished run, and the copies of its machine that were kept on the way. This project's profile.
use Rattle.std.specs.Prelude.{ℕ, Bool, List, Option}
use Rattle.a2_asm.specs.Assembled.{Assembled}
use Rattle.a2_machine.specs.ByteRun.{bytes}
use Rattle.a2_machine.specs.declared.causes.Cause.{Cause}
use Rattle.a2_machine.specs.State.{Device}
use Rattle.a2_run.specs.Meaning.{start_of_run}
use Rattle.a2_run.specs.Started.{guard_of_run}
use Rattle.a2_timed_keys.specs.declared.strokes.Typed.{Typed}
use Rattle.a2_timed_keys.specs.Typed.{AreCopies, IsTypedRun, IsTypedStop}

-- what ran, with which keys, limit and guard, and what the run left
pub record Finished : Type 0 where
  pub program : Assembled
  pub keys : List ℕ
  pub log : List Typed
  pub limit : ℕ
  pub free : Bool
  pub machine : Device
  pub cause : Cause

-- the machine is where the run ends, by its cause
abbrev pub IsFinished : Finished → Type 0
IsFinished f = IsTypedRun f.program f.keys f.log f.limit f.free f.machine.state f.cause

-- the same of the run of the bytes that the guard keeps. No public clause cites it.
abbrev pub IsStopped : Finished → Type 0
IsStopped f = IsTypedStop (bytes (guard_of_run f.free f.program)) (start_of_run f.program f.keys) f.log f.limit f.machine.state f.cause

-- two machines, if they are there, are copies of the machine of the run
abbrev pub AreItsCopies : Finished → Option Device → Option Device → Type 0
AreItsCopies f older newer = AreCopies (bytes (guard_of_run f.free f.program)) (start_of_run f.program f.keys) f.log older newer
