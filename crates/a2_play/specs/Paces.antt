-- How many cycles are due. This project's profile.
use Rattle.std.specs.Prelude.{ℕ, Bool, ◌*◌, ◌/◌, min, nat_lt, if◌then◌else◌}
use Rattle.a2_text.specs.Bytes.{is_between}
use Rattle.a2_play.specs.declared.pace.Pace.{Pace}
use Rattle.a2_play.specs.declared.pace.Pace.TheVariants.{Cycles, Max}
use Rattle.a2_play.specs.declared.pace.Tempo.{Tempo}
use Rattle.a2_play.specs.declared.pace.Tempo.TheVariants.{Parts, Max as Unbounded}

-- the cycles that an Apple II runs in a second
abbrev pub apple : Pace
apple = Cycles 1_022_727

-- whether a session may have a pace of this many cycles a second
abbrev pub is_in_bounds : ℕ → Bool
is_in_bounds cycles = is_between 1_000 1_000_000_000 cycles

-- a pace in parts of which a cycle has 2^20
abbrev pub tempo : Pace → Tempo
tempo (Cycles cycles) = Parts (cycles * 1_048_576)
tempo Max = Unbounded

-- the number of cycles a second that is nearest to this one and within bounds
abbrev pub within_bounds : ℕ → ℕ
within_bounds cycles = if nat_lt cycles 1_000 then 1_000 else if nat_lt 1_000_000_000 cycles then 1_000_000_000 else cycles

-- the pace in whole cycles, within bounds
abbrev pub pace : Tempo → Pace
pace (Parts parts) = Cycles (within_bounds (parts / 1_048_576))
pace Unbounded = Max

-- twice as fast, and half as fast, within bounds
abbrev pub faster : Tempo → Tempo
faster (Parts parts) = if nat_lt parts 1_048_576_000_000_000 then Parts (parts * 2) else Parts parts
faster Unbounded = Unbounded

abbrev pub slower : Tempo → Tempo
slower (Parts parts) = if nat_lt 1_048_576_000 parts then Parts (parts / 2) else Parts parts
slower Unbounded = Unbounded

-- the cycles of the time that passed, of which at most a quarter of a second counts
abbrev pub due : Pace → ℕ → ℕ
due (Cycles cycles) micros = cycles * min micros 250_000 / 1_000_000
due Max micros = 1_000_000

-- the cycles of a second; at Max, an Apple II's
abbrev pub second : Pace → ℕ
second (Cycles cycles) = cycles
second Max = 1_022_727
