-- What an observer counts of the steps that it sees. No public clause cites this file.
use Rattle.std.specs.Prelude.{ℕ, ◌+◌, ◌%◌, ◌^◌, ◌==◌, ◌&&◌, not, nat_lt, Bool, List, [], slice_set, if◌then◌else◌}
use Rattle.a2_burst.specs.declared.observer.StepView.{StepView}
use Rattle.a2_burst.specs.Shown.{Shown}
use Rattle.a2_profile.specs.declared.profile.Count.{Count}
use Rattle.a2_profile.specs.Counts.{count_at}

-- numbers are as small as their types
abbrev pub are_small : ℕ → ℕ → ℕ → ℕ → ℕ → Bool
are_small pc s next_pc next_s cycles =
    nat_lt pc (2 ^ 16) && (nat_lt s (2 ^ 8) && (nat_lt next_pc (2 ^ 16) && (nat_lt next_s (2 ^ 8) && nat_lt cycles (2 ^ 32))))

-- and so are those of a step that is seen
abbrev pub is_small : StepView → Bool
is_small look = are_small look.pc look.s look.next_pc look.next_s look.cycles

-- it does not continue two bytes further
abbrev pub turns : StepView → Bool
turns look = not (look.next_pc == (look.pc + 2) % 65536)

-- one more step, of so many cycles
abbrev pub counted : ℕ → Bool → Count → Count
counted cycles is_taken count = record {
  times = count.times + 1;
  cycles = count.cycles + cycles;
  taken = count.taken + (if is_taken then 1 else 0);
}

-- in 64 bits
abbrev pub in_words : Count → Count
in_words count = record { times = count.times % 2 ^ 64; cycles = count.cycles % 2 ^ 64; taken = count.taken % 2 ^ 64 }

-- the counts after a step that is seen. A step that no observer sees leaves no counts: so if there are counts, each step was seen
abbrev pub with_look : List Count → StepView → List Count
with_look counts look =
    if is_small look then slice_set counts look.pc (in_words (counted look.cycles (turns look) (count_at counts look.pc))) else []

-- and after what is shown of a step
abbrev pub shown_to : List Count → Shown → List Count
shown_to counts shown = with_look counts shown.look
