-- The step limit of a run, as an argument of a command line gives it. This project's profile.
use Rattle.std.specs.Prelude.{ℕ, ◌≤◌, List, length}
use Rattle.std.specs.Str.Parse.{IsNumeral, digits_value}

-- the step limit if no argument gives another
abbrev pub default_steps : ℕ
default_steps = 1000000

-- a word spells a number of steps: one to nine digits, at most 100,000,000
abbrev pub IsStepLimit : List ℕ → Type 0
IsStepLimit word = IsNumeral 10 word × (length word ≤ 9) × (digits_value 10 word ≤ 100000000)
