-- Keys with their steps, as an argument of a command line gives them. This project's profile.
use Rattle.std.specs.Prelude.{◌≡◌, ℕ, ◌<◌, ◌≤◌, ◌==◌, Bool, List, length}
use Rattle.std.specs.List.{position_or_len, before_first, after_first}
use Rattle.std.specs.Str.Parse.{digits_value}
use Rattle.a2_bus.specs.KeyText.{SpellsKeys}
use Rattle.a2_run.specs.Limits.{IsStepLimit}

abbrev pub is_colon : ℕ → Bool
is_colon character = character == 58

-- a number of steps is before the first colon, and keys that fit are after it
pub record IsStroke (word : List ℕ) (steps : ℕ) (keys : List ℕ) : Type 0 where
  pub has_colon : position_or_len is_colon word < length word
  pub is_number : IsStepLimit (before_first is_colon word)
  pub steps_are : steps ≡ digits_value 10 (before_first is_colon word)
  pub spells : SpellsKeys (after_first is_colon word) keys
  pub fit : length keys ≤ 4096
