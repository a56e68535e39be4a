-- The arguments of a run. This project's profile.
use Rattle.std.specs.Prelude.{◌≡◌, ℕ, ◌≤◌, List, [], codes, length, Option}
use Rattle.std.specs.Option.{option_map, unwrap_or}
use Rattle.a2_arguments.specs.Found.{Found, first_file, is_given, text_given, number_given}
use Rattle.a2_bus.specs.KeyText.{SpellsKeys}
use Rattle.a2_run.specs.Limits.{default_steps}
use Rattle.a2lab_commands.specs.declared.asked.FileRunArgs.{FileRunArgs}

-- a text spells keys that fit
abbrev pub AreKeys : List ℕ → List ℕ → Type 0
AreKeys text keys = SpellsKeys text keys × (length keys ≤ 4096)

-- the value of --keys; without it no keys
abbrev pub keys_text : Found → List ℕ
keys_text found = unwrap_or (text_given (codes "--keys") found) []

-- the arguments of a run are its first file, if there is one, and what its options say
pub record AreFileRunArgs (found : Found) (args : FileRunArgs) : Type 0 where
  pub file : option_map (λ file. file.now) args.file ≡ first_file found.files
  pub keys : AreKeys (keys_text found) args.keys
  pub limit : args.limit ≡ unwrap_or (number_given (codes "--limit") found) default_steps
  pub free : args.free ≡ is_given (codes "--free") found
