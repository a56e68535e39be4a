-- What a list of words gives: options and files.
use Rattle.std.specs.Prelude.{ℕ, Bool, List, [], ◌∷◌, map, Option, Some, None, is_some, if◌then◌else◌}
use Rattle.std.specs.Option.{option_map, option_and_then}
use Rattle.std.specs.Str.{bytes_eq}
use Rattle.a2_arguments.specs.declared.arguments.Given.{Given}
use Rattle.a2_arguments.specs.declared.arguments.Arguments.{Arguments}

-- an option that was given: its name, its value, which is empty for a flag, and the number that the value spells, if its row asks for one
pub record OneGiven : Type 0 where
  pub name : List ℕ
  pub value : List ℕ
  pub number : Option ℕ

-- the options and the files, both in the order of the words
pub record Found : Type 0 where
  pub options : List OneGiven
  pub files : List (List ℕ)

abbrev pub option_of : Given → OneGiven
option_of given = record { name = given.name.now; value = given.value.now; number = given.number }

abbrev pub found_of : Arguments → Found
found_of arguments = record { options = map option_of arguments.options.items; files = map (λ file. file.now) arguments.files.items }

-- the first option of a name
abbrev pub first_given : List ℕ → List OneGiven → Option OneGiven
first_given name [] = None
first_given name (o ∷ os) = if bytes_eq o.name name then Some o else first_given name os

abbrev pub first_file : List (List ℕ) → Option (List ℕ)
first_file [] = None
first_file (file ∷ files) = Some file

-- whether an option was given; its value and its number, if there is one
abbrev pub is_given : List ℕ → Found → Bool
is_given name found = is_some (first_given name found.options)

abbrev pub text_given : List ℕ → Found → Option (List ℕ)
text_given name found = option_map (λ o. o.value) (first_given name found.options)

abbrev pub number_given : List ℕ → Found → Option ℕ
number_given name found = option_and_then (λ o. o.number) (first_given name found.options)
