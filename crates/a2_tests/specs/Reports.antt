-- What is written of a report reads back. This project's profile.
use Rattle.std.specs.Prelude.{◌≡◌, ℕ, List, [], Option, Some, option_map}
use Rattle.csv.specs.Machine.{next_record}
use Rattle.csv.specs.Reading.{default_config, strip_bom}
use Rattle.csv.specs.Records.{Row, fields_of}
use Rattle.csv.specs.declared.parser.State.TheVariants as st
use Rattle.json.specs.Lex.{tokens}
use Rattle.json.specs.Print.{print}
use Rattle.json.specs.Token.{Token}

-- a text of JSON is what is written for some tokens, and reads back as them
pub record ReadsBack (text : List ℕ) : Type 0 where
  pub written : List Token
  pub is_text : text ≡ print written
  pub reads : tokens text ≡ written

-- the fields of the first record of a text of CSV
abbrev pub first_fields : List ℕ → Option (List (List ℕ))
first_fields text = option_map (λ p. p.0) (next_record default_config st.StartRecord [] [] (strip_bom text))

-- the first record of a text of CSV has exactly the fields of this one
abbrev pub ReadsAsRecord : List ℕ → Row → Type 0
ReadsAsRecord text row = first_fields text ≡ Some (fields_of row)
