-- What is written of an error reads back. This project's profile.
use Rattle.std.specs.Prelude.{◌≡◌, ℕ, List}
use Rattle.json.specs.Lex.{tokens}
use Rattle.json.specs.Print.{print}
use Rattle.json.specs.Token.{Token}

-- a text of JSON is what is written for some tokens, and reads back as them
pub record ReadsBack (text : List ℕ) : Type 0 where
  pub written : List Token
  pub is_text : text ≡ print written
  pub reads : tokens text ≡ written
