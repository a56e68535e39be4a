-- The reader finds each operand that is a number, a name, a place or a text.
use Rattle.std.specs.Prelude.{◌≡◌, ℕ, true, false, not, List, ◌∷◌, ◌++◌, Some}
use Rattle.std.proofs.Common.{ap, ◌∙◌}
use Rattle.std.proofs.lemmas.Bool.{false≢true, and_parts, not-true}
use Rattle.a2_asm.specs.Values.{name_value}
use Rattle.a2_promise.specs.Tokens.{Token, word, decimal as digits, place}
use Rattle.a2_promise.specs.Written.{decimal, byte, word_of, text, spelled}
use Rattle.a2_promise.specs.Grammar.{is_text, is_just, is_name_among, openings, Scope, number_of, address_of, fits}
use Rattle.a2_promise.proofs.Finder.{Reading, worded, plain, operand}
use Rattle.a2_promise.proofs.Meanings.{no_opening, not_counted, just}
use Rattle.a2_promise.proofs.Inner.{parts3, then_is}

module _ (given : Reading) where
  pub decimal_found : (token : Token) (n : ℕ) (scope : Scope) (rest : List Token) → fits scope (decimal token n) ≡ true
      → operand given scope (spelled (decimal token n) ++ rest) ≡ Some (decimal token n, rest)
  unfolding fits spelled
  decimal_found (digits decimals) n scope rest fit =
      rw (just n (number_of scope.names (digits decimals)) fit)
  decimal_found token n scope rest fit = absurd (false≢true fit)

  byte_named : (name : List ℕ) (a : ℕ) (scope : Scope) (rest : List Token) → is_name_among openings name ≡ false
      → is_name_among scope.around name ≡ false → name_value scope.names name ≡ Some a
      → operand given scope (word name ∷ rest) ≡ Some (byte (word name) a, rest)
  byte_named name a scope rest opens among is =
      ap (λ o. worded given scope name rest o) (no_opening name opens)
      ∙ ap (λ o. plain given scope name rest o) (not_counted scope.around name among)
      ∙ then_is (name_value scope.names name) a _ is

  pub byte_found : (token : Token) (a : ℕ) (scope : Scope) (rest : List Token) → fits scope (byte token a) ≡ true
      → operand given scope (spelled (byte token a) ++ rest) ≡ Some (byte token a, rest)
  unfolding fits spelled
  byte_found (place hexadecimal) a scope rest fit =
      rw (just a (address_of scope.names (place hexadecimal)) fit)
  byte_found (word name) a scope rest fit =
      let w =
      parts3 (not (is_name_among openings name)) (not (is_name_among scope.around name))
      (is_just a (name_value scope.names name)) fit in
      byte_named name a scope rest (not-true (is_name_among openings name) w.0) (not-true (is_name_among scope.around name) w.1)
      (just a (name_value scope.names name) w.2)
  byte_found token a scope rest fit = absurd (false≢true fit)

  pub word_of_found : (token : Token) (a : ℕ) (scope : Scope) (rest : List Token) → fits scope (word_of token a) ≡ true
      → operand given scope (spelled (word_of token a) ++ rest) ≡ Some (word_of token a, rest)
  unfolding fits spelled
  word_of_found (place hexadecimal) a scope rest fit =
      rw (just a (address_of scope.names (place hexadecimal)) fit)
  word_of_found (word name) a scope rest fit = rw (just a (name_value scope.names name) fit)
  word_of_found token a scope rest fit = absurd (false≢true fit)

  pub text_found : (token : Token) (a quote : ℕ) (characters : List ℕ) (scope : Scope) (rest : List Token)
      → fits scope (text token a quote characters) ≡ true
      → operand given scope (spelled (text token a quote characters) ++ rest) ≡ Some (text token a quote characters, rest)
  unfolding fits spelled
  text_found (place hexadecimal) a quote characters scope rest fit =
      let w = and_parts (is_just a (address_of scope.names (place hexadecimal))) (is_text quote characters) fit in
      rw (just a (address_of scope.names (place hexadecimal)) w.0)
  text_found (word name) a quote characters scope rest fit =
      let w = and_parts (is_just a (name_value scope.names name)) (is_text quote characters) fit in
      rw (just a (name_value scope.names name) w.0)
  text_found token a quote characters scope rest fit = absurd (false≢true fit)
