-- The words of a text.
use Rattle.std.specs.Prelude.{◌≡◌, ℕ, Bool, List, [], ◌∷◌, Option, None, Some, length, take, drop, not, nat_lt}
use Rattle.std.specs.List.{prefix_len, slice_split, filter}
use Rattle.a2_text.specs.Bytes.{is_blank}

-- the text after the blanks at its front
abbrev pub after_blanks : List ℕ → List ℕ
after_blanks text = drop (prefix_len is_blank text) text

-- the nonempty pieces between blanks
abbrev pub words : List ℕ → List (List ℕ)
words text = filter (λ piece. nat_lt 0 (length piece)) (slice_split is_blank text)

-- the length of the first word, after any blanks
abbrev pub first_length : List ℕ → ℕ
first_length text = prefix_len (λ c. not (is_blank c)) (after_blanks text)

-- the first word of a text, which is empty if the text is blank, and the text after that word
unfoldable pub first_word : List ℕ → List ℕ
first_word text = take (first_length text) (after_blanks text)

unfoldable pub after_first_word : List ℕ → List ℕ
after_first_word text = drop (first_length text) (after_blanks text)

-- the only word, if there is exactly one
abbrev pub only_word : List (List ℕ) → Option (List ℕ)
only_word [] = None
only_word (word ∷ []) = Some word
only_word (word ∷ next ∷ more) = None

-- every answer that a call can give for a byte is what the test says
abbrev pub IsTest : (ℕ → Bool) → (ℕ → Bool → Type 0) → Type 0
IsTest p Answers = (c : ℕ) (b : Bool) → Answers c b → b ≡ p c
