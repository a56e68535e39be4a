-- What a manual says about names. A manual consists of topics separated by tildes. The first line of a topic is its
-- names, separated by commas; its other lines are what it says about them. This project's profile.
use Rattle.std.specs.Prelude.{◌≡◌, ◌⊎◌, ◌==◌, ℕ, List, [], ◌∷◌, map, Any}
use Rattle.std.specs.List.{slice_split, before_first, after_first}
use Rattle.std.specs.Char.{to_ascii_lowercase}

abbrev pub topics : List ℕ → List (List ℕ)
topics manual = slice_split (λ c. c == 0x7E) manual

abbrev pub names : List ℕ → List (List ℕ)
names topic = slice_split (λ c. c == 0x2C) (before_first (λ c. c == 0x0A) topic)

abbrev pub said : List ℕ → List ℕ
said topic = after_first (λ c. c == 0x0A) topic

-- two words are the same if case is ignored
abbrev pub Spells : List ℕ → List ℕ → Type 0
Spells name known = map to_ascii_lowercase known ≡ map to_ascii_lowercase name

abbrev pub HasName : List ℕ → List ℕ → Type 0
HasName name topic = Any (Spells name) (names topic)

-- one of these topics has the name
abbrev pub IsKnown : List ℕ → List (List ℕ) → Type 0
IsKnown name topics = Any (HasName name) topics

-- this is what the first of these topics that has the name says
abbrev pub IsTopicText : List ℕ → List (List ℕ) → List ℕ → Type 0
IsTopicText name [] text = ⊥
IsTopicText name (topic ∷ more) text = (HasName name topic × (text ≡ said topic)) ⊎ (¬ (HasName name topic) × IsTopicText name more text)
