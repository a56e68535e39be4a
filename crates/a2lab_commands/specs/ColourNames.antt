-- The names of a terminal's colours. This project's profile.
use Rattle.std.specs.Prelude.{◌≡◌, ◌⊎◌, ℕ, List, codes}
use Rattle.a2_tty.specs.declared.cells.colours.Colours.{Colours}
use Rattle.a2_tty.specs.declared.cells.colours.Colours.TheVariants.{Full, Palette, None as NoColours, Ascii}

-- these are the colours of this name
abbrev pub AreColours : List ℕ → Colours → Type 0
AreColours word colours =
    ((word ≡ codes "full") × (colours ≡ Full)) ⊎ ((word ≡ codes "256") × (colours ≡ Palette)) ⊎ ((word ≡ codes "none") × (colours ≡ NoColours))
    ⊎ ((word ≡ codes "ascii") × (colours ≡ Ascii))
