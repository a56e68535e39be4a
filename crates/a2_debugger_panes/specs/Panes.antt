-- The effect of a line on a run that is shown in panes. This project's profile.
use Rattle.std.specs.Prelude.{◌≡◌, ◌⊎◌, ℕ, List, map, codes}
use Rattle.a2_text.specs.Bytes.{capital}
use Rattle.a2_debugger.specs.Inspections.{Inspection, IsAnswered}

-- a line opens or closes the panes
abbrev pub IsPanes : List ℕ → Type 0
IsPanes line = map capital line ≡ codes "PANES"

-- opening and closing changes nothing; any other line has the same effect as without panes
abbrev pub IsShownInPanes : List ℕ → Inspection → Inspection → Type 0
IsShownInPanes line old new = (IsPanes line × (new ≡ old)) ⊎ ((IsPanes line → ⊥) × IsAnswered line old new)
