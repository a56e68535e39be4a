-- Source texts with the same meaning in columns. This project's profile.
use Rattle.std.specs.Prelude.{◌≡◌, ℕ, List}
use Rattle.a2_syntax.specs.Bare.{BareLine}
use Rattle.a2_syntax.specs.Sources.{IsSource, IsSourceError}
use Rattle.a2_fmt.specs.declared.fault.FormatFault.{FormatFault}
use Rattle.a2_fmt.specs.declared.fault.FormatFault.TheVariants as faults
use Rattle.a2_fmt.specs.Layout.{laid}

-- both texts are sources with the same lines
abbrev pub AreAlike : List ℕ → List ℕ → Type 0
AreAlike text other = (source : List BareLine) × IsSource text source × IsSource other source

-- a text in columns has the same meaning, and formatting it again leaves it unchanged
abbrev pub CanBeFormatted : List ℕ → Type 0
CanBeFormatted text = AreAlike text (laid text) × (laid (laid text) ≡ laid text)

-- why a text cannot be formatted
abbrev pub IsFormatFault : List ℕ → FormatFault → Type 0
IsFormatFault text (faults.Source fault) = IsSourceError text fault
IsFormatFault text faults.Unlike = ((source : List BareLine) × IsSource text source) × ¬ (CanBeFormatted text)
IsFormatFault text faults.Memory = Unit {0}
