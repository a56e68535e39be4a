-- An image that is written as a source, and the differences of two images. This project's profile.
use Rattle.std.specs.Prelude.{◌≡◌, ℕ, Bool, true, false, List, Option, Result, Ok, Err}
use Rattle.std.specs.List.{flat_map}
use Rattle.a2_stream.specs.Stream.{Taker, Sends, Breaks}
use Rattle.a2_monitor_listing.specs.Imported.{AssemblesTo}
use Rattle.a2_diff.specs.declared.comparison.Change.{Change}
use Rattle.a2_diff.specs.Rows.{rows}
use Rattle.a2_diff.specs.Comparison.{Compares, shown}
use Rattle.a2lab_bytes.specs.declared.source.ShownFault.{ShownFault}
use Rattle.a2lab_bytes.specs.declared.source.ShownFault.TheVariants.{Source, Write}

-- a source with these bytes was written; or there is none and nothing was written; or a part was written and a write failed
abbrev pub ShowsSource : (ℕ → Option ℕ) → Taker → Taker → Result (Unit {0}) ShownFault → Type 0
ShowsSource bytes old new (Ok _) = (source : List ℕ) × AssemblesTo bytes source × Sends old new source
ShowsSource bytes old new (Err (Source fault)) = new ≡ old
ShowsSource bytes old new (Err Write) = (source : List ℕ) × AssemblesTo bytes source × Breaks old new source

-- two images that do not differ are the same, and nothing was written; otherwise the lines of a comparison of their rows were
abbrev pub ShowsDifferences : (ℕ → Option ℕ) → (ℕ → Option ℕ) → Taker → Taker → Bool → Type 0
ShowsDifferences image other old new false = (image ≡ other) × (new ≡ old)
ShowsDifferences image other old new true = (changes : List Change) × Compares (rows image) (rows other) changes × Sends old new (flat_map shown changes)
