-- A listing that is written as a source. This project's profile.
use Rattle.std.specs.Prelude.{◌≡◌, ℕ, List, Result, Ok, Err}
use Rattle.a2_stream.specs.Stream.{Taker, Sends, Breaks}
use Rattle.a2_monitor_listing.specs.Imported.{AssemblesToListing, IsListingFault}
use Rattle.a2lab_sources.specs.declared.import.RowsFault.{RowsFault}
use Rattle.a2lab_sources.specs.declared.import.RowsFault.TheVariants.{Listing, Write}

-- a source with the bytes of the listing was written; or there is none and nothing was written; or a part was written and a write failed
abbrev pub ShowsRows : List ℕ → Taker → Taker → Result (Unit {0}) RowsFault → Type 0
ShowsRows text old new (Ok _) = (source : List ℕ) × AssemblesToListing text source × Sends old new source
ShowsRows text old new (Err (Listing fault)) = IsListingFault text fault × (new ≡ old)
ShowsRows text old new (Err Write) = (source : List ℕ) × AssemblesToListing text source × Breaks old new source
