-- Sources with the bytes of listings. This project's profile.
use Rattle.std.specs.Prelude.{◌≡◌, ◌<◌, ℕ, List, Option, Ok, Err}
use Rattle.a2_hex.specs.Images.{held, ram_end}
use Rattle.a2_syntax.specs.Bare.{BareLine}
use Rattle.a2_syntax.specs.Sources.{IsSource}
use Rattle.a2_asm.specs.Assembled.{Assembled}
use Rattle.a2_asm.specs.Programs.{IsProgram}
use Rattle.a2_monitor_listing.specs.declared.fault.ListingFault.{ListingFault}
use Rattle.a2_monitor_listing.specs.declared.fault.ListingFault.TheVariants as faults
use Rattle.a2_monitor_listing.specs.Listing.{listed}

-- a text is a source that assembles to exactly these bytes
abbrev pub AssemblesTo : (ℕ → Option ℕ) → List ℕ → Type 0
AssemblesTo bytes text =
    (source : List BareLine) × (program : Assembled) × IsSource text source × IsProgram source program
    × ((a : ℕ) → a < ram_end → held program.image a ≡ bytes a)

-- a text is a source that assembles to the bytes of a listing
abbrev pub AssemblesToListing : List ℕ → List ℕ → Type 0
AssemblesToListing listing text = (bytes : ℕ → Option ℕ) × (listed listing ≡ Ok bytes) × AssemblesTo bytes text

-- why a listing cannot be imported: a line has no bytes; for the other errors nothing is promised
abbrev pub IsListingFault : List ℕ → ListingFault → Type 0
IsListingFault listing (faults.Row fault) = listed listing ≡ Err fault
IsListingFault listing fault = Unit {0}
