-- The binary files of a disk.
use Rattle.std.specs.Prelude.{◌≡◌, ℕ, ◌+◌, ◌%◌, true, List, [], ◌∷◌, length, map, take, drop, slice_index}
use Rattle.a2_disk.specs.Catalog.{is_binary, name}
use Rattle.a2_disk.specs.Contents.{contents}
use Rattle.a2_disk.specs.declared.files.DiskFile.{DiskFile}

-- an entry is that of a binary file with this name, which begins with these bytes
pub record HasFile (disk : List ℕ) (entry : ℕ) (named bytes : List ℕ) : Type 0 where
  pub binary : is_binary disk entry ≡ true
  pub called : name disk entry ≡ named
  pub begins : take (length bytes) (contents disk entry) ≡ bytes

-- these entries are those of these files, one for each and in this order
abbrev pub HasFiles : List ℕ → List ℕ → List DiskFile → Type 0
HasFiles disk [] [] = Unit {0}
HasFiles disk (entry ∷ entries) (file ∷ files) = HasFile disk entry file.name file.bytes.now × HasFiles disk entries files
HasFiles disk [] (file ∷ files) = ⊥
HasFiles disk (entry ∷ entries) [] = ⊥
