-- Laying one byte after another.
use Rattle.std.proofs.Common.{◌≡◌, ℕ, ◌+◌, ◌<◌, ◌≤◌, List, [], ◌∷◌, length, get_or, drop, Option, Result, Ok, Err, refl, arith}
use Rattle.std.proofs.lemmas.List.{drop_more, drop_all}
use Rattle.a2_formats.specs.declared.fault.FormatFault.{FormatFault}
use Rattle.a2_formats.specs.Laying.{laid, laid_byte}

pub laid_none : (place : ℕ) (image : ℕ → Option ℕ) (at : ℕ) (bytes : List ℕ) (i : ℕ) → length bytes ≤ i → laid place image at (drop i bytes) ≡ Ok image
unfolding laid
laid_none place image at bytes i ge = rw (drop_all i bytes ge) refl

pub laid_ok : (place : ℕ) (image : ℕ → Option ℕ) (at : ℕ) (bytes : List ℕ) (i d : ℕ) (after : ℕ → Option ℕ) → i < length bytes → laid_byte place image at (get_or bytes i d) ≡ Ok after
    → laid place image at (drop i bytes) ≡ laid place after (at + 1) (drop (i + 1) bytes)
unfolding laid
laid_ok place image at bytes i d after lt is = rw (drop_more bytes i d lt, is) refl

pub laid_err : (place : ℕ) (image : ℕ → Option ℕ) (at : ℕ) (bytes : List ℕ) (i d : ℕ) (fault : FormatFault) → i < length bytes → laid_byte place image at (get_or bytes i d) ≡ Err fault
    → laid place image at (drop i bytes) ≡ Err fault
unfolding laid
laid_err place image at bytes i d fault lt is = rw (drop_more bytes i d lt, is) refl
