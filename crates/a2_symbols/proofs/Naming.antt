-- The first name of an address.
use Rattle.std.specs.Prelude.{◌≡◌, ℕ, ◌+◌, ◌==◌, Bool, true, false, if◌then◌else◌, find, slice_get, Some, List, ◌∷◌, map, drop, Option, refl}
use Rattle.std.proofs.Common.{sym, ap, ◌∙◌, option_map}
use Rattle.std.proofs.lemmas.List.{drop_more}
use Rattle.std.proofs.lemmas.Option.{get_or_from_slice_get, slice_get-map, slice_get_within}
use Rattle.a2_asm.specs.Values.{Names}
use Rattle.a2_symbols.specs.Names.{named, name_of}

-- the entry at an index of a map, found through another form of its elements
pub entry-at : {X Y Z : Type 0} (see : X → Y) (f : Y → Z) (found : Option X) (x : X) (ys : List Y) (i : ℕ) → option_map see found ≡ slice_get ys i → found ≡ Some x
    → slice_get (map f ys) i ≡ Some (f (see x))
entry-at see f found x ys i lookup is = slice_get-map f ys i ∙ ap (option_map f) (sym lookup ∙ ap (option_map see) is)

-- the first name for an address, from an index on
pub name-next : (names : Names) (address i : ℕ) (entry : List ℕ × ℕ) → slice_get names i ≡ Some entry
    → name_of (drop i names) address ≡ (if entry.1 == address then entry.0 else name_of (drop (i + 1) names) address)
name-next names address i entry is =
    ap (λ (l : Names). name_of l address) (drop_more names i entry (slice_get_within names i entry is))
    ∙ ap (λ (e : List ℕ × ℕ). name_of (e ∷ drop (i + 1) names) address) (get_or_from_slice_get names i entry entry is)
    ∙ go (entry.1 == address)
  where
    go : (b : Bool) → named (if b then Some entry else find (λ e. e.1 == address) (drop (i + 1) names))
        ≡ (if b then entry.0 else name_of (drop (i + 1) names) address)
    go true = refl
    go false = refl
