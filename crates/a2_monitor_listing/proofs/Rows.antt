-- The rows of lines, one after another.
use Rattle.std.proofs.Common.{◌≡◌, ℕ, ◌+◌, ◌<◌, List, [], ◌++◌, length, map, take, get_or, Bor, sym, ap, ◌∙◌, arith}
use Rattle.std.specs.List.{flat_map}
use Rattle.std.proofs.lemmas.List.{take_more, flat_map_more, get_or-map, length-map}
use Rattle.a2_monitor_listing.specs.Listing.{object_row}

pub next-row : (bs : List ℕ) (texts : List (Bor (List ℕ))) (i : ℕ) (d : Bor (List ℕ)) → i < length texts
    → (bs ++ flat_map object_row (take i (map (λ x. x.now) texts))) ++ object_row (get_or texts i d).now
    ≡ bs ++ flat_map object_row (take (i + 1) (map (λ x. x.now) texts))
next-row bs texts i d low =
    let now : List (List ℕ) = map (λ (x : Bor (List ℕ)). x.now) texts in
    let count = length-map texts (λ (x : Bor (List ℕ)). x.now) in
    let at : get_or now i [] ≡ (get_or texts i d).now = get_or-map (λ (x : Bor (List ℕ)). x.now) texts i d [] low in
    ap (λ (line : List ℕ). (bs ++ flat_map object_row (take i now)) ++ object_row line) (sym at)
    ∙ flat_map_more object_row bs (take i now) (get_or now i [])
    ∙ ap (λ (ls : List (List ℕ)). bs ++ flat_map object_row ls) (sym (take_more now i [] (omega (arith, low, count))))
