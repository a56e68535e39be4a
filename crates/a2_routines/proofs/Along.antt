-- The routines along a run.
use Rattle.std.specs.Prelude.{Bool, true, false, ◌∷◌, ◌++◌, map, filter, if◌then◌else◌, refl}
use Rattle.std.proofs.Common.{◌≡◌, ℕ, suc, ◌+◌, List, [], sym, ap, ap₂, ◌∙◌, add-one}
use Rattle.a2_services.specs.World.{World}
use Rattle.a2_routines.specs.declared.routines.Entry.{Entry}
use Rattle.a2_routines.specs.Routines.{is_within, with_call, entered}

-- At the start no routine has been entered.
pub entered-start : (worlds : ℕ → World) (entries : List Entry) → entries ≡ [] → entries ≡ entered worlds 0
unfolding entered
entered-start worlds entries is = is

-- one step further
pub entered-next : (worlds : ℕ → World) (n : ℕ) (old mid new : List Entry) (here : World) (position : ℕ) (there : World) → old ≡ entered worlds n
    → mid ≡ with_call position here old → position ≡ n → here ≡ worlds n → new ≡ filter (is_within there) mid → there ≡ worlds (n + 1)
    → new ≡ entered worlds (n + 1)
unfolding entered
entered-next worlds n old mid new here position there before entering at is leaving next =
    let called : mid ≡ with_call n (worlds n) (entered worlds n)
    = entering ∙ ap (λ p. with_call p here old) at ∙ ap₂ (λ w es. with_call n w es) is before in
    let step : n + 1 ≡ suc n = add-one n in
    leaving ∙ ap₂ (λ w es. filter (is_within w) es) (next ∙ ap worlds step) called ∙ sym (ap (entered worlds) step)

-- Lists of what is made from entries

pub map-filter : {X Y : Type 0} (g : X → Y) (p : X → Bool) (q : Y → Bool) → ((x : X) → q (g x) ≡ p x) → (xs : List X) → filter q (map g xs) ≡ map g (filter p xs)
map-filter g p q alike [] = refl
map-filter g p q alike (x ∷ xs) =
    ap₂ (λ (b : Bool) (l : List _). if b then g x ∷ l else l) (alike x) (map-filter g p q alike xs) ∙ go (p x)
  where
    go : (b : Bool) → (if b then g x ∷ map g (filter p xs) else map g (filter p xs)) ≡ map g (if b then x ∷ filter p xs else filter p xs)
    go true = refl
    go false = refl

pub map-push : {X Y : Type 0} (g : X → Y) (xs : List X) (x : X) → map g (xs ++ x ∷ []) ≡ map g xs ++ g x ∷ []
map-push g [] x = refl
map-push g (y ∷ xs) x = ap (λ (l : List _). g y ∷ l) (map-push g xs x)
