-- What remains of the checkpoints when some are dropped.
use Rattle.std.proofs.Common.{◌≡◌, ◌⊎◌, inl, inr, ℕ, zero, suc, ◌<◌, ◌≤◌, Bool, true, false, List, [], ◌∷◌, ◌++◌, length, remove, slice_index_or, All, true≢false, refl, sym, ap, subst, ◌∙◌, arith}
use Rattle.std.specs.List.{AllByRecursion, items_where_true}
use Rattle.std.specs.List.Retain.{IsFiltered, ReturnsInTurn}
use Rattle.std.proofs.lemmas.List.Elements.{All-from_recursion, recursion_from_All, All-push}
use Rattle.a2_machine.specs.State.{MachineState, Device}
use Rattle.a2_history.specs.Spacing.{IsKept, IsWidth}
use Rattle.a2_history.specs.Courses.{Course, world_on}
use Rattle.a2_history.specs.Going.{IsOn, AreOn}
use Rattle.a2_history.specs.Held.{Thins, IsCopy, Holds}

-- a checkpoint that is not kept
abbrev pub IsOther : ℕ → ℕ → Device → Type 0
IsOther width now d = IsKept width now d.state.steps → ⊥

pub thins-same : (width now : ℕ) (ds : List Device) → Thins width now ds ds
thins-same width now [] = refl
thins-same width now (d ∷ ds) = inr (ds, refl, thins-same width now ds)

-- If the first checkpoint stays, it may still be dropped later.
later-first : (width now : ℕ) (d : Device) (ds mid new : List Device)
    → ((next : List Device) → Thins width now mid next → Thins width now ds next)
    → Thins width now (d ∷ mid) new → Thins width now (d ∷ ds) new
later-first width now d ds mid new rest (inl gone) = inl (gone.0, rest new gone.1)
later-first width now d ds mid new rest (inr stays) = inr (stays.0, stays.1, rest stays.0 stays.2)

pub thins-twice : (width now : ℕ) (old mid new : List Device) → Thins width now old mid → Thins width now mid new → Thins width now old new
thins-twice width now [] mid new one two = subst (λ (ds : List Device). Thins width now ds new) one two
thins-twice width now (d ∷ ds) mid new (inl gone) two = inl (gone.0, thins-twice width now ds mid new gone.1 two)
thins-twice width now (d ∷ ds) mid new (inr stays) two =
    later-first width now d ds stays.0 new (λ next. thins-twice width now ds stays.0 next stays.2)
    (subst (λ (xs : List Device). Thins width now xs new) stays.1 two)

-- What holds for all checkpoints holds for those that remain.
left-all : (P : Device → Type 0) (width now : ℕ) (old new : List Device) → Thins width now old new → AllByRecursion P old → AllByRecursion P new
left-all P width now [] new left all = subst (λ (ds : List Device). AllByRecursion P ds) (sym left) tt
left-all P width now (d ∷ ds) new (inl gone) all = left-all P width now ds new gone.1 all.1
left-all P width now (d ∷ ds) new (inr stays) all =
    subst (λ (xs : List Device). AllByRecursion P xs) (sym stays.1) (all.0, left-all P width now ds stays.0 stays.2 all.1)

pub thinned-all : (P : Device → Type 0) (width now : ℕ) (old new : List Device) → Thins width now old new → All P old → All P new
thinned-all P width now old new left all =
    All-from_recursion P new (left-all P width now old new left (recursion_from_All P old all))

pub thinned-few : (width now : ℕ) (old new : List Device) → Thins width now old new → length new ≤ length old
thinned-few width now [] new left = subst (λ (ds : List Device). length ds ≤ 0) (sym left) (omega arith)
thinned-few width now (d ∷ ds) new (inl gone) =
    let rest : length new ≤ length ds = thinned-few width now ds new gone.1 in omega (arith, rest)
thinned-few width now (d ∷ ds) new (inr stays) =
    let rest : length stays.0 ≤ length ds = thinned-few width now ds stays.0 stays.2 in
    subst (λ (xs : List Device). length xs ≤ length (d ∷ ds)) (sym stays.1) (omega (arith, rest))

pub thins-removed : (width now index : ℕ) (ds : List Device) → index < length ds
    → ((d : Device) → IsOther width now (slice_index_or ds index d)) → Thins width now ds (remove ds index)
thins-removed width now index [] within other = absurd (omega (arith, within))
thins-removed width now zero (d ∷ ds) within other = inl (other d, thins-same width now ds)
thins-removed width now (suc index) (d ∷ ds) within other =
    inr (remove ds index, refl, thins-removed width now index ds (omega (arith, within)) other)

module _ {F : Type 0} (R : F → Device → Bool → F → Type 0) (f : F) (width now : ℕ)
    (says : (d : Device) (b : Bool) (f' : F) → R f d b f' → (IsKept width now d.state.steps → b ≡ true) × (f' ≡ f)) where
  told : (bs : List Bool) (ds : List Device) (q : F) → length bs ≡ length ds → ReturnsInTurn R f bs ds q → Thins width now ds (items_where_true bs ds)
  told [] [] q same turns = refl
  told [] (d ∷ ds) q same turns = absurd (omega (arith, same))
  told (b ∷ bs) [] q same turns = absurd turns
  told (true ∷ bs) (d ∷ ds) q same turns = inr (
    items_where_true bs ds,
    refl,
    told bs ds q (omega (arith, same)) (subst (λ (y : F). ReturnsInTurn R y bs ds q) (says d true turns.0 turns.1).1 turns.2),
  )
  told (false ∷ bs) (d ∷ ds) q same turns = let one = says d false turns.0 turns.1 in inl (
    λ is. true≢false (sym (one.0 is)),
    told bs ds q (omega (arith, same)) (subst (λ (y : F). ReturnsInTurn R y bs ds q) one.1 turns.2),
  )

  pub thins-retained : (old new : List Device) → IsFiltered R f old new → Thins width now old new
  thins-retained old new k = subst (λ (ds : List Device). Thins width now old ds) (sym k.4) (told k.0 old k.1 k.2 k.3)

copied : (course : Course) (state copy : MachineState) → IsCopy state copy → IsOn course state → IsOn course copy
copied course state copy is here = record {
  world = is.world ∙ here.world ∙ ap (world_on course) (sym is.steps);
  went = λ k l. here.went k (omega (arith, l, is.steps));
}

-- If the old checkpoints and the machine are on a run, so are the checkpoints held afterwards.
pub on-held : (course : Course) (most : ℕ) (state : MachineState) (old new : List Device) → Holds most state old new
    → IsOn course state → AreOn course old → AreOn course new
on-held course most state old new holds here on = go holds.added
  where
    left : AreOn course holds.kept
    left = thinned-all (λ d. IsOn course d.state) holds.width state.steps old holds.kept holds.thinned on

    go : (new ≡ holds.kept) ⊎ ((copy : Device) × IsCopy state copy.state × (new ≡ holds.kept ++ copy ∷ [])) → AreOn course new
    go (inl same) = subst (λ (ds : List Device). AreOn course ds) (sym same) left
    go (inr more) = subst (λ (ds : List Device). AreOn course ds) (sym more.2)
        (All-push (λ (d : Device). IsOn course d.state) holds.kept more.0 left (copied course state more.0.state more.1 here))

-- What is held after checkpoints were dropped in two stages.
pub held-by : (most now width : ℕ) (state : MachineState) (old mid kept new : List Device) → now ≡ state.steps → IsWidth most now width
    → Thins width now old mid → Thins width now mid kept → All (λ d. IsKept width now d.state.steps) kept
    → (new ≡ kept) ⊎ ((copy : Device) × IsCopy state copy.state × (new ≡ kept ++ copy ∷ [])) → Holds most state old new
held-by most now width state old mid kept new at is one two wanted added = record {
  width = width;
  width_is = subst (λ n. IsWidth most n width) at is;
  kept = kept;
  thinned = subst (λ n. Thins width n old kept) at (thins-twice width now old mid kept one two);
  wanted = subst (λ n. All (λ (d : Device). IsKept width n d.state.steps) kept) at wanted;
  added = added;
}

pub copy-added : (state : MachineState) (copy : Device) (kept new : List Device) → IsCopy state copy.state
    → (new ≡ kept) ⊎ (new ≡ kept ++ copy ∷ []) → (new ≡ kept) ⊎ ((copy : Device) × IsCopy state copy.state × (new ≡ kept ++ copy ∷ []))
copy-added state copy kept new is (inl same) = inl same
copy-added state copy kept new is (inr more) = inr (copy, is, more)

pub few-left : (most now width : ℕ) (old mid kept : List Device) → length old ≤ most → Thins width now old mid → Thins width now mid kept
    → length kept ≤ most
few-left most now width old mid kept few one two =
    omega (arith, few, thinned-few width now old mid one, thinned-few width now mid kept two)
