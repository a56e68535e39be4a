use Rattle.std.specs.Prelude.{◌≡◌, ◌<◌, ◌≤◌, ℕ, ◌-◌, ◌==◌, ◌&&◌, Bool, true, false, List, [], ◌∷◌, length, take, drop, Option, Some, None, MatchOption, refl, if◌then◌else◌}
use Rattle.std.proofs.Common.{ap, ap₂, sym, subst, ◌∙◌, get_or, arith}
use Rattle.std.proofs.lemmas.Bool.Decides.{Decides-eqb}
use Rattle.std.proofs.lemmas.List.{take_all}
use Rattle.a2_promise.specs.declared.valuing.Visit.{Visit}
use Rattle.a2_promise.specs.Values.{Moment, moment_of, moment_there, visited}
use Rattle.a2_promise.proofs.Names.{unequal}
use Rattle.a2_promise.proofs.valuing.+visited.Goals as goal
use Rattle.a2_promise.proofs.valuing.+visited.Goals.{else-visit-address-via-then-visit-address+else-visit, else-visit-address-via-else-visit-address}

none_visited : {A : Type 0} (visits : List (Visit A)) (a : ℕ) → length visits < 1 → visited visits a ≡ None
none_visited [] a l = refl
none_visited (visit ∷ visits) a l = absurd (omega (arith, l))

visited_by : {A : Type 0} (visits : List (Visit A)) (visit : Visit A) (a : ℕ) (here : Bool) → 1 ≤ length visits → visit ≡ get_or visits 0 visit
    → (visit.address == a && visit.is_there) ≡ here
    → visited visits a ≡ (if here then Some (moment_there visit) else visited (take (length visits - 1) (drop 1 visits)) a)
visited_by [] visit a here l is e = absurd (omega (arith, l))
visited_by {A} (first ∷ visits) visit a here l is e =
    let rest : take (length (first ∷ visits) - 1) (drop 1 (first ∷ visits)) ≡ visits = take_all (length (first ∷ visits) - 1) visits (omega arith) in
    ap (λ (v : Visit A). if v.address == a && v.is_there then Some (moment_there v) else visited visits a) (sym is)
    ∙ ap₂ (λ b (rest : List (Visit A)). if b then Some (moment_there visit) else visited rest a) e (sym rest)

pub returns-in_default : goal.returns-in_default
returns-in_default g t c = none_visited c.args.visits.now c.args.address c.in_default.len_below

pub returns-then-visit : goal.returns-then-visit
returns-then-visit g t c =
    visited_by c.args.visits.now c.visit-item.result c.args.address true c.in-len1-up.len_at_least c.visit-item.is
    (ap₂ (λ a b. a && b) ((Decides-eqb c.visit-item.result.address c.args.address).1 c.if-visit-address.true) c.if-visit.true)
    ∙ ap (λ moment. Some moment) (sym c.sight_of.ensures)

pub returns : goal.returns
returns g t c =
    let visit = c.visit-item.result in
    let other : (visit.address == c.args.address && visit.is_there) ≡ false = elim c.else-visit-address.branch [
      | else-visit-address-via-then-visit-address+else-visit w ↦ ap₂ (λ a b. a && b) ((Decides-eqb visit.address c.args.address).1 w.if-visit-address.true) w.if-visit.false
      | else-visit-address-via-else-visit-address w ↦ ap (λ b. b && visit.is_there) (unequal (visit.address == c.args.address)
          (λ e. w.if-visit-address.false ((Decides-eqb visit.address c.args.address).0 e)))
    ] in
    let P : Option Moment → Type 0 = λ there. MatchOption c.visited.result (there ≡ None) (λ sight. there ≡ Some (moment_of sight)) in
    subst P (sym (visited_by c.args.visits.now visit c.args.address false c.in-len1-up.len_at_least c.visit-item.is other)) c.visited.ensures
