use Rattle.std.proofs.Common.{◌≡◌, None, eqb, rules}
use Rattle.std.specs.List.{slice_split}
use Rattle.a2_manual.specs.Nearest.{all_names}
use Rattle.a2_manual.specs.Nearer.{best_of, nearest_from}
use Rattle.a2_manual.proofs.Best.{nearest-found, last-topic}
use Rattle.a2_manual.proofs.nearest_name.near.Goals as goal

pub returns-in_default : goal.returns-in_default
returns-in_default g c =
    let one = rw c.in_default.is at c.cut_at.ensures.pieces in
    let found : best_of c.in_ok-best.best ≡ nearest_from c.in_ok-capitals.capitals.items (best_of c.loop-capitals.best) (slice_split (λ b. eqb b 0x2C) c.cut_at-in-loop-capitals.result.0.now) = search rules in
    let all : best_of c.in_ok-best.best ≡ nearest_from c.in_ok-capitals.capitals.items (record { found = None; bound = 3 }) (all_names c.args.manual.now) =
    last-topic c.in_ok-capitals.capitals.items c.loop-capitals.left.now c.args.manual.now c.cut_at.result.0.now c.cut_at-in-loop-capitals.result.0.now _ _ _ one c.cut_at-in-loop-capitals.ensures.front found c.loop-capitals.invariant.0 in
    nearest-found c.args.name.now (all_names c.args.manual.now) c.in_ok-best.best.found c.in_ok-best.best.bound (rw c.loop-capitals.invariant.1 at all)
