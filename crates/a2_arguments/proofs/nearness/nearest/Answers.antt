use Rattle.std.proofs.Common.{◌≡◌, ◌≤◌, ◌∙◌, [], sym, ap, map, drop, length, rules}
use Rattle.std.proofs.lemmas.List.{drop_all}
use Rattle.a2_arguments.specs.Best.{best_of}
use Rattle.a2_arguments.proofs.BestLaws.{nearest_found, nearest_from}
use Rattle.a2_arguments.proofs.nearness.nearest.Goals as goal

pub returns : goal.returns
returns c =
    let names = c.args.names.now in
    let over : length names ≤ c.loop-known.known-index = search rules in
    let none : map (λ n. n.now) (drop c.loop-known.known-index names) ≡ [] = ap (map (λ n. n.now)) (drop_all c.loop-known.known-index names over) in
    nearest_found c.args.name.now (map (λ n. n.now) names) c.loop-known.best.found c.loop-known.best.bound
    (ap (nearest_from c.args.name.now (best_of c.loop-known.best)) (sym none) ∙ c.loop-known.invariant)
