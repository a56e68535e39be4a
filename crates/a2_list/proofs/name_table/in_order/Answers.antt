use Rattle.std.proofs.Common.{ℕ, List, Bor}
use Rattle.std.proofs.lemmas.List.Sorted.{IsPermutation-map}
use Rattle.a2_list.proofs.UseLaws.{sorted-texts}
use Rattle.a2_list.proofs.name_table.in_order.Goals as goal

pub returns : goal.returns
returns g c =
    let now = λ (x : Bor (List ℕ)). x.now in
    let moved = IsPermutation-map now c.in_ok-order.order.items c.sort.new.self.items c.sort.ensures.permutation in
    record {
      same = rw (c.in_ok-order.ensures, c.names.ensures) at moved;
      ascending = sorted-texts c.sort.new.self.items c.in_ok-sort.ensures.sorted;
    }
