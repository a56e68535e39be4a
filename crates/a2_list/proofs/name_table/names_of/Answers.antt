use Rattle.std.proofs.Common.{ℕ, List, map, Bor, ap, ◌∙◌}
use Rattle.a2_asm.specs.Entries.{entries}
use Rattle.a2_list.proofs.Rows.{entry-at}
use Rattle.a2_list.proofs.UseLaws.{found-next}
use Rattle.a2_list.proofs.name_table.names_of.Goals as goal

pub loop-index-preserved : goal.loop-index-preserved
loop-index-preserved g c =
    ap (map (λ (x : Bor (List ℕ)). x.now)) c.in_ok-push.ensures.items
    ∙ found-next (entries c.args.names.now) c.loop-index.index _ c.loop-index.found.items c.as_str.result
    (entry-at _ _ c.get_index.result _ c.args.names.now.entries c.loop-index.index c.get_index.ensures.entry c.in-Some.is)
    c.as_str.ensures.value c.loop-index.invariant
