use Rattle.std.proofs.Common.{◌≡◌, ◌+◌, ◌<◌, length, take, refl, arith, rules}
use Rattle.std.specs.List.{prefix_len}
use Rattle.std.proofs.lemmas.List.{take_rest}
use Rattle.a2_monitor_session.proofs.Besides.{in_line, sofar-more}
use Rattle.a2_monitor_session.proofs.beside.with_source_beside.Goals as goal

pub loop-rest-preserved : goal.loop-rest-preserved
loop-rest-preserved g c =
    let rest = c.loop-rest.rest.now in
    let end = c.front_len-end.result in
    let is_end : end ≡ prefix_len in_line rest = c.front_len-end.ensures.is in_line (λ x t k. search rules) in
    let before : end < length rest = omega (arith, c.front_len-end.ensures.within, c.if-end-rest.false) in
    let (told, plain, whole) = c.in_ok-append_row.ensures in
    sofar-more c.args.text.now c.loop-rest.whole.items rest (take end rest) told _ c.append_row.new.whole.items end
    c.loop-rest.invariant is_end before refl (take_rest rest (end + 1)) plain whole
