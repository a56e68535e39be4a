use Rattle.std.proofs.Common.{◌∷◌, [], ◌++◌, ap, arith}
use Rattle.std.proofs.lemmas.List.{length-map, take_all, append-nil}
use Rattle.std.proofs.lemmas.List.Elements.{filter_map-append}
use Rattle.a2_asm.proofs.RowLaws.{rows-length}
use Rattle.a2_asm.proofs.PassedLaws.{seated}
use Rattle.a2_asm.proofs.every.by_values.Goals as goal
use Rattle.a2_asm.proofs.every.by_values.Goals.{in-Ok, in-Err+in_ok-refused-in-Err+in_ok-push-in-Err}

pub bounds-places-i : goal.bounds-places-i
bounds-places-i g c = grind (arith, length-map, rows-length)

pub line_bytes-requires-clause-row : goal.line_bytes-requires-clause-row
line_bytes-requires-clause-row g c =
    (seated c.args.lines.now c.args.places.now c.loop-i.i c.index-lines-i.result c.requires.places c.loop-i-test.true c.index-lines-i.is c.requires.placed).keeps.has_row

pub line_bytes-requires-clause-form : goal.line_bytes-requires-clause-form
line_bytes-requires-clause-form g c =
    (_, (seated c.args.lines.now c.args.places.now c.loop-i.i c.index-lines-i.result c.requires.places c.loop-i-test.true c.index-lines-i.is c.requires.placed).keeps.placed.mode)

pub loop-i-preserved : goal.loop-i-preserved
loop-i-preserved g c =
    let s = seated c.args.lines.now c.args.places.now c.loop-i.i c.index-lines-i.result c.requires.places c.loop-i-test.true c.index-lines-i.is c.requires.placed in
    elim c.match-line_bytes.branch [
      | in-Ok w ↦ rw w.faults-is (simp (s.taken, filter_map-append, w.in-Ok.ensures.taken, append-nil) c.loop-i.invariant)
      | in-Err+in_ok-refused-in-Err+in_ok-push-in-Err w ↦
          rw (w.faults-is, w.in_ok-push-in-Err.ensures.items, w.in_ok-refused-in-Err.ensures.same)
          (simp (s.taken, filter_map-append, w.in-Err.ensures.refused w.in_ok-refused-in-Err.ensures.source) (ap (λ faults. faults ++ w.in-Err.fault ∷ []) c.loop-i.invariant))
    ]

pub returns : goal.returns
returns g c = grind (arith, take_all, rows-length)
