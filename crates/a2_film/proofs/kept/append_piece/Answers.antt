use Rattle.std.proofs.Common.{◌≡◌, sym, ◌∙◌}
use Rattle.std.proofs.lemmas.Slice.Eq.{bytes_eq-Decides}
use Rattle.a2_bus.specs.View.{memory_of}
use Rattle.a2_film.proofs.Appending.{others-none}
use Rattle.a2_film.proofs.kept.append_piece.Goals as goal

pub returns-then-eq-clause-stores : goal.returns-then-eq-clause-stores
returns-then-eq-clause-stores g c =
    let same : c.args.old.now ≡ c.args.now.now = (bytes_eq-Decides _ _).0 (sym c.eq.ensures ∙ c.if-eq.true) in
    others-none (memory_of c.args.machine.now.state.bus) c.args.rows.now.items c.args.old.now c.args.now.now c.args.next
    c.args.first c.args.end same c.requires.now
