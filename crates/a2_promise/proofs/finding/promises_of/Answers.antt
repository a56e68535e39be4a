use Rattle.std.proofs.Common.{ℕ, List, map, Bor, sym, ap, subst, ◌∙◌, add-one}
use Rattle.std.specs.Option.{option_map}
use Rattle.std.proofs.lemmas.Option.{slice_get-map, slice_get-get_or}
use Rattle.a2_promise.specs.Finding.{AreRead}
use Rattle.a2_promise.proofs.Labels.{label_in_source}
use Rattle.a2_promise.proofs.finding.promises_of.Goals as goal

pub loop-index-preserved : goal.loop-index-preserved
loop-index-preserved c = λ h.
    let texts = map (λ (line : Bor (List ℕ)). line.now) c.args.lines.now in
    let stands = slice_get-map (λ (line : Bor (List ℕ)). line.now) c.args.lines.now c.loop-index.index
    ∙ ap (option_map (λ (line : Bor (List ℕ)). line.now)) (slice_get-get_or c.args.lines.now c.loop-index.index _ c.loop-index-test.true) in
    let label = label_in_source texts c.args.source.now c.loop-index.index _ h stands ∙ sym c.label_at.ensures in
    subst (λ (k : ℕ). AreRead texts c.args.program.now.names k c.read.new.block c.read.new.self) (sym (add-one c.loop-index.index))
    (c.in_ok-read.ensures texts c.loop-index.index (record { number = add-one c.loop-index.index; stands = stands; label = label })
    (c.loop-index.invariant h))

pub returns : goal.returns
returns c = λ h. c.end.ensures _ c.args.program.now.names (c.loop-index.invariant h).1
