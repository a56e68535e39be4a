use Rattle.std.proofs.Common.{ℕ, List, ◌++◌, is_some, ap, sym, ◌∙◌}
use Rattle.a2_services.specs.Services.{service_at}
use Rattle.a2_services.specs.World.{World}
use Rattle.a2_machine.specs.Meaning.{next}
use Rattle.a2_film.specs.Changes.{change_of}
use Rattle.a2_film.specs.Filmed.{seen_by, seen_of}
use Rattle.a2_film.specs.Rows.{row_text}
use Rattle.a2_film.proofs.Filming.{film-made}
use Rattle.a2_film.proofs.Keys.{keys-last}
use Rattle.a2_film.proofs.Stepping.{row_of, instruction_row}
use Rattle.a2_film.proofs.film.film_instruction.Goals as goal

pub returns-clause-step : goal.returns-clause-step
returns-clause-step g c =
    let old = c.machine-before.result.now in
    let new = c.machine-after.result.now in
    let before = g.S.Steps.world c.args.steps.now in
    let after = g.S.Steps.world c.step.new.self in
    let h = c.in-Some.ensures in
    let waiting = (next h.code before).memory.devices.keys in
    film-made before after (g.S.Steps.rest c.args.steps.now) (g.S.Steps.rest c.step.new.self) c.in-Some.typed c.args.rows.now.items
    c.push.new.self.items h
    (row_of c.args.rows.now.items _ _ _ _ _ _ c.push.ensures.items c.append_listed.ensures.stores
    (c.begin_row.ensures.items waiting h.keys
    (keys-last new before after (g.S.Steps.rest c.args.steps.now) (g.S.Steps.rest c.step.new.self) c.in-Some.typed
    c.machine-after.ensures.world h) h.count_is)
    ∙ ap (λ (l : List ℕ). c.args.rows.now.items ++ l)
    (instruction_row old new h.keys (seen_by c.args.seen.now) c.in-Some.typed c.as_slice.result.now
    (ap (λ (w : World). is_some (service_at w.registers.pc)) c.machine-before.ensures.world ∙ c.requires.instruction)
    c.peek.ensures.size (c.requires.seen ∙ ap seen_of (sym c.machine-before.ensures.world)) h.count_is
    (c.as_slice.ensures.value ∙ c.stores_at_pc-addresses.ensures)
    ∙ (λ i. row_text (change_of (c.machine-before.ensures.world i) h.keys (c.machine-after.ensures.world i)))))
