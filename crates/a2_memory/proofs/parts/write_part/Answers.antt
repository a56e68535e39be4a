use Rattle.std.proofs.Common.{◌≡◌, ◌∙◌, ◌<◌, Some, Ok, Err, ap, arith}
use Rattle.a2_monitor.specs.Commands.{command_of, examines}
use Rattle.a2_monitor.specs.SessionStates.{state_of_session}
use Rattle.a2_memory.specs.Parts.{shown_part}
use Rattle.a2_memory.proofs.LineLaws.{shows-line}
use Rattle.a2_memory.proofs.ShownLaws.{part_shown}
use Rattle.a2_memory.proofs.parts.write_part.Goals as goal

pub returns-in-Ok-clause-world : goal.returns-in-Ok-clause-world
returns-in-Ok-clause-world g c =
    let first : c.args.part.first < 65536 = omega (arith, c.args.part.ordered, c.args.part.inside) in
    let last : c.args.part.last < 65536 = omega (arith, c.args.part.inside) in
    let says : command_of c.as_slice.result.now ≡ Some (examines (record { first = c.args.part.first; last = c.args.part.last })) =
    ap command_of (c.as_slice.ensures.value ∙ c.line_of.ensures) ∙ shows-line c.args.part.first c.args.part.last first last in
    (part_shown c.as_slice.result.now c.args.part.first c.args.part.last (state_of_session c.args.session.now) (state_of_session c.line.new.self) says c.args.part.ordered c.args.part.inside
    (g.W.Output.taker c.args.writer.now) (g.W.Output.taker c.line.new.writer) (Ok tt) c.in-Ok.ensures.answers).world

pub returns-in-Ok-clause-shown : goal.returns-in-Ok-clause-shown
unfolding shown_part
returns-in-Ok-clause-shown g c =
    let first : c.args.part.first < 65536 = omega (arith, c.args.part.ordered, c.args.part.inside) in
    let last : c.args.part.last < 65536 = omega (arith, c.args.part.inside) in
    let says : command_of c.as_slice.result.now ≡ Some (examines (record { first = c.args.part.first; last = c.args.part.last })) =
    ap command_of (c.as_slice.ensures.value ∙ c.line_of.ensures) ∙ shows-line c.args.part.first c.args.part.last first last in
    (part_shown c.as_slice.result.now c.args.part.first c.args.part.last (state_of_session c.args.session.now) (state_of_session c.line.new.self) says c.args.part.ordered c.args.part.inside
    (g.W.Output.taker c.args.writer.now) (g.W.Output.taker c.line.new.writer) (Ok tt) c.in-Ok.ensures.answers).shown

pub returns-in-Err-clause-world : goal.returns-in-Err-clause-world
returns-in-Err-clause-world g c =
    let first : c.args.part.first < 65536 = omega (arith, c.args.part.ordered, c.args.part.inside) in
    let last : c.args.part.last < 65536 = omega (arith, c.args.part.inside) in
    let says : command_of c.as_slice.result.now ≡ Some (examines (record { first = c.args.part.first; last = c.args.part.last })) =
    ap command_of (c.as_slice.ensures.value ∙ c.line_of.ensures) ∙ shows-line c.args.part.first c.args.part.last first last in
    (part_shown c.as_slice.result.now c.args.part.first c.args.part.last (state_of_session c.args.session.now) (state_of_session c.line.new.self) says c.args.part.ordered c.args.part.inside
    (g.W.Output.taker c.args.writer.now) (g.W.Output.taker c.line.new.writer) (Err c.in-Err.field-0) c.in-Err.ensures.answers).world

pub returns-in-Err-clause-shown : goal.returns-in-Err-clause-shown
unfolding shown_part
returns-in-Err-clause-shown g c =
    let first : c.args.part.first < 65536 = omega (arith, c.args.part.ordered, c.args.part.inside) in
    let last : c.args.part.last < 65536 = omega (arith, c.args.part.inside) in
    let says : command_of c.as_slice.result.now ≡ Some (examines (record { first = c.args.part.first; last = c.args.part.last })) =
    ap command_of (c.as_slice.ensures.value ∙ c.line_of.ensures) ∙ shows-line c.args.part.first c.args.part.last first last in
    (part_shown c.as_slice.result.now c.args.part.first c.args.part.last (state_of_session c.args.session.now) (state_of_session c.line.new.self) says c.args.part.ordered c.args.part.inside
    (g.W.Output.taker c.args.writer.now) (g.W.Output.taker c.line.new.writer) (Err c.in-Err.field-0) c.in-Err.ensures.answers).shown
