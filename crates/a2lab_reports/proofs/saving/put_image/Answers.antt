use Rattle.std.proofs.Common.{◌≡◌, ap, subst}
use Rattle.a2_stream.specs.Stream.{Sends}
use Rattle.a2_bus.specs.View.{memory_of}
use Rattle.a2_hex.specs.Images.{held}
use Rattle.a2_hex.specs.ObjectText.{object_text}
use Rattle.a2_memory.specs.Texts.{ram_lines}
use Rattle.a2lab_reports.proofs.saving.put_image.Goals as goal

pub returns : goal.returns
returns g c =
    let same : object_text (held c.in_ok-lines.lines) ≡ ram_lines (memory_of c.args.machine.now.state.bus)
    = ap object_text (λ i a. c.in_ok-lines.ensures a i) in
    subst (Sends (g.W.Output.taker c.args.writer.now) (g.W.Output.taker c.write_lines.new.writer)) same c.in_ok-write_lines.ensures
