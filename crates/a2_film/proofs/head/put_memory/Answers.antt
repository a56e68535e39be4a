use Rattle.std.proofs.Common.{◌++◌, List, codes, slice_index, subst, refl}
use Rattle.a2_stream.specs.Stream.{SendsOrBreaks}
use Rattle.a2_bus.specs.Memory.{ram_byte, ram_end}
use Rattle.a2_bus.specs.View.{memory_of}
use Rattle.a2_film.specs.Changes.{Store}
use Rattle.a2_film.specs.Rows.{stores_text, no_address, memory_line}
use Rattle.a2_film.proofs.Parts.{differing-alike}
use Rattle.a2_film.proofs.head.put_memory.Goals as goal

pub returns : goal.returns
unfolding memory_line
returns g c =
    let byte_at = ram_byte (memory_of c.args.machine.now.state.bus) in
    subst (λ (l : List Store). SendsOrBreaks (g.W.Output.taker c.args.writer.now) (g.W.Output.taker c.put_ram.new.writer)
    c.put_ram.result
    (codes "M " ++ (stores_text no_address l ++ codes "\n")))
    (differing-alike (slice_index c.args.blank.now) (λ _. 0) byte_at byte_at 0 ram_end (λ k low high. c.requires.zeros k)
    (λ k low high. refl))
    c.put_ram.ensures
