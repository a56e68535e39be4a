-- What a run prints, and the bytes that an output takes.
use Rattle.std.specs.Prelude.{◌≡◌, ℕ, List, [], true, refl, unwrap_or}
use Rattle.a2_stream.specs.Stream.{Taker}
use Rattle.a2_bus.specs.Memory.{Memory}
use Rattle.a2_page.specs.Picture.{attribute_rows}
use Rattle.a2_run.specs.Meaning.{attributes_of}

-- what a machine prints of attributes is what is meant
pub marked : (memory : Memory) → attribute_rows memory.devices.switches memory.page1 memory.page2 ≡ attributes_of true memory
unfolding attributes_of
marked memory = refl

-- the bytes that an output has taken
abbrev pub took : Taker → List ℕ
took taker = unwrap_or taker.bytes []
