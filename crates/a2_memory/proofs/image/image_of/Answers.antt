use Rattle.std.proofs.Common.{◌≡◌, ◌<◌, arith, rules}
use Rattle.std.specs.Option.{unwrap_or}
use Rattle.a2_bus.specs.Memory.{peek, ram_end}
use Rattle.a2_bus.specs.View.{memory_of}
use Rattle.a2_hex.specs.Images.{held}
use Rattle.a2_memory.proofs.ImageLaws.{image-below, image-above, image-all}
use Rattle.a2_memory.proofs.image.image_of.Goals as goal

pub loop-address-preserved : goal.loop-address-preserved
loop-address-preserved g c =
    let memory = memory_of c.args.machine.now.state.bus in
    let address = c.loop-address.address in
    let low : address < ram_end = omega (arith, c.loop-address-test.true) in
    let byte_is : c.unwrap_or.result ≡ unwrap_or (peek memory address) 0 = search rules in
    record {
      below = image-below (held c.loop-address.image) (held c.set.new.self) memory address c.unwrap_or.result low c.set.ensures byte_is c.loop-address.invariant.below;
      above = image-above (held c.loop-address.image) (held c.set.new.self) address c.unwrap_or.result c.set.ensures c.loop-address.invariant.above;
    }

pub returns : goal.returns
returns g c =
    image-all (held c.loop-address.image) (memory_of c.args.machine.now.state.bus) c.loop-address.address
    (omega (arith, c.loop-address-test.false, c.loop-address.auto.address-end)) c.loop-address.invariant.below c.loop-address.invariant.above
