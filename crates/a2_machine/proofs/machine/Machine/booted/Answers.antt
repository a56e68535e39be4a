use Rattle.a2_hex.specs.Images.{held}
use Rattle.a2_machine.proofs.Booting.{typed_start}
use Rattle.a2_machine.proofs.machine.Machine.booted.Goals as goal

pub returns-clause-world : goal.returns-clause-world
returns-clause-world g c =
    typed_start (held c.args.image.now) c.args.entry c.args.keys.now c.boot.new.self c.type_keys.new.self c.type_keys.result
    c.boot.ensures.world c.type_keys.ensures.room c.type_keys.ensures.typed c.bytes.ensures.room
