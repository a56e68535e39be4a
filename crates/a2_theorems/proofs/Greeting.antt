use Rattle.std.specs.Prelude.{◌≡◌, Some, false, refl}
use Rattle.a2_machine.proofs.Computing.{computing}
use Rattle.a2_theorems.specs.Greeting.{greeting, greeting_output, GreetingGreets}
use Rattle.a2_theorems.proofs.TextRunProofs.{entry_of, prints}
use Rattle.a2_theorems.proofs.Reading.{reading, starting, printing}

read : entry_of greeting ≡ Some 0x300
unfolding reading
read = refl

pub greeting_greets : GreetingGreets
unfolding computing reading starting printing
greeting_greets keys limit within = prints greeting keys 0x300 39 limit false greeting_output read refl refl refl within
