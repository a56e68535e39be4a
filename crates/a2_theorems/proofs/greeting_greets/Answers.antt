use Rattle.a2_theorems.proofs.Greeting as theorem
use Rattle.a2_theorems.proofs.greeting_greets.Goals as goal

pub returns : goal.returns
returns c = theorem.greeting_greets
