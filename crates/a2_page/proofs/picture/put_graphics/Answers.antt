use Rattle.a2_page.proofs.picture.put_graphics.Goals as goal

pub returns-then-switches : goal.returns-then-switches
returns-then-switches g c = rw c.if-switches.true c.put.ensures
