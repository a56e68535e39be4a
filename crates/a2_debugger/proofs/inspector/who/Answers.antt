use Rattle.a2_debugger.proofs.inspector.who.Goals as goal

pub returns-in-NoneEarlier : goal.returns-in-NoneEarlier
returns-in-NoneEarlier g c = rw (← c.requires) c.go_back.ensures

pub returns-in_default : goal.returns-in_default
returns-in_default g c = rw (← c.requires) c.go_back.ensures
