use Rattle.a2_debugger.proofs.inspector.go_back_to_stop.Goals as goal

pub returns-in-Moved : goal.returns-in-Moved
returns-in-Moved g c = rw (← c.requires) c.go_back.ensures

pub returns-in_default : goal.returns-in_default
returns-in_default g c = rw (← c.requires) c.go_back.ensures
