use Rattle.std.proofs.Common.{◌≡◌, drop}
use Rattle.a2_asm.specs.Entries.{entries}
use Rattle.a2_symbols.specs.Names.{name_of}
use Rattle.a2_symbols.proofs.names.name_of.Given as goal

-- none of the names so far is a name of the address
abbrev pub invariant-loop-index : goal.invariant-loop-index
invariant-loop-index g l = name_of (drop l.index (entries l.names)) l.address ≡ name_of (entries l.names) l.address
