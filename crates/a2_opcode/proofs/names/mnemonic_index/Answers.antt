use Rattle.a2_opcode.specs.LookupArrays.{index_by_letters}
use Rattle.a2_opcode.proofs.Naming.{index_by_letters-few}
use Rattle.a2_opcode.proofs.names.mnemonic_index.Goals as goal

pub returns-clause-is : goal.returns-clause-is
unfolding index_by_letters
returns-clause-is c = rw (c.from-4.ensures, c.from.ensures, c.from-2.ensures, c.from-3.ensures)

pub returns-clause-within : goal.returns-clause-within
returns-clause-within c = rw (returns-clause-is c) (index_by_letters-few c.args.letters)
