-- The names of operations.
use Rattle.std.specs.Prelude.{ℕ, List, codes}
use Rattle.a2_opcode.specs.Names.{name_of}
use Rattle.a2_syntax.specs.declared.operation.Operation.{Operation}
use Rattle.a2_syntax.specs.declared.operation.Operation.TheVariants.{Instr, Org, Equ, Dfb, Dw, Asc, Ds}

-- the letters of an operation: a mnemonic's (MCS6500 Programming Manual, appendix B), or those of a directive of this
-- project's profile
abbrev pub letters_of : Operation → List ℕ
letters_of (Instr m) = name_of m
letters_of Org = codes "ORG"
letters_of Equ = codes "EQU"
letters_of Dfb = codes "DFB"
letters_of Dw = codes "DW"
letters_of Asc = codes "ASC"
letters_of Ds = codes "DS"
