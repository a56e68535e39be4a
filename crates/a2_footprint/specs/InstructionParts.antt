-- The registers and flags that an instruction uses, and those that it sets. MCS6500 Programming Manual, appendix A.
use Rattle.std.specs.Prelude.{List, [], ◌∷◌}
use Rattle.a2_opcode.specs.declared.Mode.{Mode}
use Rattle.a2_opcode.specs.declared.Mode.TheVariants.{Accumulator, ZeroPageX, ZeroPageY, AbsoluteX, AbsoluteY, IndexedIndirect, IndirectIndexed}
use Rattle.a2_opcode.specs.declared.Mnemonic.{Mnemonic}
use Rattle.a2_opcode.specs.declared.Mnemonic.TheVariants.{Adc, And, Asl, Bcc, Bcs, Beq, Bit, Bmi, Bne, Bpl, Bvc, Bvs, Clc, Cld, Cli, Clv, Cmp, Cpx, Cpy, Dec, Dex, Dey, Eor, Inc, Inx, Iny, Lda, Ldx, Ldy, Lsr, Ora, Pha, Php, Pla, Plp, Rol, Ror, Rti, Sbc, Sec, Sed, Sei, Sta, Stx, Sty, Tax, Tay, Tsx, Txa, Txs, Tya}
use Rattle.a2_footprint.specs.declared.Part.{Part}
use Rattle.a2_footprint.specs.declared.Part.TheVariants as part

abbrev pub all_flags : List Part
all_flags = part.N ∷ part.V ∷ part.D ∷ part.I ∷ part.Z ∷ part.C ∷ []

-- the parts that a mnemonic uses
unfoldable pub needs : Mnemonic → List Part
needs Adc = part.A ∷ part.D ∷ part.C ∷ []
needs And = part.A ∷ []
needs Bcc = part.C ∷ []
needs Bcs = part.C ∷ []
needs Beq = part.Z ∷ []
needs Bit = part.A ∷ []
needs Bmi = part.N ∷ []
needs Bne = part.Z ∷ []
needs Bpl = part.N ∷ []
needs Bvc = part.V ∷ []
needs Bvs = part.V ∷ []
needs Cmp = part.A ∷ []
needs Cpx = part.X ∷ []
needs Cpy = part.Y ∷ []
needs Dex = part.X ∷ []
needs Dey = part.Y ∷ []
needs Eor = part.A ∷ []
needs Inx = part.X ∷ []
needs Iny = part.Y ∷ []
needs Ora = part.A ∷ []
needs Pha = part.A ∷ []
needs Php = all_flags
needs Rol = part.C ∷ []
needs Ror = part.C ∷ []
needs Sbc = part.A ∷ part.D ∷ part.C ∷ []
needs Sta = part.A ∷ []
needs Stx = part.X ∷ []
needs Sty = part.Y ∷ []
needs Tax = part.A ∷ []
needs Tay = part.A ∷ []
needs Txa = part.X ∷ []
needs Txs = part.X ∷ []
needs Tya = part.Y ∷ []
needs _ = []

-- the parts that an addressing mode uses
abbrev pub mode_needs : Mode → List Part
mode_needs Accumulator = part.A ∷ []
mode_needs ZeroPageX = part.X ∷ []
mode_needs ZeroPageY = part.Y ∷ []
mode_needs AbsoluteX = part.X ∷ []
mode_needs AbsoluteY = part.Y ∷ []
mode_needs IndexedIndirect = part.X ∷ []
mode_needs IndirectIndexed = part.Y ∷ []
mode_needs _ = []

-- the parts that a mnemonic sets, whatever they held
unfoldable pub sets_parts : Mnemonic → List Part
sets_parts Adc = part.A ∷ part.N ∷ part.V ∷ part.Z ∷ part.C ∷ []
sets_parts And = part.A ∷ part.N ∷ part.Z ∷ []
sets_parts Asl = part.N ∷ part.Z ∷ part.C ∷ []
sets_parts Bit = part.N ∷ part.V ∷ part.Z ∷ []
sets_parts Clc = part.C ∷ []
sets_parts Cld = part.D ∷ []
sets_parts Cli = part.I ∷ []
sets_parts Clv = part.V ∷ []
sets_parts Cmp = part.N ∷ part.Z ∷ part.C ∷ []
sets_parts Cpx = part.N ∷ part.Z ∷ part.C ∷ []
sets_parts Cpy = part.N ∷ part.Z ∷ part.C ∷ []
sets_parts Dec = part.N ∷ part.Z ∷ []
sets_parts Dex = part.X ∷ part.N ∷ part.Z ∷ []
sets_parts Dey = part.Y ∷ part.N ∷ part.Z ∷ []
sets_parts Eor = part.A ∷ part.N ∷ part.Z ∷ []
sets_parts Inc = part.N ∷ part.Z ∷ []
sets_parts Inx = part.X ∷ part.N ∷ part.Z ∷ []
sets_parts Iny = part.Y ∷ part.N ∷ part.Z ∷ []
sets_parts Lda = part.A ∷ part.N ∷ part.Z ∷ []
sets_parts Ldx = part.X ∷ part.N ∷ part.Z ∷ []
sets_parts Ldy = part.Y ∷ part.N ∷ part.Z ∷ []
sets_parts Lsr = part.N ∷ part.Z ∷ part.C ∷ []
sets_parts Ora = part.A ∷ part.N ∷ part.Z ∷ []
sets_parts Pla = part.A ∷ part.N ∷ part.Z ∷ []
sets_parts Plp = all_flags
sets_parts Rol = part.N ∷ part.Z ∷ part.C ∷ []
sets_parts Ror = part.N ∷ part.Z ∷ part.C ∷ []
sets_parts Rti = all_flags
sets_parts Sbc = part.A ∷ part.N ∷ part.V ∷ part.Z ∷ part.C ∷ []
sets_parts Sec = part.C ∷ []
sets_parts Sed = part.D ∷ []
sets_parts Sei = part.I ∷ []
sets_parts Tax = part.X ∷ part.N ∷ part.Z ∷ []
sets_parts Tay = part.Y ∷ part.N ∷ part.Z ∷ []
sets_parts Tsx = part.X ∷ part.N ∷ part.Z ∷ []
sets_parts Txa = part.A ∷ part.N ∷ part.Z ∷ []
sets_parts Tya = part.A ∷ part.N ∷ part.Z ∷ []
sets_parts _ = []
