-- A source text that is assembled. This project's profile.
use Rattle.std.specs.Prelude.{ℕ, List}
use Rattle.a2_syntax.specs.Bare.{BareLine}
use Rattle.a2_syntax.specs.Sources.{IsSource}
use Rattle.a2_asm.specs.Assembled.{Assembled}
use Rattle.a2_asm.specs.Programs.{IsProgram}

-- a text, its lines and its program
pub record Assembly : Type 0 where
  pub text : List ℕ
  pub source : List BareLine
  pub program : Assembled

-- the grammar gives the text these lines, and the layout of these gives the program
pub record IsAssembly (assembly : Assembly) : Type 0 where
  pub is_source : IsSource assembly.text assembly.source
  pub is_program : IsProgram assembly.source assembly.program
