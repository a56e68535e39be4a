-- The messages of errors. This project's profile.
use Rattle.std.specs.Prelude.{ℕ, List, codes}
use Rattle.a2_debug_script.specs.declared.fault.DebugFault.{DebugFault}
use Rattle.a2_debug_script.specs.declared.fault.DebugFault.TheVariants.{Syntax, Unknown, TooFar, Full, Steps, Memory, Write}

abbrev pub debug_fault_text : DebugFault → List ℕ
debug_fault_text Syntax = codes "G1 SYNTAX"
debug_fault_text Unknown = codes "G2 UNKNOWN NAME"
debug_fault_text TooFar = codes "G3 TOO FAR"
debug_fault_text Full = codes "G4 FULL"
debug_fault_text Steps = codes "G5 TOO MANY STEPS"
debug_fault_text Memory = codes "NO MEMORY"
debug_fault_text Write = codes "WRITE FAULT"
