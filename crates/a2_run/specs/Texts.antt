-- The text of a fault. This project's profile.
use Rattle.std.specs.Prelude.{ℕ, List, codes}
use Rattle.a2_syntax.specs.Texts.{fault_text}
use Rattle.a2_run.specs.declared.fault.RunFault.{RunFault}
use Rattle.a2_run.specs.declared.fault.RunFault.TheVariants.{Source, Script, Read, Write, Memory}

-- the text of an error in a source or a script, or what failed
abbrev pub run_fault_text : RunFault → List ℕ
run_fault_text (Source fault) = fault_text fault
run_fault_text (Script fault) = fault_text fault
run_fault_text Read = codes "READ FAULT"
run_fault_text Write = codes "WRITE FAULT"
run_fault_text Memory = codes "NO MEMORY"
