use Rattle.std.proofs.Common.{◌≡◌, drop, map}
use Rattle.a2_arguments.specs.Found.{first_given, option_of}
use Rattle.a2_arguments.proofs.arguments.first.Given as goal

-- what is looked for is not among the options so far
abbrev pub invariant-loop-option : goal.invariant-loop-option
invariant-loop-option l = first_given l.name (map option_of (drop l.option-index l.options)) ≡ first_given l.name (map option_of l.options)
