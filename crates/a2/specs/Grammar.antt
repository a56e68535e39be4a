-- The command line in the terms of `clap`: the program's name, a subcommand, and after it the subcommand's files and options.
-- This project's profile.
use Rattle.std.specs.Prelude.{◌≡◌, List, [], ◌∷◌, true, false, Some, codes}
use Rattle.clap.specs.Words.{App, Rule, Shape, Text, new_rule, app_of, rule_of}
use Rattle.clap.specs.declared.builder.Command.TheViews.{out-Command as fields_of}
use Rattle.clap.specs.Simple.{new_shape}
use Rattle.clap.specs.declared.builder.ArgAction.TheVariants.{Set, SetTrue}
use Rattle.clap.specs.declared.builder.Arg.{Arg}
use Rattle.clap.specs.declared.builder.Command.{Command}

-- a required argument, an option with a value, and an option without a value
abbrev pub needed : Text → Rule
needed name = record (new_rule name) { required = true; action = Some Set }

abbrev pub valued : Text → Rule
valued name = record (new_rule name) { long = Some name; action = Some Set }

abbrev pub flag : Text → Rule
flag name = record (new_rule name) { long = Some name; action = Some SetTrue }

-- a subcommand with this name and these arguments, without a help option
abbrev pub named : Text → List Rule → Shape
named name rules = record (new_shape name) { rules = rules; disable_help_flag = true }

-- the arguments of `run`
abbrev pub run_rules : List Rule
run_rules = needed (codes "file") ∷ valued (codes "keys") ∷ valued (codes "limit") ∷ flag (codes "free") ∷ flag (codes "attr") ∷ []

-- the whole command line
abbrev pub grammar : App
grammar = record {
  top = record (named (codes "a2") []) { is_leaf = false; disable_help_subcommand = true; subcommand_required = true };
  subs = named (codes "asm") (needed (codes "file") ∷ [])
      ∷ named (codes "mon") (needed (codes "file") ∷ [])
      ∷ named (codes "debug") (needed (codes "file") ∷ needed (codes "script") ∷ [])
      ∷ named (codes "run") run_rules
      ∷ [];
}

-- an argument with this rule that is not shared with other commands
pub record HasRule (arg : Arg) (rule : Rule) : Type 0 where
  pub rule_is : rule_of arg ≡ rule
  pub global : arg.global ≡ false

-- a command line with this structure and no arguments shared between commands
pub record IsApp (command : Command) (app : App) : Type 0 where
  pub app_is : app_of command ≡ app
  pub globals : (fields_of command).has_globals ≡ false

-- a single command with this name and these arguments
abbrev pub IsCommand : Text → List Rule → Command → Type 0
IsCommand name rules command = IsApp command (record { top = named name rules; subs = [] })
