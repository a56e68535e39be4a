-- The arguments of `play`. This project's profile.
use Rattle.std.specs.Prelude.{◌≡◌, ◌≢◌, ◌⊎◌, ℕ, ◌≤◌, List, codes, length, Option, Some, None, MatchOption}
use Rattle.std.specs.Option.{option_map}
use Rattle.std.specs.Str.Parse.{IsNumeral, digits_value}
use Rattle.a2_arguments.specs.Found.{Found, first_file, is_given, text_given}
use Rattle.a2_tty.specs.declared.cells.colours.Colours.{Colours}
use Rattle.a2_play.specs.Paces.{apple}
use Rattle.a2_play.specs.declared.pace.Pace.{Pace}
use Rattle.a2_play.specs.declared.pace.Pace.TheVariants.{Cycles, Max}
use Rattle.a2lab_commands.specs.ColourNames.{AreColours}
use Rattle.a2lab_sessions.specs.declared.play.PlayArgs.{PlayArgs}

-- cycles a second: decimal digits, from 1,000 to 1,000,000,000
abbrev pub IsPaceNumber : List ℕ → Type 0
IsPaceNumber word = IsNumeral 10 word × (length word ≤ 10) × (1_000 ≤ digits_value 10 word) × (digits_value 10 word ≤ 1_000_000_000)

abbrev pub IsPace : List ℕ → Pace → Type 0
IsPace word pace =
    ((word ≡ codes "max") × (pace ≡ Max)) ⊎ ((word ≢ codes "max") × IsPaceNumber word × (pace ≡ Cycles (digits_value 10 word)))

-- the arguments of play: its file, which is not the standard input
abbrev pub IsFileOf : Found → List ℕ → Type 0
IsFileOf found file = (first_file found.files ≡ Some file) × (file ≢ codes "-")

-- the pace that --pace names; without it that of an Apple II
abbrev pub IsPaceOf : Found → Pace → Type 0
IsPaceOf found pace = MatchOption (text_given (codes "--pace") found) (pace ≡ apple) (λ text. IsPace text pace)

-- the colours that --colours names; none without it, or if it names none
abbrev pub AreColoursOf : Found → Option Colours → Type 0
AreColoursOf found colours =
    MatchOption (text_given (codes "--colours") found) (colours ≡ None)
    (λ text. MatchOption colours ((named : Colours) → AreColours text named → ⊥) (λ named. AreColours text named))

pub record ArePlayArgs (found : Found) (args : PlayArgs) : Type 0 where
  pub file : IsFileOf found args.file.now
  pub pace : IsPaceOf found args.pace
  pub colours : AreColoursOf found args.colours
  pub record_to : option_map (λ file. file.now) args.record_to ≡ text_given (codes "--record") found
  pub speaker : args.speaker ≡ is_given (codes "--speaker") found

-- no file that can be played, or no pace
abbrev pub AskForNoSession : Found → Type 0
AskForNoSession found = ((file : List ℕ) → IsFileOf found file → ⊥) ⊎ ((pace : Pace) → IsPaceOf found pace → ⊥)
