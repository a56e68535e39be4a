-- The meaning of lines. This project's profile.
use Rattle.std.specs.Prelude.{◌≡◌, ◌≢◌, ℕ, ◌<◌, ◌≤◌, List, [], ◌∷◌, length, drop, Option, Some, None}
use Rattle.a2_text.specs.Bytes.{number_in}
use Rattle.a2_text.specs.Words.{words, only_word}
use Rattle.a2_bus.specs.KeyText.{SpellsKeys}
use Rattle.a2_asm.specs.Assembled.{Assembled}
use Rattle.a2_symbols.specs.Places.{place_of}
use Rattle.a2_debugger.specs.Conditions.{break_in, watch_of}
use Rattle.a2_debugger.specs.Settings.{setting_in}
use Rattle.a2_debugger.specs.declared.stops.Watch.{Watch as Watched}
use Rattle.a2_debugger.specs.declared.inspector_command.InspectorCommand.{InspectorCommand}
use Rattle.a2_debugger.specs.declared.inspector_command.InspectorCommand.TheVariants as order
use Rattle.a2_debugger.specs.declared.settings.Setting.TheVariants.{Counter}
use Rattle.a2_debugger.specs.declared.verbs.Verb.{Verb}
use Rattle.a2_debugger.specs.declared.verbs.Verb.TheVariants.{Step, Next, Out, Back, Rnext, Go, Until, Rback, Watch, Who, Break, Clear, Unwatch, Keys, Set, Goto, Where, Regs, Print, Mem, Screen, List as Lines, Info, Stack, Help}

-- a number of steps: one word of decimal digits, at most 65,535; 1 if there is no word
abbrev pub count_in : List (List ℕ) → Option ℕ
count_in [] = Some 1
count_in (word ∷ []) = number_in 10 5 word
count_in (word ∷ next ∷ more) = None

abbrev pub place_by : Assembled → Option (List ℕ) → Option ℕ
place_by program None = None
place_by program (Some word) = place_of program word

-- the address given by the only word
abbrev pub place_in : Assembled → List (List ℕ) → Option ℕ
place_in program words = place_by program (only_word words)

abbrev pub watch_by_word : Assembled → Option (List ℕ) → Option Watched
watch_by_word program None = None
watch_by_word program (Some word) = watch_of program word

-- what to watch, given by the only word
abbrev pub watch_in : Assembled → List (List ℕ) → Option Watched
watch_in program words = watch_by_word program (only_word words)

-- the text after one blank spells these keys
abbrev pub SpellsAfterBlank : List ℕ → List ℕ → Type 0
SpellsAfterBlank rest keys = (0 < length rest) × SpellsKeys (drop 1 rest) keys × (length keys ≤ 4096)

-- the text spells no keys, or more than 4,096
abbrev pub SpellsNoneAfterBlank : List ℕ → Type 0
SpellsNoneAfterBlank rest = 0 < length rest → (keys : List ℕ) → SpellsKeys (drop 1 rest) keys → 4096 < length keys

-- a verb and the text after it are this command; which of its showings a verb means is left open
abbrev pub IsCommandOf : Assembled → Verb → List ℕ → InspectorCommand → Type 0
IsCommandOf program Step rest (order.Step n) = count_in (words rest) ≡ Some n
IsCommandOf program Back rest (order.Back n) = count_in (words rest) ≡ Some n
IsCommandOf program Next rest order.Next = words rest ≡ []
IsCommandOf program Out rest order.Out = words rest ≡ []
IsCommandOf program Rnext rest order.GoBackOver = words rest ≡ []
IsCommandOf program Go rest order.Go = words rest ≡ []
IsCommandOf program Until rest (order.Until address) = place_in program (words rest) ≡ Some address
IsCommandOf program Rback rest order.GoBack = words rest ≡ []
IsCommandOf program Watch rest (order.Watch watch) = watch_in program (words rest) ≡ Some watch
IsCommandOf program Who rest (order.Who watch) = watch_in program (words rest) ≡ Some watch
IsCommandOf program Break rest (order.Break b) = break_in program (words rest) ≡ Some b
IsCommandOf program Clear rest order.Clear = words rest ≡ []
IsCommandOf program Clear rest (order.ClearAt address) = place_in program (words rest) ≡ Some address
IsCommandOf program Unwatch rest (order.Unwatch watch) = watch_in program (words rest) ≡ Some watch
IsCommandOf program Keys rest (order.TypeKeys keys) = SpellsAfterBlank rest keys
IsCommandOf program Set rest (order.Set setting) = setting_in program (words rest) ≡ Some setting
IsCommandOf program Goto rest (order.Set setting) = (address : ℕ) × (setting ≡ Counter address) × (place_in program (words rest) ≡ Some address)
IsCommandOf program Where rest (order.Show show) = Unit {0}
IsCommandOf program Regs rest (order.Show show) = Unit {0}
IsCommandOf program Print rest (order.Show show) = Unit {0}
IsCommandOf program Mem rest (order.Show show) = Unit {0}
IsCommandOf program Screen rest (order.Show show) = Unit {0}
IsCommandOf program Lines rest (order.Show show) = Unit {0}
IsCommandOf program Info rest (order.Show show) = Unit {0}
IsCommandOf program Stack rest (order.Show show) = Unit {0}
IsCommandOf program Help rest (order.Show show) = Unit {0}
IsCommandOf program verb rest order = ⊥

-- they are not a command; why something cannot be shown is left open
abbrev pub IsNoCommand : Assembled → Verb → List ℕ → Type 0
IsNoCommand program Step rest = count_in (words rest) ≡ None
IsNoCommand program Back rest = count_in (words rest) ≡ None
IsNoCommand program Next rest = words rest ≢ []
IsNoCommand program Out rest = words rest ≢ []
IsNoCommand program Rnext rest = words rest ≢ []
IsNoCommand program Go rest = words rest ≢ []
IsNoCommand program Until rest = place_in program (words rest) ≡ None
IsNoCommand program Rback rest = words rest ≢ []
IsNoCommand program Watch rest = watch_in program (words rest) ≡ None
IsNoCommand program Who rest = watch_in program (words rest) ≡ None
IsNoCommand program Break rest = break_in program (words rest) ≡ None
IsNoCommand program Clear rest = (words rest ≢ []) × (place_in program (words rest) ≡ None)
IsNoCommand program Unwatch rest = watch_in program (words rest) ≡ None
IsNoCommand program Keys rest = SpellsNoneAfterBlank rest
IsNoCommand program Set rest = setting_in program (words rest) ≡ None
IsNoCommand program Goto rest = place_in program (words rest) ≡ None
IsNoCommand program verb rest = Unit {0}
