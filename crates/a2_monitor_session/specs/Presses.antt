-- What was pressed while a program was waiting for a key. This project's profile.
use Rattle.std.specs.Prelude.{ℕ, ◌<◌, false, List, [], Some, None}
use Rattle.a2_tty.specs.AppleKeys.{first}
use Rattle.a2_tty.specs.declared.apple_keys.Stroke.{Stroke}
use Rattle.a2_tty.specs.declared.apple_keys.Stroke.TheVariants as stroke
use Rattle.a2_monitor_session.specs.declared.press.Press.{Press}
use Rattle.a2_monitor_session.specs.declared.press.Press.TheVariants.{Key, Stop, Nothing}

-- one key with nothing after it; Ctrl-] stops the program
abbrev pub pressed_by : Stroke → List ℕ → Press
pressed_by (stroke.Key key) [] = Key key
pressed_by stroke.Prefix [] = Stop
pressed_by _ _ = Nothing

-- RETURN arrives as a line without bytes
abbrev pub pressed : List ℕ → Press
pressed line = elim (first false line) [ None ↦ Key 13 | Some found ↦ pressed_by found.stroke found.rest ]

-- a key has seven bits
abbrev pub HasCode : Press → Type 0
HasCode (Key key) = key < 128
HasCode _ = Unit {0}
