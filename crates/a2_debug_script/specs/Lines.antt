-- The lines of a debugging session, and the text of their answers. This project's profile.
use Rattle.std.specs.Prelude.{ℕ, ◌&&◌, nat_lt, nat_le, List, length, codes, Option, Some, None, if◌then◌else◌}
use Rattle.std.specs.List.{list_all}
use Rattle.a2_text.specs.Bytes.{is_digit, value_of_digits}
use Rattle.a2_text.specs.Words.{only_word}
use Rattle.a2_page.specs.Picture as page
use Rattle.a2_machine.specs.Output.{register_line, cause_line}
use Rattle.a2_debug_script.specs.declared.commands.Verb.{Verb}
use Rattle.a2_debug_script.specs.declared.commands.Verb.TheVariants.{Step, Go, Back, Break, Clear, TypeKeys, Screen}
use Rattle.a2_debug_script.specs.declared.Halt.{Halt}
use Rattle.a2_debug_script.specs.declared.Halt.TheVariants as halt
use Rattle.a2_debug_script.specs.Stored.{Stored, session_of}

-- the letters of a verb, in capitals
abbrev pub verb_letters : Verb → List ℕ
verb_letters Step = codes "STEP"
verb_letters Go = codes "GO"
verb_letters Back = codes "BACK"
verb_letters Break = codes "BREAK"
verb_letters Clear = codes "CLEAR"
verb_letters TypeKeys = codes "TYPE"
verb_letters Screen = codes "SCREEN"

-- a number: 1 to 10 decimal digits, at most 4,294,967,295
unfoldable pub number_of : List ℕ → Option ℕ
number_of digits =
    if nat_lt 0 (length digits) && nat_le (length digits) 10 && list_all is_digit digits && nat_lt (value_of_digits 10 digits) 4294967296
    then Some (value_of_digits 10 digits) else None

-- the number that the only word of a text means
abbrev pub number_by : Option (List ℕ) → Option ℕ
number_by None = None
number_by (Some digits) = number_of digits

abbrev pub only_number : List (List ℕ) → Option ℕ
only_number words = number_by (only_word words)

-- the register line of a session's last world, with the count of its steps
abbrev pub session_line : Stored → List ℕ
session_line s = let world = (session_of s).last in register_line world.registers s.count world.cycles

-- why steps ended
abbrev pub halt_line : Halt → List ℕ
halt_line (halt.Stopped cause) = cause_line cause
halt_line halt.Break = codes "BREAK\n"

-- the picture of a session's last world
unfoldable pub session_picture : Stored → List ℕ
session_picture s = let memory = (session_of s).last.memory in page.picture memory.devices.switches memory.page1 memory.page2
