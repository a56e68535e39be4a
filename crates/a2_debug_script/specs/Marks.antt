-- Breakpoints: the address that a word means, and the breakpoints after setting and clearing one. This project's
-- profile.
use Rattle.std.specs.Prelude.{◌≡◌, ℕ, ◌==◌, nat_lt, not, List, [], ◌∷◌, ◌++◌, length, filter, if◌then◌else◌, Option, Some, None, Result, Ok, Err}
use Rattle.a2_text.specs.Bytes.{is_among}
use Rattle.a2_text.specs.Signs.{sign}
use Rattle.a2_syntax.specs.Names.{is_name}
use Rattle.a2_hex.specs.ObjectLines.{hex_address}
use Rattle.a2_asm.specs.Values.{Names, name_value}
use Rattle.a2_debug_script.specs.declared.fault.DebugFault.{DebugFault}
use Rattle.a2_debug_script.specs.declared.fault.DebugFault.TheVariants.{Syntax, Unknown, Full}

abbrev pub found_or : DebugFault → Option ℕ → Result ℕ DebugFault
found_or fault None = Err fault
found_or fault (Some address) = Ok address

-- the address that a word means: $ and 1 to 4 hexadecimal digits, or a name that a line of the program defines
unfoldable pub word_address : Names → List ℕ → Result ℕ DebugFault
word_address names [] = Err Syntax
word_address names (c ∷ cs) =
    if c == sign "$" then found_or Syntax (hex_address cs)
    else if is_name (c ∷ cs) then found_or Unknown (name_value names (c ∷ cs))
    else Err Syntax

-- one more breakpoint, if there is room: at most 256 are set, each only once
abbrev pub marked : List ℕ → ℕ → Result (List ℕ) DebugFault
marked marks address =
    if is_among marks address then Ok marks
    else if nat_lt (length marks) 256 then Ok (marks ++ address ∷ [])
    else Err Full

abbrev pub unmarked : List ℕ → ℕ → Result (List ℕ) DebugFault
unmarked marks address = Ok (filter (λ mark. not (mark == address)) marks)

-- the breakpoints after a change at the place that a word means, or why nothing changes
abbrev pub at_place : (List ℕ → ℕ → Result (List ℕ) DebugFault) → Names → List ℕ → List ℕ → Result (List ℕ) DebugFault
at_place change names word marks = elim (word_address names word) [ Err fault ↦ Err fault | Ok address ↦ change marks address ]

-- a call leaves these breakpoints; or it fails with this error, and the breakpoints are unchanged
abbrev pub Marks : List ℕ → List ℕ → Result (Unit {0}) DebugFault → Result (List ℕ) DebugFault → Type 0
Marks old new (Ok _) (Ok marks) = new ≡ marks
Marks old new (Err fault) (Err why) = (fault ≡ why) × (new ≡ old)
Marks old new _ _ = ⊥
