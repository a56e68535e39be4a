-- Lines that assemble but may not do what their author meant. This project's profile.
use Rattle.std.specs.Prelude.{◌≡◌, ℕ, ◌+◌, ◌%◌, ◌<◌, ◌==◌, nat_le, nat_lt, Bool, true, false, ◌&&◌, ◌||◌, not, List, ◌∷◌, drop, find, get_or, Option, Some, None, if◌then◌else◌}
use Rattle.std.specs.List.{list_any, prefix_len}
use Rattle.std.specs.Option.{option_map_or}
use Rattle.a2_text.specs.Bytes.{is_digit}
use Rattle.a2_text.specs.Signs.{sign}
use Rattle.a2_text.specs.Words.{after_blanks}
use Rattle.a2_opcode.specs.declared.Instr.{Instr}
use Rattle.a2_opcode.specs.declared.Mode.{Mode}
use Rattle.a2_opcode.specs.declared.Mode.TheVariants.{Relative, Absolute, Immediate}
use Rattle.a2_opcode.specs.declared.Mnemonic.{Mnemonic}
use Rattle.a2_opcode.specs.declared.Mnemonic.TheVariants.{Jmp, Jsr, Rts, Rti, Brk, Lda, Ldx, Ldy, Sta}
use Rattle.a2_asm.specs.declared.program.Statement.{Statement}
use Rattle.a2_asm.specs.Programs.{begins_at}
use Rattle.a2_check.specs.declared.warnings.WarningKind.{WarningKind}
use Rattle.a2_check.specs.declared.warnings.WarningKind.TheVariants.{RunsOut, Circle}

-- `$`, `%` or a digit
abbrev pub begins_number : ℕ → Bool
begins_number c = c == sign "$" || (c == sign "%" || is_digit c)

-- `=` and a number
abbrev pub equals_number : List ℕ → Bool
equals_number text = get_or text 0 0 == sign "=" && begins_number (get_or (after_blanks (drop 1 text)) 0 0)

-- `*` in column 1, then `=` and a number: the line is a comment
abbrev pub sets_no_place : List ℕ → Bool
sets_no_place line = get_or line 0 0 == sign "*" && equals_number (after_blanks (drop 1 line))

abbrev pub is_relative : Mode → Bool
is_relative Relative = true
is_relative mode = false

abbrev pub is_absolute : Mode → Bool
is_absolute Absolute = true
is_absolute mode = false

abbrev pub is_jump : Mnemonic → Bool
is_jump Jmp = true
is_jump mnemonic = false

-- a mnemonic after which the next instruction in memory is not executed, or not at once
abbrev pub leaves : Mnemonic → Bool
leaves Jmp = true
leaves Jsr = true
leaves Rts = true
leaves Rti = true
leaves Brk = true
leaves mnemonic = false

-- an instruction continues, or may continue, somewhere other than at the next instruction
abbrev pub leads_away : Instr → Bool
leads_away i = leaves i.mnemonic || is_relative i.mode

-- an instruction always jumps to the value of its operand
abbrev pub jumps : Instr → Bool
jumps i = is_absolute i.mode && is_jump i.mnemonic

-- an instruction begins at an address
abbrev pub begins : List Statement → ℕ → Bool
begins statements a = list_any (begins_at a) statements

-- the marks of all addresses where an instruction begins
abbrev pub MarksBegins : List Statement → List Bool → Type 0
MarksBegins statements marks = (a : ℕ) → a < 65536 → get_or marks a false ≡ begins statements a

-- an instruction that jumps to itself, or that continues where no instruction begins
abbrev pub kind_of_instr : List Statement → Statement → Instr → Option WarningKind
kind_of_instr statements s i =
    if jumps i && i.value == s.addr then Some Circle
    else if not (leads_away i) && not (begins statements ((s.addr + s.length) % 65536)) then Some RunsOut else None

abbrev pub kind_of_option : List Statement → Statement → Option Instr → Option WarningKind
kind_of_option statements s None = None
kind_of_option statements s (Some i) = kind_of_instr statements s i

-- the warning for one statement of a program
abbrev pub kind_of : List Statement → Statement → Option WarningKind
kind_of statements s = kind_of_option statements s s.instr

abbrev pub is_lda : Mnemonic → Bool
is_lda Lda = true
is_lda mnemonic = false

abbrev pub is_immediate : Mode → Bool
is_immediate Immediate = true
is_immediate mode = false

-- the text after the first `#` and blanks
abbrev pub after_number_sign : List ℕ → List ℕ
after_number_sign text = after_blanks (drop 1 (drop (prefix_len (λ c. not (c == sign "#")) text) text))

-- a single quote and the character with this code
abbrev pub is_quoted : ℕ → List ℕ → Bool
is_quoted code (quote ∷ c ∷ more) = quote == sign "'" && c == code
is_quoted code text = false

-- LDA of a character in single quotes, which has bit 7 clear
abbrev pub loads_plain : List ℕ → Instr → Bool
loads_plain text i = is_lda i.mnemonic && is_immediate i.mode && is_quoted i.value (after_number_sign text)

abbrev pub is_load_of_index : Mnemonic → Bool
is_load_of_index Ldx = true
is_load_of_index Ldy = true
is_load_of_index mnemonic = false

-- LDX or LDY
abbrev pub loads_index : Statement → Bool
loads_index s = option_map_or (λ i. is_load_of_index i.mnemonic) s.instr false

-- A is written to the screen: by JSR to COUT, $FDED, or COUT1, $FDF0, or by STA in text page 1, $0400 to $07FF
abbrev pub puts_by : Mnemonic → ℕ → Bool
puts_by Jsr value = value == 65005 || value == 65008
puts_by Sta value = nat_le 1024 value && nat_lt value 2048
puts_by mnemonic value = false

abbrev pub puts : Statement → Bool
puts s = option_map_or (λ i. puts_by i.mnemonic i.value) s.instr false

-- the first statement that is not LDX or LDY writes A to the screen
abbrev pub is_put : List Statement → Bool
is_put following = option_map_or puts (find (λ s. not (loads_index s)) following) false

-- a statement, in a line with this text, loads A with a character with bit 7 clear, and the statements after it write A to the
-- screen
abbrev pub shows_plain : List ℕ → Statement → List Statement → Bool
shows_plain text s following = option_map_or (loads_plain text) s.instr false && is_put following
