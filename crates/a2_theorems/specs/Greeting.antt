-- A greeting, from its source text to the bytes that a run writes.
use Rattle.std.specs.Prelude.{◌≤◌, ℕ, true, false, List, ◌++◌, codes, replicate, [], ◌∷◌}
use Rattle.std.specs.List.{concat}
use Rattle.a2_effect.specs.Registers.{Registers}
use Rattle.a2_machine.specs.declared.causes.Cause.TheVariants.{Returned}
use Rattle.a2_machine.specs.Output.{register_line, cause_line}
use Rattle.a2_theorems.specs.Runs.{RunWrites, blank_rows}

-- examples/lesson-greeting.s
abbrev pub greeting : List ℕ
greeting = concat (
    codes "* A GREETING, PRINTED BY COUT.\n" ∷
    codes "COUT    EQU     $FDED\n" ∷
    codes "        LDX     #0\n" ∷
    codes "LOOP    LDA     TEXT,X\n" ∷
    codes "        BEQ     DONE\n" ∷
    codes "        JSR     COUT\n" ∷
    codes "        INX\n" ∷
    codes "        BNE     LOOP\n" ∷
    codes "DONE    RTS\n" ∷
    codes "TEXT    ASC     \"HELLO\"\n" ∷
    codes "        DFB     0\n" ∷
    [])

-- the registers at the end: A has the 0 that ends the text, X its length, and Z is set
abbrev pub greeting_registers : Registers
greeting_registers =
    record { a = 0; x = 5; y = 0; s = 0xFF; pc = 0xFF69; flags = record { n = false; v = false; d = false; i = false; z = true; c = false } }

-- the greeting at the top left, 23 blank rows, the registers and the cause
abbrev pub greeting_output : List ℕ
greeting_output =
    codes "HELLO" ++ (replicate 35 32 ++ (codes "\n" ++ (blank_rows 23
    ++ (register_line greeting_registers 39 155 ++ cause_line Returned))))

-- with every limit of at least 39 steps, whatever keys wait
abbrev pub GreetingGreets : Type 0
GreetingGreets = (keys : List ℕ) (limit : ℕ) → 39 ≤ limit → RunWrites greeting keys limit false greeting_output
