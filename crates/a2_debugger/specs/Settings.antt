-- What a user sets by hand. This project's profile.
use Rattle.std.specs.Prelude.{ℕ, ◌==◌, ◌&&◌, Bool, true, false, nat_lt, List, [], ◌∷◌, if◌then◌else◌, Option, Some, None}
use Rattle.a2_text.specs.Signs.{sign}
use Rattle.a2_text.specs.Bytes.{capital}
use Rattle.a2_bus.specs.Memory.{ram_end}
use Rattle.a2_effect.specs.Registers.{Registers, StatusFlags, flags_of_byte}
use Rattle.a2_services.specs.World.{World}
use Rattle.a2_asm.specs.Assembled.{Assembled}
use Rattle.a2_symbols.specs.Places.{number_of, place_of}
use Rattle.a2_history.specs.Courses.{with_change}
use Rattle.a2_history.specs.declared.actions.Change.TheVariants as change
use Rattle.a2_debugger.specs.Conditions.{subject_of}
use Rattle.a2_debugger.specs.declared.stops.Register.{Register as Letter}
use Rattle.a2_debugger.specs.declared.stops.Register.TheVariants.{A, X, Y, S, P}
use Rattle.a2_debugger.specs.declared.stops.Flag.{Flag as Sign}
use Rattle.a2_debugger.specs.declared.stops.Flag.TheVariants as flag
use Rattle.a2_debugger.specs.declared.stops.Subject.{Subject}
use Rattle.a2_debugger.specs.declared.stops.Subject.TheVariants.{InRegister, InFlag, InByte}
use Rattle.a2_debugger.specs.declared.settings.Setting.{Setting}
use Rattle.a2_debugger.specs.declared.settings.Setting.TheVariants.{Register, Flag, Counter, Byte}

abbrev pub with_register : Letter → ℕ → Registers → Registers
with_register A value r = record r { a = value }
with_register X value r = record r { x = value }
with_register Y value r = record r { y = value }
with_register S value r = record r { s = value }
with_register P value r = record r { flags = flags_of_byte value }

abbrev pub with_flag : Sign → Bool → StatusFlags → StatusFlags
with_flag flag.N value f = record f { n = value }
with_flag flag.V value f = record f { v = value }
with_flag flag.D value f = record f { d = value }
with_flag flag.I value f = record f { i = value }
with_flag flag.Z value f = record f { z = value }
with_flag flag.C value f = record f { c = value }

-- the world after this is set
abbrev pub with_setting : Setting → World → World
with_setting (Register register value) world = let r = world.registers in record world { registers = with_register register value r }
with_setting (Flag sign value) world =
    let r = world.registers in record world { registers = record r { flags = with_flag sign value r.flags } }
with_setting (Counter address) world = let r = world.registers in record world { registers = record r { pc = address } }
with_setting (Byte address byte) world = with_change (change.Byte address byte) world

-- the word PC in either case
abbrev pub is_counter : List ℕ → Bool
is_counter [] = false
is_counter (p ∷ []) = false
is_counter (p ∷ c ∷ []) = (capital p == sign "P") && (capital c == sign "C")
is_counter (p ∷ c ∷ next ∷ more) = false

abbrev pub is_equals : List ℕ → Bool
is_equals [] = false
is_equals (c ∷ []) = c == sign "="
is_equals (c ∷ next ∷ more) = false

abbrev pub counter_by : Option ℕ → Option Setting
counter_by None = None
counter_by (Some address) = Some (Counter address)

-- a value below 256
abbrev pub byte_in : ℕ → Option ℕ
byte_in value = if nat_lt value 256 then Some value else None

abbrev pub register_by : Letter → Option ℕ → Option Setting
register_by register None = None
register_by register (Some byte) = Some (Register register byte)

abbrev pub byte_by : ℕ → Option ℕ → Option Setting
byte_by address None = None
byte_by address (Some byte) = Some (Byte address byte)

-- a value that fits: below 256 for a register and for a byte of RAM, below 2 for a flag
abbrev pub setting_by : Option Subject → Option ℕ → Option Setting
setting_by None value = None
setting_by (Some subject) None = None
setting_by (Some (InRegister register)) (Some value) = register_by register (byte_in value)
setting_by (Some (InByte address)) (Some value) = if nat_lt address ram_end then byte_by address (byte_in value) else None
setting_by (Some (InFlag sign)) (Some value) = if nat_lt value 2 then Some (Flag sign (value == 1)) else None

-- PC and a place; or a register, a place or a flag, and a number
abbrev pub setting_of : Assembled → List ℕ → List ℕ → Option Setting
setting_of program subject value =
    if is_counter subject then counter_by (place_of program value) else setting_by (subject_of program subject) (number_of value)

-- the same, with = between the two
abbrev pub setting_in : Assembled → List (List ℕ) → Option Setting
setting_in program [] = None
setting_in program (subject ∷ []) = None
setting_in program (subject ∷ equals ∷ []) = None
setting_in program (subject ∷ equals ∷ value ∷ []) = if is_equals equals then setting_of program subject value else None
setting_in program (subject ∷ equals ∷ value ∷ next ∷ more) = None
