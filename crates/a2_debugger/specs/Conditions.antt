-- The syntax of breakpoints, their conditions, and what is watched. This project's profile.
use Rattle.std.specs.Prelude.{ℕ, ◌==◌, List, [], ◌∷◌, if◌then◌else◌, Option, Some, None, ◌&&◌, Bool, false}
use Rattle.a2_text.specs.Signs.{sign}
use Rattle.a2_text.specs.Bytes.{capital}
use Rattle.a2_asm.specs.Assembled.{Assembled}
use Rattle.a2_symbols.specs.Places.{number_of, place_of, span_of}
use Rattle.a2_symbols.specs.declared.places.Span.{Span}
use Rattle.a2_debugger.specs.Stops.{watchable}
use Rattle.a2_debugger.specs.declared.stops.Register.{Register}
use Rattle.a2_debugger.specs.declared.stops.Register.TheVariants.{A, X, Y, S, P}
use Rattle.a2_debugger.specs.declared.stops.Flag.{Flag}
use Rattle.a2_debugger.specs.declared.stops.Flag.TheVariants as flag
use Rattle.a2_debugger.specs.declared.stops.Subject.{Subject}
use Rattle.a2_debugger.specs.declared.stops.Subject.TheVariants.{InRegister, InFlag, InByte}
use Rattle.a2_debugger.specs.declared.stops.Watch.{Watch}
use Rattle.a2_debugger.specs.declared.stops.Watch.TheVariants.{OfRegister, OfFlag}
use Rattle.a2_debugger.specs.declared.stops.Relation.{Relation}
use Rattle.a2_debugger.specs.declared.stops.Relation.TheVariants.{Equal, Other, Less, More}
use Rattle.a2_debugger.specs.declared.stops.Condition.{Condition}
use Rattle.a2_debugger.specs.declared.stops.Break.{Break}

abbrev pub register_by : ℕ → Option Register
register_by letter =
    if letter == sign "A" then Some A
    else if letter == sign "X" then Some X
    else if letter == sign "Y" then Some Y
    else if letter == sign "S" then Some S
    else if letter == sign "P" then Some P
    else None

-- the register of a letter in either case
abbrev pub register_of : List ℕ → Option Register
register_of [] = None
register_of (letter ∷ []) = register_by (capital letter)
register_of (letter ∷ next ∷ more) = None

abbrev pub flag_by : ℕ → Option Flag
flag_by letter =
    if letter == sign "N" then Some flag.N
    else if letter == sign "V" then Some flag.V
    else if letter == sign "D" then Some flag.D
    else if letter == sign "I" then Some flag.I
    else if letter == sign "Z" then Some flag.Z
    else if letter == sign "C" then Some flag.C
    else None

-- the flag of a letter in either case
abbrev pub flag_of : List ℕ → Option Flag
flag_of [] = None
flag_of (letter ∷ []) = flag_by (capital letter)
flag_of (letter ∷ next ∷ more) = None

abbrev pub subject_by : Option Register → Option ℕ → Option Flag → Option Subject
subject_by (Some register) place flag = Some (InRegister register)
subject_by None (Some address) flag = Some (InByte address)
subject_by None None (Some flag) = Some (InFlag flag)
subject_by None None None = None

-- a register, or otherwise the byte at an address, or otherwise a flag
abbrev pub subject_of : Assembled → List ℕ → Option Subject
subject_of program word = subject_by (register_of word) (place_of program word) (flag_of word)

abbrev pub watch_by : Option Register → Option Span → Option Flag → Option Watch
watch_by (Some register) span flag = Some (OfRegister register)
watch_by None (Some span) flag = watchable span
watch_by None None (Some flag) = Some (OfFlag flag)
watch_by None None None = None

-- a register, or otherwise the bytes from one address to another, or otherwise a flag
abbrev pub watch_of : Assembled → List ℕ → Option Watch
watch_of program word = watch_by (register_of word) (span_of program word) (flag_of word)

abbrev pub relation_of : List ℕ → Option Relation
relation_of [] = None
relation_of (c ∷ []) =
    if c == sign "=" then Some Equal else if c == sign "<" then Some Less else if c == sign ">" then Some More else None
relation_of (c ∷ d ∷ []) = if (c == sign "<") && (d == sign ">") then Some Other else None
relation_of (c ∷ d ∷ e ∷ more) = None

abbrev pub condition_by : Option Subject → Option Relation → Option ℕ → Option Condition
condition_by None relation value = None
condition_by (Some subject) None value = None
condition_by (Some subject) (Some relation) None = None
condition_by (Some subject) (Some relation) (Some value) =
    Some (record { subject = subject; relation = relation; value = value })

-- a subject, a relation and a number
abbrev pub condition_in : Assembled → List (List ℕ) → Option Condition
condition_in program [] = None
condition_in program (subject ∷ []) = None
condition_in program (subject ∷ relation ∷ []) = None
condition_in program (subject ∷ relation ∷ value ∷ []) =
    condition_by (subject_of program subject) (relation_of relation) (number_of value)
condition_in program (subject ∷ relation ∷ value ∷ next ∷ more) = None

-- the word IF in either case
abbrev pub is_if : List ℕ → Bool
is_if [] = false
is_if (i ∷ []) = false
is_if (i ∷ f ∷ []) = (capital i == sign "I") && (capital f == sign "F")
is_if (i ∷ f ∷ next ∷ more) = false

abbrev pub plain_break : Option ℕ → Option Break
plain_break None = None
plain_break (Some address) = Some (record { address = address; condition = None })

abbrev pub break_where : Option ℕ → Option Condition → Option Break
break_where None condition = None
break_where (Some address) None = None
break_where (Some address) (Some condition) = Some (record { address = address; condition = Some condition })

-- a place, or a place followed by IF and a condition
abbrev pub break_in : Assembled → List (List ℕ) → Option Break
break_in program [] = None
break_in program (place ∷ []) = plain_break (place_of program place)
break_in program (place ∷ word ∷ more) =
    if is_if word then break_where (place_of program place) (condition_in program more) else None
