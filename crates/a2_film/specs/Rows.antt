-- How a film is spelt: a row for each step, and what is before the rows. This project's profile.
use Rattle.std.specs.Prelude.{ℕ, ◌+◌, nat_le, ◌==◌, Bool, not, ◌&&◌, List, [], ◌∷◌, ◌++◌, codes, if◌then◌else◌, Option, Some}
use Rattle.std.specs.Prelude.{None, is_some}
use Rattle.std.specs.List.{concat, flat_map}
use Rattle.std.specs.Fmt.{decimal}
use Rattle.a2_text.specs.Digits.{hex_digit, hex_pair, hex_word}
use Rattle.a2_bus.specs.Memory.{ram_byte, ram_end}
use Rattle.a2_effect.specs.Registers.{byte_of_flags}
use Rattle.a2_hex.specs.Images.{held}
use Rattle.a2_asm.specs.declared.program.Statement.{Statement}
use Rattle.a2_asm.specs.Assembled.{Assembled}
use Rattle.a2_services.specs.World.{World}
use Rattle.a2_film.specs.declared.chapters.Place.{Place}
use Rattle.a2_film.specs.declared.chapters.Place.TheVariants.{Step, Line}
use Rattle.a2_film.specs.declared.chapters.Chapter.{Chapter}
use Rattle.a2_film.specs.Changes.{Store, Change, switch_digit, differing}

-- Rows

-- a letter and a byte's digits, if there is a byte
abbrev pub byte_text : ℕ → Option ℕ → List ℕ
byte_text letter None = []
byte_text letter (Some byte) = letter ∷ hex_pair byte

-- w and the switches' digit
abbrev pub switches_text : Option ℕ → List ℕ
switches_text None = []
switches_text (Some digit) = 0x77 ∷ hex_digit digit ∷ []

-- k and a number, if it is not 0
abbrev pub keys_text : ℕ → List ℕ
keys_text taken = if taken == 0 then [] else 0x6B ∷ decimal taken

-- t and two digits for each key
abbrev pub typed_text : List ℕ → List ℕ
typed_text keys = flat_map (λ key. 0x74 ∷ hex_pair key) keys

-- a byte's digits; before them m and the address, if it is not the next one
abbrev pub store_text : ℕ → Store → List ℕ
store_text next store = (if store.0 == next then [] else 0x6D ∷ hex_word store.0) ++ hex_pair store.1

-- stores one after another, if a byte at the first address needs no m
abbrev pub stores_text : ℕ → List Store → List ℕ
stores_text next [] = []
stores_text next (store ∷ stores) = store_text next store ++ stores_text (store.0 + 1) stores

-- an address after all others
abbrev pub no_address : ℕ
no_address = 0x10000

-- a row's text before the keys that were typed and its stores: PC, cycles, and what changed
unfoldable pub fields_of_parts : List ℕ → List ℕ → List ℕ → List ℕ → List ℕ → List ℕ → List ℕ → List ℕ → List ℕ → List ℕ
fields_of_parts pc cycles a x y s p switches keys = concat (pc ∷ cycles ∷ a ∷ x ∷ y ∷ s ∷ p ∷ switches ∷ keys ∷ [])

abbrev pub fields_text : Change → List ℕ
fields_text change =
    fields_of_parts (hex_word change.pc) (decimal change.cycles) (byte_text 0x61 change.a) (byte_text 0x78 change.x)
    (byte_text 0x79 change.y) (byte_text 0x73 change.s) (byte_text 0x70 change.p) (switches_text change.switches)
    (keys_text change.keys)

-- the row of a step, as 03052a41 or 030B4m100001
abbrev pub row_text : Change → List ℕ
row_text change = fields_text change ++ (typed_text change.typed ++ (stores_text no_address change.stores ++ codes "\n"))

-- What is before the rows

-- plain text: printable characters are themselves, except < and \; another byte is \ and its digits
abbrev pub plain_byte : ℕ → List ℕ
plain_byte c =
    if nat_le 0x20 c && nat_le c 0x7E && not (c == 0x3C) && not (c == 0x5C) then c ∷ [] else 0x5C ∷ hex_pair c

abbrev pub plain_text : List ℕ → List ℕ
plain_text text = flat_map plain_byte text

abbrev pub digits_of_bytes : List ℕ → List ℕ
digits_of_bytes bytes = flat_map hex_pair bytes

-- form and version, and the title
unfoldable pub title_lines : List ℕ → List ℕ
title_lines title = codes "FILM 1\nT " ++ (plain_text title ++ codes "\n")

-- whether the run has no guard, up to its keys
abbrev pub guard_text : Bool → List ℕ
guard_text free = if free then codes "G FREE\nK " else codes "G GUARDED\nK "

-- title, guard and keys
abbrev pub opening : List ℕ → Bool → List ℕ → List ℕ
opening title free keys = title_lines title ++ (guard_text free ++ (digits_of_bytes keys ++ codes "\n"))

-- where a chapter begins: at a step of the run, or when a line of the source is first the next one
abbrev pub place_text : Place → List ℕ
place_text (Step number) = codes "C " ++ decimal number
place_text (Line number) = codes "D " ++ decimal number

-- a chapter of a lesson: where it begins, and its text
abbrev pub chapter_line : Chapter → List ℕ
chapter_line chapter = place_text chapter.place ++ (codes " " ++ (plain_text chapter.text.now ++ codes "\n"))

-- a line of the source
abbrev pub source_line : List ℕ → List ℕ
source_line text = codes "S " ++ (plain_text text ++ codes "\n")

-- how many bytes a statement puts in the image; DS puts none
abbrev pub laid : (ℕ → Option ℕ) → Statement → ℕ
laid image statement = if is_some (image statement.addr) then statement.length else 0

unfoldable pub line_of_statement : List ℕ → List ℕ → List ℕ → List ℕ
line_of_statement line addr count = concat (codes "L " ∷ line ∷ codes " " ∷ addr ∷ codes " " ∷ count ∷ codes "\n" ∷ [])

-- a statement: the number of its line, its address, and how many bytes it puts in the image
abbrev pub statement_line : (ℕ → Option ℕ) → Statement → List ℕ
statement_line image statement = line_of_statement (decimal statement.line) (hex_word statement.addr)
    (decimal (laid image statement))

-- a name and its value
abbrev pub name_line : List ℕ × ℕ → List ℕ
name_line entry = codes "N " ++ (plain_text entry.0 ++ (codes " " ++ (hex_word entry.1 ++ codes "\n")))

-- the lines of a source, and the statements and names of its program
abbrev pub program_lines : Assembled → List (List ℕ) → List ℕ
program_lines program texts =
    flat_map source_line texts ++ (flat_map (statement_line (held program.image)) program.statements
    ++ flat_map name_line program.names)

-- the film begins after so many steps and cycles of the run
unfoldable pub line_of_counts : List ℕ → List ℕ → List ℕ
line_of_counts steps cycles = concat (codes "B " ∷ steps ∷ codes " " ∷ cycles ∷ codes "\n" ∷ [])

-- the bytes of RAM at the start that are not 0
unfoldable pub memory_line : World → List ℕ
memory_line start = codes "M " ++ (stores_text no_address (differing (λ _. 0) (ram_byte start.memory) 0 ram_end) ++ codes "\n")

unfoldable pub line_of_registers : List ℕ → List ℕ → List ℕ → List ℕ → List ℕ → List ℕ → ℕ → List ℕ
line_of_registers pc a x y s p digit = concat (
    codes "R " ∷ pc ∷ codes " " ∷ a ∷ codes " " ∷ x ∷ codes " " ∷ y ∷ codes " " ∷ s ∷ codes " " ∷ p ∷ codes " "
    ∷ (digit ∷ []) ∷ codes "\n" ∷ [])

-- the registers and the switches at the start
abbrev pub registers_line : World → List ℕ
registers_line start =
    let registers = start.registers in
    line_of_registers (hex_word registers.pc) (hex_pair registers.a) (hex_pair registers.x) (hex_pair registers.y)
    (hex_pair registers.s)
    (hex_pair (byte_of_flags registers.flags)) (hex_digit (switch_digit start.memory.devices.switches))

-- the start of a film, after so many steps of the run
abbrev pub start_lines : ℕ → World → List ℕ
start_lines steps start = line_of_counts (decimal steps) (decimal start.cycles) ++ (memory_line start ++ registers_line start)
