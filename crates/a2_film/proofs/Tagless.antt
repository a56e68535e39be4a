-- No piece of a film's data contains a <.
use Rattle.std.specs.Prelude.{◌≡◌, ◌≢◌, ℕ, zero, suc, ◌+◌, ◌/◌, ◌%◌, ◌==◌, ◌<◌, nat_lt, nat_le, not, ◌&&◌, Bool, true, false}
use Rattle.std.specs.Prelude.{if◌then◌else◌, List, [], ◌∷◌, ◌++◌, codes, Option, Some, None, refl}
use Rattle.std.specs.List.{concat, flat_map, list_all}
use Rattle.std.specs.Fmt.{decimal, digits, digits_onto, digit_glyph}
use Rattle.std.proofs.Common.{arith}
use Rattle.std.proofs.lemmas.Bool.{and_parts}
use Rattle.std.proofs.lemmas.Bool.Decides.{nat_tests}
use Rattle.std.proofs.lemmas.List.Elements.{All-append, All-cons, All-nil}
use Rattle.a2_text.specs.Digits.{hex_digit, hex_pair, hex_word}
use Rattle.a2_text.specs.Lines.{lines}
use Rattle.a2_hex.specs.Images.{held}
use Rattle.a2_asm.specs.declared.program.Statement.{Statement}
use Rattle.a2_asm.specs.Assembled.{Assembled}
use Rattle.a2_bus.specs.Memory.{ram_byte, ram_end}
use Rattle.a2_effect.specs.Registers.{byte_of_flags}
use Rattle.a2_services.specs.World.{World}
use Rattle.a2_machine.specs.declared.causes.Cause.{Cause}
use Rattle.a2_machine.specs.declared.causes.Cause.TheVariants.{Returned}
use Rattle.a2_machine.specs.Output.{cause_line}
use Rattle.a2_film.specs.Changes.{Course, Store, Change, switch_digit, differing, change_at}
use Rattle.a2_film.specs.declared.chapters.Place.{Place}
use Rattle.a2_film.specs.declared.chapters.Place.TheVariants.{Step, Line}
use Rattle.a2_film.specs.declared.chapters.Chapter.{Chapter}
use Rattle.a2_film.specs.Rows.{place_text, chapter_line, line_of_counts, byte_text, switches_text, keys_text, store_text}
use Rattle.a2_film.specs.Rows.{typed_text, stores_text, no_address, fields_of_parts, fields_text, row_text, plain_byte, plain_text}
use Rattle.a2_film.specs.Rows.{digits_of_bytes, title_lines, guard_text, opening, source_line, laid, line_of_statement}
use Rattle.a2_film.specs.Rows.{statement_line, name_line, program_lines, memory_line, line_of_registers, registers_line}
use Rattle.a2_film.specs.Rows.{start_lines}
use Rattle.a2_film.specs.Runs.{rows}
use Rattle.a2_film.specs.Film.{film_head}
use Rattle.a2_film.specs.Laws.{HasNoTag, DataHaveNoTag}

append-tagless : (xs ys : List ℕ) → HasNoTag xs → HasNoTag ys → HasNoTag (xs ++ ys)
append-tagless xs ys h k = All-append (λ c. c ≢ 0x3C) xs ys h k

cons-tagless : (c : ℕ) (xs : List ℕ) → c ≢ 0x3C → HasNoTag xs → HasNoTag (c ∷ xs)
cons-tagless c xs h k = All-cons (λ c. c ≢ 0x3C) c xs h k

nil-tagless : HasNoTag []
nil-tagless = All-nil (λ c. c ≢ 0x3C)

-- shown by a test, which is computed if the text is written out
other_test : (c : ℕ) → not (c == 0x3C) ≡ true → c ≢ 0x3C
other_test c h = grind (arith, nat_tests, h)

by_test : (xs : List ℕ) → list_all (λ c. not (c == 0x3C)) xs ≡ true → HasNoTag xs
by_test [] h = nil-tagless
by_test (c ∷ cs) h =
    let parts = and_parts (not (c == 0x3C)) (list_all (λ c. not (c == 0x3C)) cs) h in
    cons-tagless c cs (other_test c parts.0) (by_test cs parts.1)

-- none of these texts contains a <
abbrev AllTagless : List (List ℕ) → Type 0
AllTagless [] = Unit {0}
AllTagless (x ∷ xs) = HasNoTag x × AllTagless xs

concat-tagless : (parts : List (List ℕ)) → AllTagless parts → HasNoTag (concat parts)
concat-tagless [] h = nil-tagless
concat-tagless (x ∷ xs) h = append-tagless x (concat xs) h.0 (concat-tagless xs h.1)

flat_map-tagless : {X : Type 0} (f : X → List ℕ) → ((x : X) → HasNoTag (f x)) → (xs : List X) → HasNoTag (flat_map f xs)
flat_map-tagless f h [] = nil-tagless
flat_map-tagless f h (x ∷ xs) = append-tagless (f x) (flat_map f xs) (h x) (flat_map-tagless f h xs)

-- Digits

hex_digit-other : (n : ℕ) → hex_digit n ≢ 0x3C
hex_digit-other n = go (nat_lt n 10) refl
  where
    go : (v : Bool) → nat_lt n 10 ≡ v → (if v then 48 + n else 55 + n) ≢ 0x3C
    go true h = grind (arith, nat_tests, h)
    go false h = grind (arith, nat_tests, h)

hex_pair-tagless : (byte : ℕ) → HasNoTag (hex_pair byte)
hex_pair-tagless byte =
    cons-tagless (hex_digit (byte / 16)) (hex_digit (byte % 16) ∷ []) (hex_digit-other (byte / 16))
    (cons-tagless (hex_digit (byte % 16)) [] (hex_digit-other (byte % 16)) nil-tagless)

hex_word-tagless : (word : ℕ) → HasNoTag (hex_word word)
hex_word-tagless word = append-tagless (hex_pair (word / 256)) (hex_pair (word % 256)) (hex_pair-tagless (word / 256))
    (hex_pair-tagless (word % 256))

glyph-other : (d : ℕ) → d < 10 → digit_glyph false d ≢ 0x3C
glyph-other d low = go (nat_lt d 10) refl
  where
    go : (v : Bool) → nat_lt d 10 ≡ v → (if v then 48 + d else 87 + d) ≢ 0x3C
    go true h = grind (arith, low)
    go false h = grind (arith, nat_tests, h)

onto-tagless : (k n : ℕ) (others : List ℕ) → HasNoTag others → HasNoTag (digits_onto k 10 false n others)
onto-tagless zero n others h = h
onto-tagless (suc k) n others h = go (n / 10 == 0) (onto-tagless k (n / 10) (digit_glyph false (n % 10) ∷ others) more)
  where
    more : HasNoTag (digit_glyph false (n % 10) ∷ others)
    more = cons-tagless (digit_glyph false (n % 10)) others (glyph-other (n % 10) (omega arith)) h

    go : (v : Bool) → HasNoTag (digits_onto k 10 false (n / 10) (digit_glyph false (n % 10) ∷ others))
        → HasNoTag (if v then digit_glyph false (n % 10) ∷ others else digits_onto k 10 false (n / 10)
        (digit_glyph false (n % 10) ∷ others))
    go true rest = more
    go false rest = rest

decimal-tagless : (n : ℕ) → HasNoTag (decimal n)
unfolding digits
decimal-tagless n = onto-tagless 64 n [] nil-tagless

-- Rows

byte-tagless : (letter : ℕ) (byte : Option ℕ) → letter ≢ 0x3C → HasNoTag (byte_text letter byte)
byte-tagless letter None other = nil-tagless
byte-tagless letter (Some byte) other = cons-tagless letter (hex_pair byte) other (hex_pair-tagless byte)

switches-tagless : (digit : Option ℕ) → HasNoTag (switches_text digit)
switches-tagless None = nil-tagless
switches-tagless (Some digit) =
    cons-tagless 0x77 (hex_digit digit ∷ []) (other_test 0x77 refl)
    (cons-tagless (hex_digit digit) [] (hex_digit-other digit) nil-tagless)

keys-tagless : (taken : ℕ) → HasNoTag (keys_text taken)
keys-tagless taken = go (taken == 0)
  where
    go : (v : Bool) → HasNoTag (if v then [] else 0x6B ∷ decimal taken)
    go true = nil-tagless
    go false = cons-tagless 0x6B (decimal taken) (other_test 0x6B refl) (decimal-tagless taken)

store-tagless : (next : ℕ) (store : Store) → HasNoTag (store_text next store)
store-tagless next store = go (store.0 == next)
  where
    go : (v : Bool) → HasNoTag ((if v then [] else 0x6D ∷ hex_word store.0) ++ hex_pair store.1)
    go true = hex_pair-tagless store.1
    go false =
        append-tagless (0x6D ∷ hex_word store.0) (hex_pair store.1)
        (cons-tagless 0x6D (hex_word store.0) (other_test 0x6D refl) (hex_word-tagless store.0)) (hex_pair-tagless store.1)

stores-tagless : (next : ℕ) (stores : List Store) → HasNoTag (stores_text next stores)
stores-tagless next [] = nil-tagless
stores-tagless next (store ∷ stores) =
    append-tagless (store_text next store) (stores_text (store.0 + 1) stores) (store-tagless next store)
    (stores-tagless (store.0 + 1) stores)

fields-tagless : (change : Change) → HasNoTag (fields_text change)
unfolding fields_of_parts
fields-tagless change =
    concat-tagless
    (hex_word change.pc ∷ decimal change.cycles ∷ byte_text 0x61 change.a ∷ byte_text 0x78 change.x ∷ byte_text 0x79
    change.y ∷ byte_text 0x73 change.s
    ∷ byte_text 0x70 change.p ∷ switches_text change.switches ∷ keys_text change.keys ∷ []) (
      hex_word-tagless change.pc,
      (
        decimal-tagless change.cycles,
        (
          byte-tagless 0x61 change.a (other_test 0x61 refl),
          (
            byte-tagless 0x78 change.x (other_test 0x78 refl),
            (
              byte-tagless 0x79 change.y (other_test 0x79 refl),
              (
                byte-tagless 0x73 change.s (other_test 0x73 refl),
                (
                  byte-tagless 0x70 change.p (other_test 0x70 refl),
                  (switches-tagless change.switches, (keys-tagless change.keys, tt)),
                ),
              ),
            ),
          ),
        ),
      ),
    )

typed-tagless : (keys : List ℕ) → HasNoTag (typed_text keys)
typed-tagless keys =
    flat_map-tagless (λ key. 0x74 ∷ hex_pair key) (λ key. cons-tagless 0x74 (hex_pair key) (other_test 0x74 refl) (hex_pair-tagless key)) keys

row-tagless : (change : Change) → HasNoTag (row_text change)
row-tagless change =
    let stores = stores_text no_address change.stores ++ codes "\n" in
    append-tagless (fields_text change) (typed_text change.typed ++ stores) (fields-tagless change)
    (append-tagless (typed_text change.typed) stores (typed-tagless change.typed)
    (append-tagless (stores_text no_address change.stores) (codes "\n") (stores-tagless no_address change.stores)
    (by_test (codes "\n") refl)))

rows-tagless : (course : Course) (from n : ℕ) → HasNoTag (rows course from n)
rows-tagless course from zero = nil-tagless
rows-tagless course from (suc n) =
    append-tagless (row_text (change_at course from)) (rows course (suc from) n) (row-tagless (change_at course from))
    (rows-tagless course (suc from) n)

cause-tagless : (cause : Cause) → HasNoTag (cause_line cause)
cause-tagless Returned = by_test (cause_line Returned) refl
cause-tagless cause = by_test (cause_line cause) refl

-- The text before the rows

plain-byte-tagless : (c : ℕ) → HasNoTag (plain_byte c)
plain-byte-tagless c = go (nat_le 0x20 c && nat_le c 0x7E) (not (c == 0x3C)) (not (c == 0x5C)) refl
  where
    escaped : HasNoTag (0x5C ∷ hex_pair c)
    escaped = cons-tagless 0x5C (hex_pair c) (other_test 0x5C refl) (hex_pair-tagless c)

    go : (v w u : Bool) → not (c == 0x3C) ≡ w → HasNoTag (if v && w && u then c ∷ [] else 0x5C ∷ hex_pair c)
    go true true true h = cons-tagless c [] (other_test c h) nil-tagless
    go true true false h = escaped
    go true false u h = escaped
    go false w u h = escaped

plain-tagless : (text : List ℕ) → HasNoTag (plain_text text)
plain-tagless text = flat_map-tagless (λ c. plain_byte c) plain-byte-tagless text

title-tagless : (title : List ℕ) → HasNoTag (title_lines title)
unfolding title_lines
title-tagless title =
    append-tagless (codes "FILM 1\nT ") (plain_text title ++ codes "\n") (by_test (codes "FILM 1\nT ") refl)
    (append-tagless (plain_text title) (codes "\n") (plain-tagless title) (by_test (codes "\n") refl))

guard-tagless : (free : Bool) → HasNoTag (guard_text free)
guard-tagless true = by_test (guard_text true) refl
guard-tagless false = by_test (guard_text false) refl

opening-tagless : (title : List ℕ) (free : Bool) (keys : List ℕ) → HasNoTag (opening title free keys)
opening-tagless title free keys =
    append-tagless (title_lines title) (guard_text free ++ (digits_of_bytes keys ++ codes "\n")) (title-tagless title)
    (append-tagless (guard_text free) (digits_of_bytes keys ++ codes "\n") (guard-tagless free)
    (append-tagless (digits_of_bytes keys) (codes "\n") (flat_map-tagless (λ b. hex_pair b) hex_pair-tagless keys)
    (by_test (codes "\n") refl)))

place-tagless : (place : Place) → HasNoTag (place_text place)
place-tagless (Step n) = append-tagless (codes "C ") (decimal n) (by_test (codes "C ") refl) (decimal-tagless n)
place-tagless (Line n) = append-tagless (codes "D ") (decimal n) (by_test (codes "D ") refl) (decimal-tagless n)

chapter-tagless : (chapter : Chapter) → HasNoTag (chapter_line chapter)
chapter-tagless chapter =
    append-tagless (place_text chapter.place) (codes " " ++ (plain_text chapter.text.now ++ codes "\n"))
    (place-tagless chapter.place)
    (append-tagless (codes " ") (plain_text chapter.text.now ++ codes "\n") (by_test (codes " ") refl)
    (append-tagless (plain_text chapter.text.now) (codes "\n") (plain-tagless chapter.text.now) (by_test (codes "\n") refl)))

source-tagless : (text : List ℕ) → HasNoTag (source_line text)
source-tagless text =
    append-tagless (codes "S ") (plain_text text ++ codes "\n") (by_test (codes "S ") refl)
    (append-tagless (plain_text text) (codes "\n") (plain-tagless text) (by_test (codes "\n") refl))

statement-tagless : (image : ℕ → Option ℕ) (s : Statement) → HasNoTag (statement_line image s)
unfolding line_of_statement
statement-tagless image s =
    concat-tagless (codes "L " ∷ decimal s.line ∷ codes " " ∷ hex_word s.addr ∷ codes " " ∷ decimal (laid image s) ∷ codes
    "\n" ∷ []) (
      by_test (codes "L ") refl,
      (
        decimal-tagless s.line,
        (
          by_test (codes " ") refl,
          (
            hex_word-tagless s.addr,
            (
              by_test (codes " ") refl,
              (decimal-tagless (laid image s), (by_test (codes "\n") refl, tt)),
            ),
          ),
        ),
      ),
    )

name-tagless : (entry : List ℕ × ℕ) → HasNoTag (name_line entry)
name-tagless entry =
    append-tagless (codes "N ") (plain_text entry.0 ++ (codes " " ++ (hex_word entry.1 ++ codes "\n")))
    (by_test (codes "N ") refl)
    (append-tagless (plain_text entry.0) (codes " " ++ (hex_word entry.1 ++ codes "\n")) (plain-tagless entry.0)
    (append-tagless (codes " ") (hex_word entry.1 ++ codes "\n") (by_test (codes " ") refl)
    (append-tagless (hex_word entry.1) (codes "\n") (hex_word-tagless entry.1) (by_test (codes "\n") refl))))

program-tagless : (program : Assembled) (texts : List (List ℕ)) → HasNoTag (program_lines program texts)
program-tagless program texts =
    append-tagless (flat_map source_line texts) (flat_map (statement_line (held program.image)) program.statements
    ++ flat_map name_line program.names)
    (flat_map-tagless (λ t. source_line t) source-tagless texts)
    (append-tagless (flat_map (statement_line (held program.image)) program.statements) (flat_map name_line program.names)
    (flat_map-tagless (statement_line (held program.image)) (statement-tagless (held program.image)) program.statements)
    (flat_map-tagless (λ e. name_line e) name-tagless program.names))

counts-tagless : (steps cycles : ℕ) → HasNoTag (line_of_counts (decimal steps) (decimal cycles))
unfolding line_of_counts
counts-tagless steps cycles =
    concat-tagless (codes "B " ∷ decimal steps ∷ codes " " ∷ decimal cycles ∷ codes "\n" ∷ []) (
      by_test (codes "B ") refl,
      (decimal-tagless steps, (by_test (codes " ") refl, (decimal-tagless cycles, (by_test (codes "\n") refl, tt)))),
    )

memory-tagless : (start : World) → HasNoTag (memory_line start)
unfolding memory_line
memory-tagless start =
    let stores = differing (λ _. 0) (ram_byte start.memory) 0 ram_end in
    append-tagless (codes "M ") (stores_text no_address stores ++ codes "\n") (by_test (codes "M ") refl)
    (append-tagless (stores_text no_address stores) (codes "\n") (stores-tagless no_address stores) (by_test (codes "\n") refl))

registers-tagless : (start : World) → HasNoTag (registers_line start)
unfolding line_of_registers
registers-tagless start =
    let r = start.registers in
    let digit = hex_digit (switch_digit start.memory.devices.switches) in
    concat-tagless
    (codes "R " ∷ hex_word r.pc ∷ codes " " ∷ hex_pair r.a ∷ codes " " ∷ hex_pair r.x ∷ codes " " ∷ hex_pair r.y ∷ codes
    " " ∷ hex_pair r.s ∷ codes " "
    ∷ hex_pair (byte_of_flags r.flags) ∷ codes " " ∷ (digit ∷ []) ∷ codes "\n" ∷ []) (
      by_test (codes "R ") refl,
      (
        hex_word-tagless r.pc,
        (
          by_test (codes " ") refl,
          (
            hex_pair-tagless r.a,
            (
              by_test (codes " ") refl,
              (
                hex_pair-tagless r.x,
                (
                  by_test (codes " ") refl,
                  (
                    hex_pair-tagless r.y,
                    (
                      by_test (codes " ") refl,
                      (
                        hex_pair-tagless r.s,
                        (
                          by_test (codes " ") refl,
                          (
                            hex_pair-tagless (byte_of_flags r.flags),
                            (
                              by_test (codes " ") refl,
                              (
                                cons-tagless digit [] (hex_digit-other (switch_digit start.memory.devices.switches)) nil-tagless,
                                (by_test (codes "\n") refl, tt),
                              ),
                            ),
                          ),
                        ),
                      ),
                    ),
                  ),
                ),
              ),
            ),
          ),
        ),
      ),
    )

pub data-tagless : DataHaveNoTag
data-tagless text title chapters free program steps start course from n cause =
    let keys = start.memory.devices.keys in
    let listed = program_lines program (lines text) in
    let first = flat_map chapter_line chapters in
    append-tagless (film_head title chapters text free program steps start) (rows course from n ++ cause_line cause)
    (append-tagless (opening title free keys) (first ++ (listed ++ start_lines steps start)) (opening-tagless title free keys)
    (append-tagless first (listed ++ start_lines steps start) (flat_map-tagless (λ c. chapter_line c) chapter-tagless chapters)
    (append-tagless listed (start_lines steps start) (program-tagless program (lines text))
    (append-tagless (line_of_counts (decimal steps) (decimal start.cycles)) (memory_line start ++ registers_line start)
    (counts-tagless steps start.cycles)
    (append-tagless (memory_line start) (registers_line start) (memory-tagless start) (registers-tagless start))))))
    (append-tagless (rows course from n) (cause_line cause) (rows-tagless course from n) (cause-tagless cause))
