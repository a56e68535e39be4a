-- What the Monitor's services print, and what the texts of a promise say. This project's profile;
-- docs/manual/services.md, "Putting a byte", describes what happens to each byte.
use Rattle.std.specs.Prelude.{◌≡◌, ◌⊎◌, ℕ, ◌+◌, ◌-◌, ◌/◌, ◌%◌, ◌==◌, ◌||◌, nat_lt, nat_le, if◌then◌else◌, List, [], ◌∷◌, ◌++◌, map}
use Rattle.std.specs.List.{flat_map}
use Rattle.a2_bus.specs.Memory.{Memory}
use Rattle.a2_effect.specs.Registers.{Registers}
use Rattle.a2_page.specs.Grid.{blank}
use Rattle.a2_services.specs.declared.rows.Service.{Service}
use Rattle.a2_services.specs.declared.rows.OnScreen.{OnScreen}
use Rattle.a2_services.specs.declared.rows.OnScreen.TheVariants as cells
use Rattle.a2_services.specs.Rows.{service_row}
use Rattle.a2_services.specs.Bytes.{carriage_return, line_feed, backspace, cancel, backslash}
use Rattle.a2_services.specs.Put.{prompt_character}
use Rattle.a2_services.specs.Services.{digit_byte}
use Rattle.a2_promise.specs.declared.texts.Text.{Text}
use Rattle.a2_promise.specs.declared.texts.Texts.{Texts}

-- a printed byte is a character, except for the bytes from $80 to $9F that have no effect
abbrev pub shown : ℕ → List ℕ
shown byte =
    if nat_lt byte 0x80 || nat_le blank byte || byte == backspace || byte == line_feed || byte == carriage_return then byte ∷ [] else []

-- the byte that echoes a key. A right arrow, which copies the character at the cursor, is echoed as a byte that is
-- not a character.
abbrev pub echo_of : ℕ → ℕ
echo_of key = let byte = 0x80 + key % 128 in if nat_le 0xE0 byte then byte - 0x20 else byte

-- a new line, and the prompt
abbrev pub prompted : ℕ → List ℕ
prompted prompt = carriage_return ∷ shown prompt

-- what GETLN prints after the echo of a byte that does not end the line, and then the new length of the line, given
-- its old one
abbrev pub after_echo : ℕ → ℕ → ℕ → List ℕ
after_echo prompt byte len =
    if byte == backspace then (if len == 0 then prompted prompt else [])
    else if byte == cancel || len == 255 then backslash ∷ prompted prompt
    else []

abbrev pub length_after : ℕ → ℕ → ℕ
length_after byte len = if byte == backspace then len - 1 else if byte == cancel || len == 255 then 0 else len + 1

-- what is printed while keys are typed into a line that already has this many bytes, up to and including the RETURN
abbrev pub line_printed : ℕ → List ℕ → ℕ → List ℕ
line_printed prompt [] len = []
line_printed prompt (key ∷ keys) len =
    let byte = echo_of key in
    if byte == carriage_return then carriage_return ∷ []
    else shown byte ++ (after_echo prompt byte len ++ line_printed prompt keys (length_after byte len))

-- What a service prints: the bytes it prints that are characters, before INVFLG masks them. COUT and CROUT are hooks;
-- if they lead to COUT1, COUT1 does the printing.
abbrev pub printed_on : OnScreen → Registers → Memory → List ℕ
printed_on cells.PutsByte registers memory = shown registers.a
printed_on cells.PutsDigits registers memory = shown (digit_byte (registers.a / 16)) ++ shown (digit_byte (registers.a % 16))
printed_on cells.PutsDigit registers memory = shown (digit_byte (registers.a % 16))
printed_on cells.ReadsLine registers memory =
    shown (prompt_character memory) ++ line_printed (prompt_character memory) memory.devices.keys 0
printed_on _ registers memory = []

abbrev pub printed_by : Service → Registers → Memory → List ℕ
printed_by service registers memory = printed_on (service_row service).on_screen registers memory

-- the bytes of texts, one text after another: characters with bit 7 set
abbrev pub bytes_of_texts : List Text → List ℕ
bytes_of_texts texts = flat_map (λ text. map (λ c. 128 + c % 128) text.characters.items) texts

-- these bytes are what a promise says is printed: exactly those of its texts, if it says anything about printing
abbrev pub PrintsAsPromised : Texts → List ℕ → Type 0
PrintsAsPromised texts printed = (texts.prints.items ≡ []) ⊎ (printed ≡ bytes_of_texts texts.prints.items)

-- a promise says nothing about printing or keys
pub record HasNoText (texts : Texts) : Type 0 where
  pub prints : texts.prints.items ≡ []
  pub takes : texts.takes.items ≡ []
