-- What is known of the rows of lines without an error.
use Rattle.std.proofs.Common.{◌≡◌, ℕ, ◌+◌, ◌*◌, ◌<◌, ◌≤◌, false, true, List, [], ◌∷◌, ◌++◌, length, get_or, take, drop, map, refl, sym, ap, ◌∙◌, subst, Some, None, is_some, arith}
use Rattle.std.specs.List.{flat_map}
use Rattle.std.proofs.lemmas.Bool.{not-false}
use Rattle.std.proofs.lemmas.Bool.Decides.{nat_tests}
use Rattle.std.proofs.lemmas.List.{length-map, length-replicate, append_assoc, take-append-drop}
use Rattle.std.proofs.lemmas.Option.{slice_get_past}
use Rattle.a2_opcode.specs.declared.Mnemonic.{Mnemonic}
use Rattle.a2_opcode.specs.declared.Mode.{Mode}
use Rattle.a2_opcode.specs.declared.Mode.TheVariants.{Implied}
use Rattle.a2_opcode.specs.declared.Instr as opcode
use Rattle.a2_opcode.specs.Table.{length_of}
use Rattle.a2_opcode.specs.Encoding.{encoded}
use Rattle.a2_opcode.proofs.RoundTrip.{coded, operand-length}
use Rattle.a2_syntax.specs.declared.source.Line.{Line}
use Rattle.a2_syntax.specs.declared.source.Operand.{Operand}
use Rattle.a2_syntax.specs.declared.source.Body.{Body}
use Rattle.a2_syntax.specs.declared.source.Body.TheVariants.{Instr, Dw}
use Rattle.a2_asm.specs.declared.place.Place.{Place}
use Rattle.a2_asm.specs.Values.{Names}
use Rattle.a2_asm.specs.Modes.{has_mode, mode_of}
use Rattle.a2_asm.specs.Layout.{Row, IsPlaced, names, mode_in, size}
use Rattle.a2_asm.specs.Laying.{meets}
use Rattle.a2_asm.specs.Bytes.{value_or_zero, bytes_of, word_bytes, instr_of, image, first_instruction}
use Rattle.a2_asm.specs.Refusals.{first_error_in_order, is_outside, lacks_row, refuse_body, refuse_line, refuse_place, refuse_operand, refuse_bytes}
use Rattle.a2_asm.specs.Pass.{next_row, source_rows, layout_error}
use Rattle.a2_asm.proofs.FirstLaws.{at-split}
use Rattle.a2_asm.proofs.BytesLaws.{operand-refused}
use Rattle.a2_asm.proofs.RowLaws.{rows-fit, place_at, row-read}

pub length-some : (mode : Mode) → 1 ≤ length_of mode
length-some Implied = omega arith
length-some _ = omega arith

encoded-length : (i : opcode.Instr) (at : ℕ) (bytes : List ℕ) → encoded i at ≡ Some bytes → length bytes ≡ length_of i.mode
encoded-length i at bytes e = grind (arith, (coded i at bytes e).bytes_are, operand-length i.mode at i.value, length-some i.mode)

words-length : {X : Type 0} (f : X → ℕ) (xs : List X) → length (flat_map (λ x. word_bytes (f x)) xs) ≡ 2 * length xs
words-length f [] = refl
words-length f (x ∷ xs) = omega (arith, words-length f xs)

-- an instruction without an error has its bytes
pub instr-encoded : {A : Type 0} (all earlier : Names) (place : Place) (m : Mnemonic) (o : Operand A) → has_mode m place.mode ≡ true → place.mode ≡ mode_of earlier place.address m o
    → refuse_operand all place (Instr m o) ≡ None → encoded (instr_of all place m o) place.address ≡ Some (bytes_of all place (Instr m o))
instr-encoded all earlier place m o has form later = grind (arith, operand-refused all earlier place m o has form)

-- what holds of a line at its place if the first pass finds no error in it
pub record Keeps {A : Type 0} (all : Names) (before : List (Row A)) (row : Row A) : Type 0 where
  pub now : refuse_body all (names before) row.place row.line.body ≡ None
  pub has_row : lacks_row row.place row.line.body ≡ false
  pub inside : is_outside row.place ≡ false
  pub placed : IsPlaced before row

passes : {A : Type 0} (all earlier : Names) (place : Place) (line : Line A) → refuse_line all earlier place line ≡ None
    → (refuse_body all earlier place line.body ≡ None) × (lacks_row place line.body ≡ false) × (is_outside place ≡ false)
passes all earlier place line h = grind arith

pub keeps : {A : Type 0} (source : List (Line A)) (before after : List (Row A)) (row : Row A) → first_error_in_order (refuse_place (names (source_rows source))) [] (source_rows source) ≡ None
    → source_rows source ≡ before ++ row ∷ after → Keeps (names (source_rows source)) before row
keeps source before after row h split =
    let all = names (source_rows source) in
    let p = passes all (names before) row.place row.line
    (at-split (refuse_place all) [] before after row (subst (λ rows. first_error_in_order (refuse_place all) [] rows ≡ None) split h)) in
    record { now = p.0; has_row = p.1; inside = p.2; placed = (rows-fit source).placed before row after split }

-- the row of a line at the place that the second pass reads
abbrev pub seat : {A : Type 0} → List (Line A) → List Place → ℕ → Line A → Row A
seat lines places i line = record (next_row (take i (source_rows lines)) line) { place = place_at places i }

pub record Seated {A : Type 0} (lines : List (Line A)) (i : ℕ) (row : Row A) : Type 0 where
  pub taken : take (i + 1) (source_rows lines) ≡ take i (source_rows lines) ++ row ∷ []
  pub dropped : drop i (source_rows lines) ≡ row ∷ drop (i + 1) (source_rows lines)
  pub keeps : Keeps (names (source_rows lines)) (take i (source_rows lines)) row

pub seated : {A : Type 0} (lines : List (Line A)) (places : List Place) (i : ℕ) (line : Line A) → places ≡ map (λ row. row.place) (source_rows lines) → i < length lines
    → line ≡ get_or lines i line → first_error_in_order (refuse_place (names (source_rows lines))) [] (source_rows lines) ≡ None → Seated lines i (seat lines places i line)
seated lines places i line are lt e placed =
    let rows = source_rows lines in
    let cut = row-read lines i line lt e in
    let row = next_row (take i rows) line in
    let kept = keeps lines (take i rows) (drop (i + 1) rows) row placed (sym (take-append-drop i rows) ∙ ap (λ more. take i rows ++ more) cut.2) in
    subst (Seated lines i) (ap (λ place. record row { place = place }) (sym (ap (λ ps. place_at ps i) are ∙ cut.3)))
    (record { taken = cut.1; dropped = cut.2; keeps = kept })

-- a line without an error has as many bytes as its place says
pub bytes-length : {A : Type 0} (all earlier : Names) (place : Place) (body : Body A) → lacks_row place body ≡ false → place.mode ≡ mode_in earlier place.address body
    → place.length ≡ size earlier place.address body → refuse_operand all place body ≡ None → length (bytes_of all place body) ≡ place.length
bytes-length all earlier place (Instr m o) has form long later =
    grind (arith, encoded-length (instr_of all place m o) place.address _ (instr-encoded all earlier place m o (not-false _ has) form later))
bytes-length all earlier place (Dw es) has form long later = omega (arith, words-length (value_or_zero all 65535 place.address) es)
bytes-length all earlier place _ has form long later = grind (arith, length-map, length-replicate)

-- a place inside RAM has room
pub place-room : (place : Place) → is_outside place ≡ false → 0 < place.length → place.address + place.length ≤ 49152
place-room place h lt = grind (arith, nat_tests)

pub bytes-room : {A : Type 0} (all whole : Names) (before : List (Row A)) (row : Row A) (bytes : List ℕ) → Keeps whole before row → refuse_operand all row.place row.line.body ≡ None
    → bytes ≡ bytes_of all row.place row.line.body → 0 < length bytes → row.place.address + length bytes ≤ 49152
bytes-room all whole before row bytes k later is lt =
    omega (arith, ap length is, bytes-length all (names before) row.place row.line.body k.has_row k.placed.mode k.placed.size later, place-room row.place k.inside)

-- what holds of a line if neither pass finds an error in it
pub record Passed {A : Type 0} (all : Names) (before : List (Row A)) (row : Row A) : Type 0 where
  pub keeps : Keeps all before row
  pub later : refuse_operand all row.place row.line.body ≡ None
  pub free : meets (image all before) row.place.address (bytes_of all row.place row.line.body) ≡ false
  pub long : length (bytes_of all row.place row.line.body) ≡ row.place.length

laid : {A : Type 0} (all : Names) (before : List (Row A)) (row : Row A) → refuse_bytes all before row ≡ None
    → (refuse_operand all row.place row.line.body ≡ None) × (meets (image all before) row.place.address (bytes_of all row.place row.line.body) ≡ false)
laid all before row h = grind arith

-- the parts of a source's error
pub accepted-parts : {A : Type 0} (source : List (Line A)) → layout_error source ≡ None
    → (first_error_in_order (refuse_place (names (source_rows source))) [] (source_rows source) ≡ None) × (is_some (first_instruction (source_rows source)) ≡ true)
    × (first_error_in_order (refuse_bytes (names (source_rows source))) [] (source_rows source) ≡ None)
accepted-parts source e = grind arith

pub passed-is : {A : Type 0} (source : List (Line A)) (before after : List (Row A)) (row : Row A) → layout_error source ≡ None → source_rows source ≡ before ++ row ∷ after
    → Passed (names (source_rows source)) before row
passed-is source before after row e split =
    let all = names (source_rows source) in
    let ok = accepted-parts source e in
    let k = keeps source before after row ok.0 split in
    let l = laid all before row (at-split (refuse_bytes all) [] before after row (subst (λ rows. first_error_in_order (refuse_bytes all) [] rows ≡ None) split ok.2)) in
    record { keeps = k; later = l.0; free = l.1; long = bytes-length all (names before) row.place row.line.body k.has_row k.placed.mode k.placed.size l.0 }

-- rows without errors hold nothing at or above $C000
pub none-outside : {A : Type 0} (source : List (Line A)) (before after : List (Row A)) (a : ℕ) → layout_error source ≡ None → source_rows source ≡ before ++ after → 49152 ≤ a
    → image (names (source_rows source)) after a ≡ None
none-outside source before [] a e split le = refl
none-outside source before (row ∷ after) a e split le =
    let p = passed-is source before after row e split in
    grind (arith, nat_tests, slice_get_past, p.long, place-room row.place p.keeps.inside, none-outside source (before ++ row ∷ []) after a e (simp append_assoc split) le)
