-- Names, and the names of operations, consist of name bytes.
use Rattle.std.proofs.Common.{◌≡◌, ℕ, ◌<◌, Bool, true, List, [], ◌∷◌, length, map, refl, sym, ap, ◌∙◌, arith, Option, Some, None, find}
use Rattle.std.specs.List.{AllPass, list_all}
use Rattle.std.specs.Str.{IsUtf8, bytes_eq}
use Rattle.std.proofs.lemmas.Bool.{and_parts, or_left, false≢true}
use Rattle.std.proofs.lemmas.Bool.Decides.{nat_tests}
use Rattle.std.proofs.lemmas.List.{length-map}
use Rattle.std.proofs.lemmas.List.Folds.{list_all-map}
use Rattle.std.proofs.lemmas.List.Sums.{AllPass-from_list_all}
use Rattle.std.proofs.lemmas.List.Elements.{All-weaker, All-cons}
use Rattle.std.proofs.lemmas.Str.Ascii.{IsAscii-from_all}
use Rattle.std.proofs.lemmas.Str.{IsUtf8-from_ascii}
use Rattle.a2_text.specs.Bytes.{is_between, capital}
use Rattle.a2_syntax.specs.Names.{is_name_byte, is_name}
use Rattle.a2_opcode.specs.Names.{name_of}
use Rattle.a2_opcode.specs.declared.Mnemonic.{Mnemonic}
use Rattle.a2_opcode.specs.declared.Mnemonic.TheVariants.{Adc}
use Rattle.a2_opcode.proofs.Naming.{same_name}
use Rattle.a2_syntax.specs.Words.{letters_of}
use Rattle.a2_syntax.specs.declared.operation.Operation.{Operation}
use Rattle.a2_syntax.specs.declared.operation.Operation.TheVariants.{Instr, Org, Equ, Dfb, Dw, Asc, Ds}

pub name-bytes : (word : List ℕ) → is_name word ≡ true → AllPass is_name_byte word
name-bytes [] h = absurd (false≢true h)
name-bytes (c ∷ cs) h =
    let (first, rest) = and_parts _ _ (and_parts _ _ (and_parts _ _ h).0).0 in
    All-cons (λ x. is_name_byte x ≡ true) c cs (or_left _ _ first) (AllPass-from_list_all is_name_byte cs rest)

pub name-text : (word : List ℕ) → is_name word ≡ true → IsUtf8 word
name-text word h = IsUtf8-from_ascii word (IsAscii-from_all word (All-weaker (λ x. is_name_byte x ≡ true) (λ x. x < 128) ascii word (name-bytes word h)))
  where
    ascii : (c : ℕ) → is_name_byte c ≡ true → c < 128
    ascii c h = grind (arith, nat_tests)

-- the letters of an operation are one or more capitals
are_letters : List ℕ → Bool
are_letters letters = list_all (is_between 65 90) letters

name-letters : (m : Mnemonic) → (0 < length (name_of m)) × (are_letters (name_of m) ≡ true)
unfolding are_letters
name-letters Adc = (omega arith, refl)
name-letters _ = (omega arith, refl)

operation-letters : (o : Operation) → (0 < length (letters_of o)) × (are_letters (letters_of o) ≡ true)
unfolding are_letters
operation-letters (Instr m) = name-letters m
operation-letters _ = (omega arith, refl)

-- so the name of an operation is one or more name bytes
pub word-names : (word : List ℕ) (o : Operation) → map capital word ≡ letters_of o → (0 < length word) × AllPass is_name_byte word
unfolding are_letters
word-names word o e =
    let (some, letters) = operation-letters o in (
      omega (arith, some, ap length e, length-map word capital),
      All-weaker (λ c. is_between 65 90 (capital c) ≡ true) (λ c. is_name_byte c ≡ true) byte word
          (AllPass-from_list_all (λ c. is_between 65 90 (capital c)) word (sym (list_all-map (is_between 65 90) capital word) ∙ ap are_letters e ∙ letters)),
    )
  where
    byte : (c : ℕ) → is_between 65 90 (capital c) ≡ true → is_name_byte c ≡ true
    byte c h = grind (arith, nat_tests)

abbrev pub directives : List Operation
directives = Org ∷ Equ ∷ Dfb ∷ Dw ∷ Asc ∷ Ds ∷ []

-- the directive with these letters
directive_of : List ℕ → Option Operation
directive_of letters = find (λ o. bytes_eq (letters_of o) letters) directives

directive : Operation → Option Operation
directive (Instr m) = None
directive o = Some o

name-no_directive : (m : Mnemonic) → directive_of (name_of m) ≡ None
unfolding directive_of
name-no_directive Adc = refl
name-no_directive _ = refl

directive-is : (o : Operation) → directive_of (letters_of o) ≡ directive o
unfolding directive_of directive
directive-is (Instr m) = name-no_directive m
directive-is _ = refl

same-directive : (a b : Operation) → directive a ≡ directive b → letters_of a ≡ letters_of b → a ≡ b
unfolding directive
same-directive (Instr m) (Instr n) d e = ap Instr (same_name m n e)
same-directive a (Instr n) d e = cc
same-directive a b d e = cc

-- two operations with the same letters are the same
pub same-letters : (a b : Operation) → letters_of a ≡ letters_of b → a ≡ b
same-letters a b e = same-directive a b (sym (directive-is a) ∙ ap directive_of e ∙ directive-is b) e
