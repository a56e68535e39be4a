use Rattle.std.specs.Prelude.{◌≡◌, ℕ, ◌+◌, ◌-◌, ◌%◌, ◌*◌, [], ◌∷◌, refl}
use Rattle.std.proofs.Common.{arith}
use Rattle.a2_machine.specs.Meaning.{Code}
use Rattle.a2_machine.proofs.Computing.{computing}
use Rattle.a2_theorems.specs.Routines.{routine, entered, word}
use Rattle.a2_theorems.specs.TextLength.{text_length, Measures, TextLengthMeasures}
use Rattle.a2_theorems.proofs.Returning.{does, home}
use Rattle.a2_theorems.proofs.Keeping.{kept}
use Rattle.a2_theorems.proofs.Indexing.{crossed}
use Rattle.a2_theorems.proofs.Scanning.{IsText, scanning}

abbrev code : Code
code = routine 0x300 text_length

pub text_length_measures : TextLengthMeasures
unfolding computing
text_length_measures memory length bytes stack few high text =
    does 0x300 text_length memory _ _ (Measures memory length)
    (scanning code 0x302 0xFD 0x06 base memory (λ k w. Unit {0}) length 2 7 is_text refl
    (λ z w. record { found = refl; no_return = refl; no_service = refl }) _ 1 3 3 _ (entered 0x300 memory) (omega arith)
    (_, refl, (((refl, refl, refl, refl), refl, refl, refl), tt))
    (λ k w index left. (_, refl, (((refl, refl, refl, refl), refl, round _, refl), tt)))
    (λ w index cycles left. (
      _,
      refl,
      (
        home memory stack,
        last _ cycles,
        record {
          length_is = index;
          rest = kept ((0x08, _) ∷ []) memory _ _ refl refl;
        },
      ),
    )))
  where
    base : ℕ
    base = word memory 0x06

    is_text : IsText memory base length
    is_text = record { few = few; low = high; some = text.some; ends = text.ends }

    -- the cycles after LDA: in a round, and at the end
    round : (c : ℕ) → c + 2 + 2 + 3 ≡ c + 7
    round c = omega arith

    last : (c : ℕ) → c ≡ length * 12 + 2 + 5 + crossed base (length + 1)
        → c + 3 + 3 + 6 ≡ length * 12 + 19 + (base % 256 + length + 1 - 256)
    last c is = omega (arith, is)
