use Rattle.std.proofs.Common.{◌≡◌, ℕ, ◌/◌, ◌%◌, ◌<◌, true, List, eqb, get_or, slice_index, refl, ap, ◌∙◌, arith}
use Rattle.std.proofs.lemmas.Bool.{agree_below_at, eqb-true}
use Rattle.hex.specs.Hex.{encode_with, lower_digits}
use Rattle.a2_text.specs.Bytes.{capital}
use Rattle.a2_text.specs.Digits.{hex_digit}
use Rattle.a2_text.proofs.digits.hex_pair.Goals as goal

-- the capital of each small digit is the capital digit
raised : (n : ℕ) → n < 16 → capital (slice_index lower_digits n) ≡ hex_digit n
raised n h = eqb-true (capital (slice_index lower_digits n)) (hex_digit n)
    (agree_below_at (λ n. eqb (capital (slice_index lower_digits n)) (hex_digit n)) (λ _. true) 16 n refl h)

pub returns : goal.returns
unfolding encode_with
returns c =
    let out = rw c.unwrap.ensures at c.encode_to_slice.ensures.written in
    let high : c.args.byte / 16 < 16 = omega arith in
    let low : c.args.byte % 16 < 16 = omega arith in
    let a : c.capital.result ≡ hex_digit (c.args.byte / 16) = c.capital.ensures ∙ ap (λ (l : List ℕ). capital (get_or l 0 0)) out ∙ raised _ high in
    let b : c.capital-2.result ≡ hex_digit (c.args.byte % 16) = c.capital-2.ensures ∙ ap (λ (l : List ℕ). capital (get_or l 1 0)) out ∙ raised _ low in
    rw (a, b) refl
