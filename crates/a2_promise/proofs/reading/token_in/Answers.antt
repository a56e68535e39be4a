use Rattle.std.proofs.Common.{◌≡◌, ap, ◌∙◌, rules, arith}
use Rattle.std.specs.List.{prefix_len}
use Rattle.a2_text.specs.Bytes.{is_digit}
use Rattle.a2_syntax.specs.Names.{is_name_byte}
use Rattle.a2_promise.specs.Tokens.{token_from}
use Rattle.a2_promise.specs.Reading.{token_of, with_rest}
use Rattle.a2_promise.proofs.Tokens.{digit_found, letter_found, sign_found, word_written}
use Rattle.a2_promise.proofs.reading.token_in.Goals as goal

pub returns-in-len1-up-clause-found : goal.returns-in-len1-up-clause-found
returns-in-len1-up-clause-found c =
    let cut = c.cut_off-in-len1-up in
    let n : c.front_len-in-len1-up.result ≡ prefix_len is_digit c.after_blanks-here.result.now = search (rules, c.front_len-in-len1-up.ensures.is) in
    ap (λ it. with_rest (token_of it cut.result.0.text.now) cut.result.1.now) cut.ensures.class
    ∙ digit_found cut.result.0.text.now cut.result.1.now c.after_blanks-here.result.now c.front_len-in-len1-up.result cut.ensures.front cut.ensures.following
    n (omega arith) (search rules)
    ∙ ap token_from c.after_blanks-here.ensures

pub returns-in-len1-up-2-clause-found : goal.returns-in-len1-up-2-clause-found
returns-in-len1-up-2-clause-found c =
    let cut = c.cut_off-in-len1-up-2 in
    let n : c.front_len-in-len1-up-2.result ≡ prefix_len is_name_byte c.after_blanks-here.result.now = search (rules, c.front_len-in-len1-up-2.ensures.is) in
    ap (λ it. with_rest (token_of it cut.result.0.text.now) cut.result.1.now) cut.ensures.class
    ∙ letter_found cut.result.0.text.now cut.result.1.now c.after_blanks-here.result.now c.front_len-in-len1-up-2.result cut.ensures.front cut.ensures.following
    n (omega arith) (search rules) (search rules)
    ∙ ap token_from c.after_blanks-here.ensures

pub returns-in-len1-up-2-clause-written : goal.returns-in-len1-up-2-clause-written
returns-in-len1-up-2-clause-written c =
    let cut = c.cut_off-in-len1-up-2 in
    let n : c.front_len-in-len1-up-2.result ≡ prefix_len is_name_byte c.after_blanks-here.result.now = search (rules, c.front_len-in-len1-up-2.ensures.is) in
    word_written cut.result.0.class cut.result.0.text.now c.after_blanks-here.result.now c.front_len-in-len1-up-2.result cut.ensures.class
    cut.ensures.front n (omega arith) (search rules)

pub returns-in_default-clause-found : goal.returns-in_default-clause-found
returns-in_default-clause-found c =
    let cut = c.cut_off-in_default in
    sign_found cut.result.0.class cut.result.0.text.now cut.result.1.now c.after_blanks-here.result.now c.sign_length.result cut.ensures.class
    cut.ensures.front cut.ensures.following c.sign_length.ensures (omega arith) (λ e. omega (arith, e)) (λ e. omega (arith, e)) (λ e. omega (arith, e))
    (search rules) (search rules)
    ∙ ap token_from c.after_blanks-here.ensures
