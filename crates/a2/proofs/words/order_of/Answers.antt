use Rattle.std.proofs.Common.{rules, arith, sym, ◌∙◌, ◌≡◌, ◌≤◌, Some, length, map, option_map, string_bytes}
use Rattle.std.proofs.lemmas.List.{length-map}
use Rattle.std.proofs.lemmas.Result.{IfErr-weaker, IfOk-weaker}
use Rattle.clap.specs.Words.{found_of, rows_of, subcommand_rows_of}
use Rattle.clap.specs.Matches.{subcommand_name_of}
use Rattle.a2.specs.Words.{IsTaken}
use Rattle.a2.proofs.RunWords.{found_subcommand, refused_words}
use Rattle.a2.proofs.words.order_of.Goals as goal

pub returns : goal.returns
returns c =
    let words = map string_bytes c.args.words.now in
    let same : length words ≡ length c.args.words.now = length-map c.args.words.now string_bytes in
    let few : length words ≤ 1 → ⊥ = λ is. let short : length c.args.words.now ≤ 1 = omega arith in search rules in
    let found = c.in_ok-found.found in
    let name = c.in_ok-name.name.now in
    let values = rows_of (found_of c.in_ok-name.inner.now) in
    let named : Some name ≡ subcommand_name_of found = search rules in
    let rows : Some values ≡ option_map (λ p. p.1) (subcommand_rows_of found) = search rules in
    let taken : IsTaken words name values = record {
      clean = c.in_ok-found.ensures.clean;
      found = sym c.in_ok-found.ensures.found ∙ found_subcommand found name values rows named;
    } in
    record {
      without = λ is. absurd (few is);
      order = λ _. IfOk-weaker c.inner_order.result _ _ (λ order is. (name, values, taken, is)) c.inner_order.ensures.order;
      refusal = λ _. IfErr-weaker c.inner_order.result _ _ (refused_words words name values taken) c.inner_order.ensures.refused;
    }
