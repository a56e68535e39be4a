use Rattle.std.proofs.Common.{◌+◌, ◌==◌, sym, ap, ◌∙◌, drop, take}
use Rattle.std.proofs.lemmas.List.{take_rest}
use Rattle.a2_monitor.proofs.ParseLaws.{none_found, one_found, found_at}
use Rattle.a2_monitor.proofs.parsing.split_at_letter.Goals as goal

pub returns-in_err-at : goal.returns-in_err-at
returns-in_err-at c = rw c.from_residual.ensures (none_found (λ x. x == c.args.letter) c.args.text.now (sym c.in_err-at.was ∙ c.place_of.ensures.is))

pub returns : goal.returns
returns c =
    let is = sym c.in_ok-at.was ∙ c.place_of.ensures.is in
    let at = found_at (λ x. x == c.args.letter) c.args.text.now c.in_ok-at.at is in (
      one_found (λ x. x == c.args.letter) c.args.text.now c.in_ok-at.at is,
      ap (λ n. take n c.args.text.now) at,
      take_rest c.args.text.now (c.in_ok-at.at + 1) ∙ ap (λ n. drop (n + 1) c.args.text.now) at,
    )
