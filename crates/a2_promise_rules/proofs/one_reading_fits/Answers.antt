use Rattle.std.specs.Prelude.{refl}
use Rattle.a2_promise.specs.Tokens.{tokens}
use Rattle.a2_promise.specs.Written.{spelled}
use Rattle.a2_promise.specs.Grammar.{fits}
use Rattle.a2_promise_rules.proofs.one_reading_fits.Goals as goal

pub returns : goal.returns
unfolding tokens spelled fits
returns c = ((refl, refl, refl, refl), (refl, refl, refl, refl), (refl, refl, refl, refl), (refl, refl, refl, refl), (refl, refl, refl, refl))
