-- The structure of a command with one more subcommand.
use Rattle.std.specs.Prelude.{◌||◌}
use Rattle.std.proofs.Common.{ap, ap₂, ◌∙◌}
use Rattle.clap.specs.Words.{App, AddsSubcommand, with_subcommand}
use Rattle.clap.specs.declared.builder.Command.{Command}
use Rattle.a2.specs.Grammar.{IsApp}

pub with_one_more : (old sub new : Command) (above below : App) → IsApp old above → IsApp sub below → AddsSubcommand old sub new
    → IsApp new (with_subcommand above below.top)
with_one_more old sub new above below is_old is_sub adds = record {
  app_is = adds.shape is_sub.globals ∙ ap₂ with_subcommand is_old.app_is (ap (λ (app : App). app.top) is_sub.app_is);
  globals = adds.globals ∙ ap₂ (λ a b. a || b) is_old.globals is_sub.globals;
}
