use Rattle.std.proofs.Common.{ℕ, List, drop, subst, ap}
use Rattle.a2_bus.specs.KeyText.{SpellsKeys}
use Rattle.a2_bus.proofs.Spelling.{spelled-text}
use Rattle.a2_debugger.proofs.reading.keys_in.Goals as goal

pub returns-in_default-clause-none : goal.returns-in_default-clause-none
returns-in_default-clause-none c = λ some keys spells.
    absurd (c.in_default.ensures.cases.0 (spelled-text c.in_ok-text.text.now keys
    (subst (λ (t : List ℕ). SpellsKeys t keys) (ap (λ (xs : List ℕ). drop 1 xs) c.in_ok-text.ensures.cases.0) spells)))
