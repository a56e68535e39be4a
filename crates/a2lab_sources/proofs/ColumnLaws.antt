-- What holds of a text in columns holds of a text equal to it.
use Rattle.std.proofs.Common.{◌≡◌, ℕ, List, subst}
use Rattle.a2_stream.specs.Stream.{Taker, Sends, Breaks}
use Rattle.a2_host.specs.Desks.{Files, Saves}
use Rattle.a2_fmt.specs.Formatted.{AreAlike, CanBeFormatted}
use Rattle.a2_fmt.specs.Layout.{laid}

pub can_be_laid : (text out : List ℕ) → out ≡ laid text → AreAlike text out → laid out ≡ out → CanBeFormatted text
can_be_laid text out is same settled = (subst (AreAlike text) is same, subst (λ o. laid o ≡ o) is settled)

pub sends_laid : (text out : List ℕ) (old new : Taker) → out ≡ laid text → Sends old new out → Sends old new (laid text)
sends_laid text out old new is sends = subst (Sends old new) is sends

pub breaks_laid : (text out : List ℕ) (old new : Taker) → out ≡ laid text → Breaks old new out → Breaks old new (laid text)
breaks_laid text out old new is breaks = subst (Breaks old new) is breaks

pub saves_laid : (name text out : List ℕ) (old new : Files) → out ≡ laid text → Saves name out old new → Saves name (laid text) old new
saves_laid name text out old new is saves = subst (λ o. Saves name o old new) is saves
