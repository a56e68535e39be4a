-- The loops over the lines of a text.
use Rattle.std.proofs.Common.{◌≡◌, ℕ, ◌+◌, ◌<◌, ◌≤◌, List, [], ◌∷◌, ◌++◌, length, take, drop, sym, ap, ◌∙◌, arith, None, Bor, get_or}
use Rattle.std.specs.List.{All}
use Rattle.std.proofs.lemmas.Bool.Decides.{nat_tests}
use Rattle.std.proofs.lemmas.List.{at_drop_more, take-append-drop, map-append, length-take, length-map}
use Rattle.std.proofs.lemmas.List.Elements.{All-nil, All-cons}
use Rattle.a2_text.specs.FirstError.{first_line_error}
use Rattle.a2_syntax.specs.Limits.{long_line_error}
use Rattle.a2_syntax.specs.Relations.{Finds}
use Rattle.a2_syntax.specs.Grammar.{IsLine}
use Rattle.a2_syntax.specs.Bare.{bare, bare_line}
use Rattle.a2_syntax.specs.Sources.{AreLines, IsFirstBadLine}
use Rattle.a2_syntax.specs.declared.source.Line.{Line}
use Rattle.a2_syntax.proofs.BareLaws.{IsLine-bare, AreLines-bare}
use Rattle.a2_syntax.proofs.ExprLaws.{now, no_piece}

pub lines-push : {A : Type 0} (texts : List (List ℕ)) (lines : List (Line A)) (text : List ℕ) (line : Line A) → AreLines texts lines → IsLine text line
    → AreLines (texts ++ text ∷ []) (lines ++ line ∷ [])
lines-push [] [] text line h is = (is, tt)
lines-push (t ∷ ts) (l ∷ ls) text line h is = (h.0, lines-push ts ls text line h.1 is)
lines-push _ _ text line h is = absurd h

-- if all earlier lines are read and this one cannot be, it is the first such line
pub first-unread : {A : Type 0} (texts : List (Bor (List ℕ))) (i : ℕ) (parsed : List (Line A)) → i < length texts → AreLines (now (take i texts)) parsed
    → Finds (IsLine {A = A} (get_or texts i no_piece).now) None → IsFirstBadLine (now texts) (i + 1)
first-unread texts i parsed lt read none = (
  now (take i texts),
  (get_or texts i no_piece).now,
  now (drop (i + 1) texts),
  ap now (sym (take-append-drop i texts)) ∙ map-append _ (take i texts) (drop i texts) ∙ ap (λ z. now (take i texts) ++ z) (at_drop_more now texts i no_piece lt),
  omega (arith, length-map (take i texts) (λ x. x.now), length-take i texts),
  (bare parsed, AreLines-bare (Unit {0}) (now (take i texts)) parsed read),
  λ line is. none (bare_line line) (IsLine-bare _ _ line is),
)

-- no line is too long
pub none-long : (n : ℕ) (found : List (Bor (List ℕ))) → first_line_error long_line_error n (now found) ≡ None → All (λ x. length x.now ≤ 255) found
none-long n [] h = All-nil (λ (x : Bor (List ℕ)). length x.now ≤ 255)
none-long n (x ∷ more) h = All-cons (λ (y : Bor (List ℕ)). length y.now ≤ 255) x more (grind (arith, nat_tests, h)) (none-long (n + 1) more (grind (arith, nat_tests, h)))
