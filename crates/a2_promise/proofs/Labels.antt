-- The label of a source's line is the name at its start.
use Rattle.std.specs.Prelude.{◌≡◌, ℕ, zero, suc, Bool, true, false, List, [], ◌∷◌, take, drop, slice_get, Option, Some, None, refl}
use Rattle.std.proofs.Common.{ap, sym, ◌∙◌}
use Rattle.std.proofs.lemmas.Bool.{eqb-true}
use Rattle.std.proofs.lemmas.Option.{none-some, same_Some}
use Rattle.a2_syntax.specs.Bare.{BareLine, NoAllocator}
use Rattle.a2_syntax.specs.Grammar.{IsLine}
use Rattle.a2_syntax.specs.Sources.{AreLines}
use Rattle.a2_syntax.specs.Reading.{run_len, is_starred}
use Rattle.a2_syntax.specs.declared.source.Body.{Body}
use Rattle.a2_syntax.proofs.LineLaws.{starred, line-parts, IsLine-one}
use Rattle.a2_promise.specs.PromisedTerms.{label_of, label_or_none, label_in}

no_label : (text : List ℕ) → is_starred text ≡ true → label_of text ≡ []
no_label [] h = refl
no_label (c ∷ cs) h = ap (λ c. label_of (c ∷ cs)) (eqb-true c 42 h)

named : (text : List ℕ) (label : Option (List ℕ)) (body : Body NoAllocator) → is_starred text ≡ false
    → IsLine text (record { label = label; body = body }) → label_of text ≡ label_or_none label
named text None body e h =
    (line-parts text (take (run_len text) text) (drop (run_len text) text) e refl refl (record { label = None; body = body }) h).1
named text (Some name) body e h =
    sym (line-parts text (take (run_len text) text) (drop (run_len text) text) e refl refl (record { label = Some name; body = body }) h).1.0

label_is : (text : List ℕ) (line : BareLine) → IsLine text line → label_of text ≡ label_or_none line.label
label_is text line h = by (is_starred text) refl
  where
    by : (b : Bool) → is_starred text ≡ b → label_of text ≡ label_or_none line.label
    by true e = no_label text e ∙ ap (λ (l : BareLine). label_or_none l.label) (IsLine-one text _ line (starred text e) h)
    by false e = named text line.label line.body e h

pub label_in_source : (texts : List (List ℕ)) (source : List BareLine) (k : ℕ) (text : List ℕ) → AreLines texts source
    → slice_get texts k ≡ Some text → label_of text ≡ label_in source k
label_in_source [] source k text h g = absurd (none-some text g)
label_in_source (t ∷ ts) [] k text h g = absurd h
label_in_source (t ∷ ts) (l ∷ ls) zero text h g = ap label_of (sym (same_Some t text g)) ∙ label_is t l h.0
label_in_source (t ∷ ts) (l ∷ ls) (suc k) text h g = label_in_source ts ls k text h.1 g
