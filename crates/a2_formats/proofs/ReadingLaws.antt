-- Reading one line after another.
use Rattle.std.proofs.Common.{◌≡◌, ℕ, ◌+◌, ◌-◌, ◌<◌, ◌≤◌, true, false, List, [], ◌∷◌, length, map, get_or, drop, Option, Some, None, Result, Ok, Err, refl, sym, ap, ◌∙◌, subst, arith}
use Rattle.std.specs.Prelude.{IfErr, IsErrAnd}
use Rattle.std.specs.Borrow.{Bor}
use Rattle.std.proofs.lemmas.List.{length-map, get_or-map, drop_more, drop_all}
use Rattle.a2_text.specs.Lines.{lines}
use Rattle.a2_formats.specs.declared.fault.FormatFault.{FormatFault}
use Rattle.a2_formats.specs.declared.fault.FormatFault.TheVariants.{Memory}
use Rattle.a2_formats.specs.declared.reading.Records.{Records}
use Rattle.a2_formats.specs.Reading.{Read, after_line, after_lines, start, whole, image_of}
use Rattle.a2_formats.specs.Laying.{◌>>=◌}

-- what the lines left give, given what their first line gives
pub left-lines : (records : Records) (items : List (Bor (List ℕ))) (i : ℕ) (d : Bor (List ℕ)) (before : Read) {r : Result Read FormatFault} → i < length items → after_line records (i + 1) before (get_or items i d).now ≡ r
    → after_lines records (i + 1) before (drop i (map (λ x. x.now) items)) ≡ (r >>= (λ after. after_lines records (i + 1 + 1) after (drop (i + 1) (map (λ x. x.now) items))))
left-lines records items i d before lt is =
    let now = λ (x : Bor (List ℕ)). x.now in
    let n = length-map items now in
    rw (drop_more (map now items) i [] (omega arith), get_or-map now items i d [] lt, is)

pub left-none : (records : Records) (items : List (Bor (List ℕ))) (i : ℕ) (before : Read) → length items ≤ i → after_lines records (i + 1) before (drop i (map (λ x. x.now) items)) ≡ Ok before
left-none records items i before ge = (let n = length-map items (λ x. x.now) in ap (after_lines records (i + 1) before) (drop_all i (map (λ x. x.now) items) (omega arith)))

-- a result that is this error
pub is-refused : (records : Records) {T : Type 0} (r : Result T FormatFault) (text : List ℕ) (fault : FormatFault) → IsErrAnd r (λ e. e ≡ fault)
    → ((fault ≡ Memory → ⊥) → after_lines records 1 start (lines text) ≡ Err fault) → IfErr r (λ e. (e ≡ Memory → ⊥) → image_of records text ≡ Err e)
is-refused records (Ok x) text fault h is = tt
is-refused records (Err e) text fault h is = λ other. rw (is (λ memory. other (h ∙ memory)), h)
