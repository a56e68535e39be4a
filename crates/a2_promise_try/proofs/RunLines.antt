-- Without the lines about the run, the lines of a text have the same source.
use Rattle.std.specs.Prelude.{◌≡◌, ◌+◌, ◌<◌, ℕ, Bool, true, false, ◌||◌, ◌==◌, List, [], ◌∷◌, ◌++◌, length, map, take, slice_get, Some, None, option_map, Result, Ok, Err, IfOk, refl}
use Rattle.std.specs.List.{All}
use Rattle.std.specs.Borrow.{Bor}
use Rattle.std.proofs.Common.{◌∙◌, ap, subst, inl, inr, get_or}
use Rattle.std.proofs.lemmas.List.{map-append, take_more}
use Rattle.std.proofs.lemmas.Option.{slice_get-map, slice_get-get_or}
use Rattle.a2_text.specs.Bytes.{is_blank}
use Rattle.a2_text.specs.Words.{after_blanks}
use Rattle.a2_syntax.specs.Bare.{BareLine}
use Rattle.a2_syntax.specs.Grammar.{IsLine}
use Rattle.a2_syntax.specs.Pieces.{is_gap, is_over}
use Rattle.a2_syntax.specs.Sources.{AreLines}
use Rattle.a2_syntax.specs.declared.source.Body.TheVariants.{Empty}
use Rattle.a2_syntax.proofs.LineLaws.{IsLine-one}
use Rattle.a2_syntax.proofs.PieceLaws.{Spells-over}
use Rattle.a2_promise.specs.MarkedLines.{Says}
use Rattle.a2_tests.specs.declared.line.NumberedLine.{NumberedLine}
use Rattle.a2_tests.specs.Cases.{CaseLines}
use Rattle.a2_promise_try.specs.RunLines.{AreCasesOf, AreOthers, IsAsked, IsOther, cases_or_none}

abbrev empty : BareLine
empty = record { label = None; body = Empty }

begins_with_gap : (line text : List ℕ) → Says line text → is_gap line ≡ true
begins_with_gap [] text says = refl
begins_with_gap (c ∷ cs) text says = by (is_blank c) refl
  where
    by : (b : Bool) → is_blank c ≡ b → (is_blank c || c == 0x3B) ≡ true
    by true e = rw e refl
    by false e =
        let whole : c ∷ cs ≡ 0x3B ∷ 0x3A ∷ text = rw e at says in
        let first : c ≡ 0x3B = cc in
        rw first refl

blank_or_comment : (line : List ℕ) → is_gap line ≡ true → is_over (after_blanks line) ≡ true → IsLine line empty
blank_or_comment line gap over = inr (line, refl, gap, inl (Spells-over line over, refl), refl)

pub other_lines : (lines others : List (List ℕ)) (source : List BareLine) → AreOthers lines others → AreLines lines source → AreLines others source
other_lines [] [] source o a = a
other_lines [] (other ∷ others) source o a = absurd o
other_lines (line ∷ lines) [] source o a = absurd o
other_lines (line ∷ lines) (other ∷ others) [] o a = absurd a
other_lines (line ∷ lines) (other ∷ others) (read ∷ source) o a = (one o.0, other_lines lines others source o.1 a.1)
  where
    one : IsOther line other → IsLine other read
    one (inl same) = rw same a.0
    one (inr (none, (text, says))) =
        let is : empty ≡ read = IsLine-one line empty read (blank_or_comment line (begins_with_gap line text says) (ap is_over says)) a.0 in
        rw none (subst (λ (line : BareLine). IsLine [] line) is (blank_or_comment [] refl refl))

-- one line more
others_more : (lines others : List (List ℕ)) (line other : List ℕ) → AreOthers lines others
    → IsOther line other → AreOthers (lines ++ line ∷ []) (others ++ other ∷ [])
others_more [] [] line other o is = (is, tt)
others_more [] (x ∷ xs) line other o is = absurd o
others_more (x ∷ xs) [] line other o is = absurd o
others_more (x ∷ xs) (y ∷ ys) line other o is = (o.0, others_more xs ys line other o.1 is)

pub others_next : (refs : List (Bor (List ℕ))) (k : ℕ) (d other : Bor (List ℕ)) (found : List (Bor (List ℕ))) → k < length refs
    → AreOthers (map (λ line. line.now) (take k refs)) (map (λ line. line.now) found) → IsOther (get_or refs k d).now other.now
    → AreOthers (map (λ line. line.now) (take (k + 1) refs)) (map (λ line. line.now) (found ++ other ∷ []))
others_next refs k d other found inside o is =
    let now = λ (line : Bor (List ℕ)). line.now in
    rw (take_more refs k d inside, map-append now (take k refs) (get_or refs k d ∷ []), map-append now found (other ∷ []))
    (others_more _ _ _ _ o is)

pub line_at : (refs : List (Bor (List ℕ))) (k : ℕ) (d : Bor (List ℕ)) → k < length refs
    → slice_get (map (λ line. line.now) refs) k ≡ Some (get_or refs k d).now
line_at refs k d inside =
    let now = λ (line : Bor (List ℕ)). line.now in
    slice_get-map now refs k ∙ ap (option_map now) (slice_get-get_or refs k d inside)

pub cases_told : {T E : Type 0} → (texts : List (List ℕ)) (asked : List NumberedLine) (told : T → List CaseLines) (r : Result T E)
    → All (IsAsked texts) asked → IfOk r (λ cases. told cases ≡ cases_or_none asked) → IfOk r (λ cases. AreCasesOf texts (told cases))
cases_told texts asked told (Ok cases) are is = record { asked = asked; are_asked = are; are_cases = is }
cases_told texts asked told (Err fault) are is = tt
