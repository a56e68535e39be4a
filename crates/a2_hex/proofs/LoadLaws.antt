-- Loading one line after another.
use Rattle.std.proofs.Common.{◌≡◌, ℕ, ◌+◌, ◌-◌, ◌<◌, ◌≤◌, true, false, List, [], ◌∷◌, length, map, get_or, drop, Option, Some, None, Result, Ok, Err, refl, sym, ap, ◌∙◌, subst, arith}
use Rattle.std.specs.Prelude.{IfSome, IfErr, IsErrAnd, unwrap_or}
use Rattle.std.specs.Borrow.{Bor}
use Rattle.std.specs.Option.{option_map, option_or}
use Rattle.std.proofs.lemmas.Bool.Decides.{nat_tests}
use Rattle.std.proofs.lemmas.List.{length-map, get_or-map, drop_more, drop_all}
use Rattle.std.proofs.lemmas.Option.{same_Some}
use Rattle.a2_text.specs.Lines.{lines}
use Rattle.a2_text.specs.Words.{words}
use Rattle.a2_hex.specs.declared.fault.HexFault.{HexFault}
use Rattle.a2_hex.specs.declared.fault.HexFault.TheVariants.{Memory}
use Rattle.a2_hex.specs.Images.{no_bytes, ram_end}
use Rattle.a2_hex.specs.ObjectLines.{Store, store_of, Loaded, lies_outside, after_bytes, after_store_line, after_line, after_lines, image_of, ◌>>=◌}

-- the bytes after the first one
pub bytes_after : (o p : Option (List ℕ)) (byte : ℕ) (xs : List ℕ) → o ≡ option_map (λ others. byte ∷ others) p → o ≡ Some xs → (ys : List ℕ) × (p ≡ Some ys) × (xs ≡ byte ∷ ys)
bytes_after o None byte xs e h = cc
bytes_after o (Some ys) byte xs e h = (ys, refl, same_Some xs (byte ∷ ys) (sym h ∙ e))

pub bytes_over : (o : Option (List ℕ)) (xs : List ℕ) → IfSome o (λ bytes. bytes ≡ []) → o ≡ Some xs → xs ≡ []
bytes_over o xs h e = (let P : Option (List ℕ) → Type 0 = λ p. IfSome p (λ bytes. bytes ≡ []) in subst P e h)

pub inside : (at count : ℕ) → count ≤ ram_end - at → lies_outside at count ≡ false
inside at count h = grind (arith, nat_tests)

pub outside : (at count : ℕ) → ram_end - at < count → lies_outside at count ≡ true
outside at count h = grind (arith, nat_tests)

-- what a line that is not blank does, given what it stores
pub after-store : (n : ℕ) (before : Loaded) (line : List ℕ) {word : List ℕ} {others : List (List ℕ)} {store : Option Store} → words line ≡ word ∷ others → store_of line ≡ store
    → after_line n before line ≡ after_store_line n before store
unfolding after_line
after-store n before line {word = word} {others = others} w is =
    let some : 0 < length (word ∷ others) = omega arith in
    rw (w, is) (grind (arith, nat_tests))

-- the same, if the line's bytes were counted
pub after-counted : (line : List ℕ) {word : List ℕ} {others : List (List ℕ)} (given : Option ℕ) {o : Option (List ℕ)} {count : ℕ} → words line ≡ word ∷ others
    → store_of line ≡ option_map (λ bytes. record { address = given; bytes = bytes }) o → option_map length o ≡ Some count
    → (o ≡ Some (unwrap_or o [])) × (length (unwrap_or o []) ≡ count)
    × ((n : ℕ) (image : ℕ → Option ℕ) (next : Option ℕ) → after_line n (record { image = image; next = next }) line ≡ after_bytes n image (option_or given next) (unwrap_or o []))
after-counted line given {o = None} w is e = cc
after-counted line None {o = Some xs} w is e = (refl, cc, λ n image next. after-store n _ line w is)
after-counted line (Some at) {o = Some xs} w is e = (refl, cc, λ n image next. after-store n _ line w is)

-- the bytes left are one byte and then others, so the next address is below the end of RAM
pub next-below : (at all next : ℕ) (left others : List ℕ) (byte : ℕ) → lies_outside at all ≡ false → left ≡ byte ∷ others → next + length left ≡ at + all → at ≤ next → next < ram_end
next-below at all next left others byte h is sums le = grind (arith, nat_tests, ap length is)

-- what the lines left load, given their first line
pub left-lines : (items : List (Bor (List ℕ))) (i : ℕ) (d : Bor (List ℕ)) (before : Loaded) {r : Result Loaded HexFault} → i < length items → after_line (i + 1) before (get_or items i d).now ≡ r
    → after_lines (i + 1) before (drop i (map (λ x. x.now) items)) ≡ (r >>= (λ after. after_lines (i + 1 + 1) after (drop (i + 1) (map (λ x. x.now) items))))
left-lines items i d before lt is =
    let now = λ (x : Bor (List ℕ)). x.now in
    let n = length-map items now in
    rw (drop_more (map now items) i [] (omega arith), get_or-map now items i d [] lt, is)

pub left-none : (items : List (Bor (List ℕ))) (i : ℕ) (before : Loaded) → length items ≤ i → after_lines (i + 1) before (drop i (map (λ x. x.now) items)) ≡ Ok before
left-none items i before ge = (let n = length-map items (λ x. x.now) in ap (after_lines (i + 1) before) (drop_all i (map (λ x. x.now) items) (omega arith)))

-- a result that is this error
pub is-refused : {T : Type 0} (r : Result T HexFault) (text : List ℕ) (fault : HexFault) → IsErrAnd r (λ e. e ≡ fault) → after_lines 1 (record { image = no_bytes; next = None }) (lines text) ≡ Err fault
    → IfErr r (λ e. (e ≡ Memory → ⊥) → image_of text ≡ Err e)
is-refused (Ok x) text fault h is = tt
is-refused (Err e) text fault h is = λ _. rw (is, h)
