-- The rows of a listing, one after another.
use Rattle.std.proofs.Common.{◌≡◌, ℕ, zero, suc, ◌+◌, ◌-◌, ◌<◌, ◌≤◌, min, codes, append_assoc, drop_of_length-le, List, [], ◌∷◌, ◌++◌, length, map, drop, get_or, slice_get, option_map, Option, Some, None, Bool, Result, refl, sym, ap, ◌∙◌, subst, arith}
use Rattle.std.proofs.lemmas.List.{length-map, get_or-map, drop_more}
use Rattle.std.proofs.lemmas.Option.{get_or_from_slice_get, slice_get-map, slice_get_within}
use Rattle.std.specs.Borrow.{Bor}
use Rattle.a2_stream.specs.Stream.{Taker, SendsOrBreaks}
use Rattle.a2_stream.proofs.Joined.{went_on}
use Rattle.a2_page.proofs.Sending.{IsLeft}
use Rattle.a2_asm.specs.declared.program.Statement.{Statement}
use Rattle.a2_asm.specs.Values.{Names}
use Rattle.a2_text.specs.Digits.{hex_word}
use Rattle.a2_list.specs.Listing.{columns, bytes_row, more_rows, rows_of_line, statement_of_line, rows_after_line, listing_rows, name_row, name_rows}

pub more-none : (image : ℕ → Option ℕ) (a n left : ℕ) → image a ≡ None → more_rows image a n left ≡ []
more-none image a n zero h = refl
more-none image a n (suc left) h = rw h refl

pub more-over : (image : ℕ → Option ℕ) (a n left : ℕ) → left ≡ 0 → more_rows image a n left ≡ []
more-over image a n left h = ap (more_rows image a n) h

pub more-next : (image : ℕ → Option ℕ) (a n left byte : ℕ) → image a ≡ Some byte → 0 < left
    → more_rows image a n left ≡ bytes_row (columns image (a + 3) (min (n - 3) 3)) ++ more_rows image (a + 3) (n - 3) (left - 1)
more-next image a n zero byte h some = absurd (omega arith)
more-next image a n (suc left) byte h some =
    let one : suc left - 1 ≡ left = omega arith in
    rw (h, one) refl

-- the rows from a line on
pub rows-next : (cycles : Bool) (image : ℕ → Option ℕ) (statements : List Statement) (n i : ℕ) (items : List (Bor (List ℕ))) (d : Bor (List ℕ)) (own : Option Statement) (later : List Statement)
    → own ≡ statement_of_line n statements → later ≡ rows_after_line n statements → i < length items
    → listing_rows cycles image statements n (drop i (map (λ x. x.now) items))
    ≡ rows_of_line cycles image own n (get_or items i d).now ++ listing_rows cycles image later (n + 1) (drop (i + 1) (map (λ x. x.now) items))
rows-next cycles image statements n i items d own later is_own is_later low =
    let now = λ (x : Bor (List ℕ)). x.now in
    let count = length-map items now in
    let rest = drop (i + 1) (map now items) in
    ap (λ (texts : List (List ℕ)). listing_rows cycles image statements n texts)
    (drop_more (map now items) i [] (omega (arith, count, low)) ∙ ap (λ (line : List ℕ). line ∷ rest) (get_or-map now items i d [] low))
    ∙ ap (λ (o : Option Statement). rows_of_line cycles image o n (get_or items i d).now ++ listing_rows cycles image (rows_after_line n statements) (n + 1) rest) (sym is_own)
    ∙ ap (λ (l : List Statement). rows_of_line cycles image own n (get_or items i d).now ++ listing_rows cycles image l (n + 1) rest) (sym is_later)

-- the same, with the empty line after all of them
pub gap-next : (cycles : Bool) (image : ℕ → Option ℕ) (statements : List Statement) (n i : ℕ) (items : List (Bor (List ℕ))) (d : Bor (List ℕ)) (own : Option Statement) (later : List Statement)
    → own ≡ statement_of_line n statements → later ≡ rows_after_line n statements → i < length items
    → listing_rows cycles image statements n (drop i (map (λ x. x.now) items)) ++ codes "\n"
    ≡ rows_of_line cycles image own n (get_or items i d).now ++ (listing_rows cycles image later (n + 1) (drop (i + 1) (map (λ x. x.now) items)) ++ codes "\n")
gap-next cycles image statements n i items d own later is_own is_later low =
    ap (λ (l : List ℕ). l ++ codes "\n") (rows-next cycles image statements n i items d own later is_own is_later low)
    ∙ append_assoc (rows_of_line cycles image own n (get_or items i d).now) (listing_rows cycles image later (n + 1) (drop (i + 1) (map (λ x. x.now) items))) (codes "\n")

pub gap-over : (cycles : Bool) (image : ℕ → Option ℕ) (statements : List Statement) (n i : ℕ) (items : List (Bor (List ℕ))) → length items ≤ i
    → listing_rows cycles image statements n (drop i (map (λ x. x.now) items)) ++ codes "\n" ≡ codes "\n"
gap-over cycles image statements n i items over =
    let now = λ (x : Bor (List ℕ)). x.now in
    let count = length-map items now in
    ap (λ (l : List (List ℕ)). listing_rows cycles image statements n l ++ codes "\n") (drop_of_length-le (map now items) (omega (arith, count, over)))

-- the entry at an index of a map, seen through another form of it
pub entry-at : {X Y Z : Type 0} (see : X → Y) (f : Y → Z) (found : Option X) (x : X) (ys : List Y) (i : ℕ) → option_map see found ≡ slice_get ys i → found ≡ Some x
    → slice_get (map f ys) i ≡ Some (f (see x))
entry-at see f found x ys i lookup is = slice_get-map f ys i ∙ ap (option_map f) (sym lookup ∙ ap (option_map see) is)

-- the names from one on
pub names-next : (names : Names) (i : ℕ) (entry : List ℕ × ℕ) → slice_get names i ≡ Some entry
    → name_rows (drop i names) ≡ name_row (hex_word entry.1) entry.0 ++ name_rows (drop (i + 1) names)
names-next names i entry is =
    ap (λ (l : Names). name_rows l) (drop_more names i entry (slice_get_within names i entry is))
    ∙ ap (λ (e : List ℕ × ℕ). name_row (hex_word e.1) e.0 ++ name_rows (drop (i + 1) names)) (get_or_from_slice_get names i entry entry is)

-- the last part was written, or broke off, as the result says
pub left_last : {T E : Type 0} → (a b c : Taker) (r : Result T E) (whole rest part : List ℕ) → rest ≡ part → IsLeft a b whole rest
    → SendsOrBreaks b c r part → SendsOrBreaks a c r whole
left_last a b c r whole rest part is h p =
    subst (SendsOrBreaks a c r) (ap (λ (l : List ℕ). h.sent ++ l) (sym is) ∙ h.parts) (went_on a b c r h.sent part h.sends p)
