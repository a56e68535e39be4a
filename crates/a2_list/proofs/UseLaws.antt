-- The names of a source and the lines that use them, one after another.
use Rattle.std.proofs.Common.{◌≡◌, ℕ, ◌+◌, ◌<◌, ◌≤◌, drop_of_length-le, nat_lt, Bool, true, false, cond, not, ◌||◌, List, [], ◌∷◌, ◌++◌, length, map, take, drop, get_or, slice_get, Bor, Some, None, unwrap_or, codes, if◌then◌else◌, append_assoc, refl, sym, ap, ◌∙◌, arith}
use Rattle.std.proofs.Math.Path.{ap₂}
use Rattle.std.specs.Cmp.Lexicographic.{slice_cmp}
use Rattle.std.specs.Fmt.{decimal}
use Rattle.std.specs.List.{flat_map, list_any, prefix_len}
use Rattle.std.specs.List.Sorted.{IsSorted}
use Rattle.std.specs.Option.{option_map_or}
use Rattle.std.specs.Ordering.{is_lt, nat_cmp}
use Rattle.std.proofs.lemmas.List.{drop_more, take_more, map-append, length-map, get_or-map}
use Rattle.std.proofs.lemmas.Option.{get_or_from_slice_get, slice_get_within}
use Rattle.a2_syntax.specs.declared.source.Term.{Term}
use Rattle.a2_syntax.specs.declared.source.Term.TheVariants.{Number, Named, Here}
use Rattle.a2_syntax.specs.declared.source.Signed.{Signed}
use Rattle.a2_syntax.specs.declared.source.Expr.{Expr}
use Rattle.a2_syntax.specs.declared.source.Operand.{Operand}
use Rattle.a2_syntax.specs.declared.source.Operand.TheVariants as forms
use Rattle.a2_syntax.specs.declared.source.Body.{Body}
use Rattle.a2_syntax.specs.declared.source.Body.TheVariants.{Empty, Instr, Org, Equ, Dfb, Dw, Asc, Ds}
use Rattle.a2_syntax.specs.declared.source.Line.{Line}
use Rattle.a2_syntax.specs.Bare.{NoAllocator, bare_term, bare_signed, bare_expr, bare_operand, bare_body, bare_line, bare}
use Rattle.a2_asm.specs.Values.{Names, name_value}
use Rattle.a2_list.specs.Uses.{is_named, is_in, is_in_operand, is_used_by, is_used_in, uses, is_label, definition}
use Rattle.a2_list.specs.NameTable.{width_of, number, numbers, use_columns, use_row, use_head, use_table}

-- the uses from a line on
pub uses-next : {A : Type 0} (name : List ℕ) (n i : ℕ) (lines : List (Line A)) (line : Line A) (used : Bool) → line ≡ get_or lines i line
    → used ≡ is_used_in name line → i < length lines
    → uses name n (drop i lines) ≡ (if used then n ∷ uses name (n + 1) (drop (i + 1) lines) else uses name (n + 1) (drop (i + 1) lines))
uses-next name n i lines line used item is low =
    ap (λ l. uses name n l) (drop_more lines i line low)
    ∙ ap (λ l. uses name n (l ∷ drop (i + 1) lines)) (sym item)
    ∙ ap (λ (b : Bool). if b then n ∷ uses name (n + 1) (drop (i + 1) lines) else uses name (n + 1) (drop (i + 1) lines)) (sym is)

-- what is left to write of uses, if some were written or none, and the end of the row
abbrev pub rest_of : Bool → List ℕ → List ℕ
rest_of some ns = (if some then flat_map number ns else numbers ns) ++ codes "\n"

pub rest-next : (some : Bool) (n : ℕ) (ns : List ℕ) → rest_of some (n ∷ ns) ≡ number n ++ rest_of true ns
rest-next true n ns = append_assoc (number n) (flat_map number ns) (codes "\n")
rest-next false n ns = append_assoc (number n) (flat_map number ns) (codes "\n")

pub rest-over : {A : Type 0} (some : Bool) (name : List ℕ) (n i : ℕ) (lines : List (Line A)) → length lines ≤ i
    → rest_of some (uses name n (drop i lines)) ≡ rest_of some []
rest-over some name n i lines over = ap (λ l. rest_of some (uses name n l)) (drop_of_length-le lines over)

-- the names so far, and the next
pub found-next : (names : Names) (i : ℕ) (entry : List ℕ × ℕ) (items : List (Bor (List ℕ))) (next : Bor (List ℕ)) → slice_get names i ≡ Some entry → next.now ≡ entry.0
    → map (λ x. x.now) items ≡ map (λ e. e.0) (take i names)
    → map (λ x. x.now) (items ++ next ∷ []) ≡ map (λ e. e.0) (take (i + 1) names)
found-next names i entry items next is same h =
    map-append (λ x. x.now) items (next ∷ [])
    ∙ ap (λ l. l ++ next.now ∷ []) h
    ∙ ap (λ name. map (λ e. e.0) (take i names) ++ name ∷ []) (same ∙ ap (λ e. e.0) (sym (get_or_from_slice_get names i entry entry is)))
    ∙ sym (map-append (λ e. e.0) (take i names) (get_or names i entry ∷ []))
    ∙ ap (map (λ e. e.0)) (sym (take_more names i entry (slice_get_within names i entry is)))

-- the rows of an order, from one on
pub ordered-next : (f : List ℕ → List ℕ) (items : List (Bor (List ℕ))) (i : ℕ) (d : Bor (List ℕ)) → i < length items
    → flat_map f (drop i (map (λ x. x.now) items)) ≡ f (get_or items i d).now ++ flat_map f (drop (i + 1) (map (λ x. x.now) items))
ordered-next f items i d low =
    let now = λ (x : Bor (List ℕ)). x.now in
    let count = length-map items now in
    ap (flat_map f) (drop_more (map now items) i [] (omega (arith, count, low)))
    ∙ ap (λ name. f name ++ flat_map f (drop (i + 1) (map now items))) (get_or-map now items i d [] low)

pub ordered-over : (f : List ℕ → List ℕ) (items : List (Bor (List ℕ))) (i : ℕ) → length items ≤ i → flat_map f (drop i (map (λ x. x.now) items)) ≡ []
ordered-over f items i over =
    let now = λ (x : Bor (List ℕ)). x.now in
    let count = length-map items now in
    ap (flat_map f) (drop_of_length-le (map now items) (omega (arith, count, over)))

-- what sorts references sorts what they point to
pub sorted-texts : (items : List (Bor (List ℕ))) → IsSorted (λ x y. slice_cmp nat_cmp x.now y.now) items → IsSorted (slice_cmp nat_cmp) (map (λ x. x.now) items)
sorted-texts [] h = λ k d low below. absurd (omega (arith, below))
sorted-texts (x ∷ xs) h = λ k d low below.
    let now = λ (x : Bor (List ℕ)). x.now in
    let count = length-map (x ∷ xs) now in
    let second : k + 1 < length (x ∷ xs) = omega (arith, count, below) in
    let first : k < length (x ∷ xs) = omega (arith, second) in
    ap₂ (λ a b. is_lt (slice_cmp nat_cmp a b)) (get_or-map now (x ∷ xs) (k + 1) x d second) (get_or-map now (x ∷ xs) k x d first) ∙ h k x low second

-- Lines without their allocator use the same names.

named-bare : {A : Type 0} (name : List ℕ) (t : Term A) → is_named name (bare_term {B = NoAllocator} t) ≡ is_named name t
named-bare name (Number n) = refl
named-bare name (Named other) = refl
named-bare name Here = refl

terms-bare : {A : Type 0} (name : List ℕ) (ts : List (Signed A)) → list_any (λ t. is_named name t.term) (map (bare_signed {B = NoAllocator}) ts) ≡ list_any (λ t. is_named name t.term) ts
terms-bare name [] = refl
terms-bare name (t ∷ ts) = ap₂ (λ a b. a || b) (named-bare name t.term) (terms-bare name ts)

in-bare : {A : Type 0} (name : List ℕ) (e : Expr A) → is_in name (bare_expr {B = NoAllocator} e) ≡ is_in name e
in-bare name e = terms-bare name e.terms

any-bare : {A : Type 0} (name : List ℕ) (es : List (Expr A)) → list_any (is_in name) (map (bare_expr {B = NoAllocator}) es) ≡ list_any (is_in name) es
any-bare name [] = refl
any-bare name (e ∷ es) = ap₂ (λ a b. a || b) (in-bare name e) (any-bare name es)

operand-bare : {A : Type 0} (name : List ℕ) (o : Operand A) → is_in_operand name (bare_operand {B = NoAllocator} o) ≡ is_in_operand name o
operand-bare name forms.Nothing = refl
operand-bare name forms.Accumulator = refl
operand-bare name (forms.Immediate e) = in-bare name e
operand-bare name (forms.Plain e) = in-bare name e
operand-bare name (forms.WithX e) = in-bare name e
operand-bare name (forms.WithY e) = in-bare name e
operand-bare name (forms.InParenthesesX e) = in-bare name e
operand-bare name (forms.ParenthesesY e) = in-bare name e
operand-bare name (forms.InParentheses e) = in-bare name e

body-bare : {A : Type 0} (name : List ℕ) (body : Body A) → is_used_by name (bare_body {B = NoAllocator} body) ≡ is_used_by name body
body-bare name Empty = refl
body-bare name (Instr m o) = operand-bare name o
body-bare name (Org e) = in-bare name e
body-bare name (Equ e) = in-bare name e
body-bare name (Dfb es) = any-bare name es
body-bare name (Dw es) = any-bare name es
body-bare name (Asc bytes) = refl
body-bare name (Ds e) = in-bare name e

uses-bare : {A : Type 0} (name : List ℕ) (n : ℕ) (lines : List (Line A)) → uses name n (bare lines) ≡ uses name n lines
uses-bare name n [] = refl
uses-bare name n (line ∷ lines) = ap₂ (λ b ns. if b then n ∷ ns else ns) (body-bare name line.body) (uses-bare name (n + 1) lines)

front-bare : {A : Type 0} (name : List ℕ) (lines : List (Line A)) → prefix_len (λ line. not (is_label name line.label)) (bare lines) ≡ prefix_len (λ line. not (is_label name line.label)) lines
front-bare name [] = refl
front-bare name (line ∷ lines) = ap (λ n. cond (not (is_label name line.label)) (1 + n) 0) (front-bare name lines)

definition-bare : {A : Type 0} (name : List ℕ) (lines : List (Line A)) → definition name (bare lines) ≡ definition name lines
definition-bare name lines =
    ap₂ (λ i n. option_map_or (λ index. index + 1) (cond (nat_lt i n) (Some i) None) 0) (front-bare name lines) (length-map lines (bare_line {B = NoAllocator}))

row-bare : {A : Type 0} (width : ℕ) (names : Names) (lines : List (Line A)) (name : List ℕ) → use_row width names (bare lines) name ≡ use_row width names lines name
row-bare width names lines name =
    ap₂ (λ line ns. use_columns width name (unwrap_or (name_value names name) 0) (decimal line) ++ (numbers ns ++ codes "\n"))
    (definition-bare name lines) (uses-bare name 1 lines)

pub table-bare : {A : Type 0} (names : Names) (lines : List (Line A)) (order : List (List ℕ)) → use_table names (bare lines) order ≡ use_table names lines order
table-bare names lines order = λ i. use_head (width_of order) ++ flat_map (λ name. row-bare (width_of order) names lines name i) order
