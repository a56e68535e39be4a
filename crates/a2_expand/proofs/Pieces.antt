-- The pieces of a text, one after another.
use Rattle.std.proofs.Common.{◌≡◌, ℕ, zero, suc, ◌+◌, ◌-◌, ◌<◌, ◌≤◌, Bool, List, [], ◌∷◌, ◌++◌, Some, None, refl, arith, ap, sym, ◌∙◌, append_assoc}
use Rattle.std.proofs.lemmas.List.{append-nil}
use Rattle.a2_text.specs.Words.{after_blanks}
use Rattle.a2_expand.specs.declared.token.Placed.{Placed}
use Rattle.a2_expand.specs.Expressions.{Piece, piece, pieces}
use Rattle.a2_expand.specs.Pieces.{first_piece, ends_term, pieces_up_to}

one_more : (k : ℕ) (after_term : Bool) (text rest : List ℕ) (p : Piece) → first_piece after_term (after_blanks text) ≡ Some (p, rest)
    → pieces_up_to (suc k) after_term text ≡ p ∷ pieces_up_to k (ends_term p) rest
one_more k after_term text rest p h = rw (h, pieces_up_to) refl

-- the next piece
advance : (n i : ℕ) (after_term : Bool) (text rest : List ℕ) (found all : List Piece) (p : Piece) → i < n
    → first_piece after_term (after_blanks text) ≡ Some (p, rest) → found ++ pieces_up_to (n - i) after_term text ≡ all
    → (found ++ p ∷ []) ++ pieces_up_to (n - (i + 1)) (ends_term p) rest ≡ all
advance n i after_term text rest found all p l h e =
    let k : n - i ≡ suc (n - (i + 1)) = omega arith in
    append_assoc found (p ∷ []) (pieces_up_to (n - (i + 1)) (ends_term p) rest)
    ∙ ap (λ ps. found ++ ps) (sym (ap (λ m. pieces_up_to m after_term text) k ∙ one_more (n - (i + 1)) after_term text rest p h)) ∙ e

no_more : (k : ℕ) (after_term : Bool) (text : List ℕ) → first_piece after_term (after_blanks text) ≡ None → pieces_up_to k after_term text ≡ []
no_more zero after_term text h = refl
no_more (suc k) after_term text h = rw (h, pieces_up_to) refl

-- the end of the text
pub stop : (k : ℕ) (after_term : Bool) (text : List ℕ) (found all : List Piece) → first_piece after_term (after_blanks text) ≡ None
    → found ++ pieces_up_to k after_term text ≡ all → found ≡ all
stop k after_term text found all h e = sym (append-nil found) ∙ ap (λ ps. found ++ ps) (sym (no_more k after_term text h)) ∙ e

pieces_more : (tokens : List Placed) (placed : Placed) → pieces (tokens ++ placed ∷ []) ≡ pieces tokens ++ piece placed.token ∷ []
pieces_more [] placed = refl
pieces_more (token ∷ tokens) placed = ap (λ ps. piece token.token ∷ ps) (pieces_more tokens placed)

-- one token more
pub read_on : (n i : ℕ) (after_term ends : Bool) (text rest : List ℕ) (tokens more : List Placed) (all : List Piece) (placed : Placed) → i < n
    → first_piece after_term (after_blanks text) ≡ Some (piece placed.token, rest) → more ≡ tokens ++ placed ∷ [] → ends ≡ ends_term (piece placed.token)
    → pieces tokens ++ pieces_up_to (n - i) after_term text ≡ all → pieces more ++ pieces_up_to (n - (i + 1)) ends rest ≡ all
read_on n i after_term ends text rest tokens more all placed l h is e before =
    ap (λ ps. pieces ps ++ pieces_up_to (n - (i + 1)) ends rest) is
    ∙ ap (λ ps. ps ++ pieces_up_to (n - (i + 1)) ends rest) (pieces_more tokens placed)
    ∙ ap (λ b. (pieces tokens ++ piece placed.token ∷ []) ++ pieces_up_to (n - (i + 1)) b rest) e
    ∙ advance n i after_term text rest (pieces tokens) all (piece placed.token) l h before

-- as many tokens as bytes
pub used_up : (n i : ℕ) (after_term : Bool) (text : List ℕ) (found all : List Piece) → n ≤ i → found ++ pieces_up_to (n - i) after_term text ≡ all → found ≡ all
used_up n i after_term text found all l e =
    let k : n - i ≡ zero = omega arith in
    sym (append-nil found) ∙ ap (λ ps. found ++ ps) (sym (ap (λ m. pieces_up_to m after_term text) k)) ∙ e
