-- A recursive reader of source texts. For any text that it reads, one computation proves that the lines it finds are
-- the lines of the text. No code uses it; it serves proofs about given texts.
use Rattle.std.specs.List.{list_all}
use Rattle.std.proofs.Common.{sym, ap, ◌∙◌, subst, inl, inr, ◌≡◌, ℕ, suc, zero, nat_lt, ◌==◌, true, false, List, [], ◌∷◌, ◌++◌, length, map, take, drop, codes, Option, Some, None, option_map, is_some, refl}
use Rattle.std.specs.Str.{bytes_eq}
use Rattle.std.proofs.lemmas.Bool.{eqb-true, ltb-true}
use Rattle.std.proofs.lemmas.Option.{none-some, same_Some}
use Rattle.std.proofs.lemmas.Slice.Eq.{bytes_eq-Decides}
use Rattle.std.proofs.lemmas.List.{take-append-drop}
use Rattle.std.proofs.lemmas.List.Sums.{AllPass-from_list_all}
use Rattle.a2_text.specs.Bytes.{capital}
use Rattle.a2_text.specs.Lines.{lines}
use Rattle.a2_text.specs.Words.{after_blanks}
use Rattle.a2_opcode.specs.Table.{table}
use Rattle.a2_opcode.specs.declared.Mnemonic.{Mnemonic}
use Rattle.a2_syntax.specs.Bare.{BareLine}
use Rattle.a2_syntax.specs.Names.{is_name}
use Rattle.a2_syntax.specs.Numbers.{number, is_quote, is_quotable, code_in}
use Rattle.a2_syntax.specs.Pieces.{is_gap, is_over, Spells}
use Rattle.a2_syntax.specs.Limits.{size_error}
use Rattle.a2_syntax.specs.Reading.{run_len, piece_len, is_byte, part_of, is_starred}
use Rattle.a2_syntax.specs.Shapes.{of_shape, is_accumulator, shape_of}
use Rattle.a2_syntax.specs.Words.{letters_of}
use Rattle.a2_syntax.specs.Grammar.{IsTerm, IsSign, AreMoreTerms, AreTerms, IsExpr, AreExprs, IsOperand, is_shift, IsOperandOf, IsText, IsOperation, IsBody, IsLabelled, has_needed_label, IsLine}
use Rattle.a2_syntax.specs.Sources.{AreLines, IsSource}
use Rattle.a2_syntax.specs.declared.operation.Operation.{Operation}
use Rattle.a2_syntax.specs.declared.operation.Operation.TheVariants as operations
use Rattle.a2_syntax.specs.declared.source.Term.TheVariants.{Number, Named, Here}
use Rattle.a2_syntax.specs.declared.source.Expr.{Expr}
use Rattle.a2_syntax.specs.declared.source.Operand.TheVariants.{Nothing, Accumulator}
use Rattle.a2_syntax.specs.declared.source.Body.TheVariants.{Empty, Instr, Org, Equ, Dfb, Dw, Asc, Ds}
use Rattle.a2_syntax.proofs.NameLaws.{directives}
use Rattle.a2_syntax.proofs.PieceLaws.{Spells-over, Spells-more}
use Rattle.a2_syntax.proofs.ExprLaws.{part-is, byte-is}
use Rattle.a2_syntax.proofs.OperandLaws.{accumulator-is, shape-operand}
use Rattle.a2_syntax.proofs.BodyLaws.{operand_of-to}
use Rattle.a2_syntax.proofs.LineLaws.{HasOperation-from, starred}
use Rattle.a2_syntax.proofs.Deciding.{Found, tested, where_so, told, and_then, or_else}

pub some : {X : Type 0} (x : X) (xs : List X) → x ∷ xs ≡ [] → ⊥
some x xs e = cc

-- Pieces

-- the pieces of a text, at most this many
abbrev pub read_pieces : (most : ℕ) (text : List ℕ) → Found (Spells text)
read_pieces zero text = where_so (is_over (after_blanks text)) (λ h. Some ([], Spells-over text h))
read_pieces (suc most) text =
    tested (is_over (after_blanks text)) (λ h. Some ([], Spells-over text h))
    (λ _. where_so (nat_lt 0 (piece_len (after_blanks text))) (λ some.
    and_then (read_pieces most (drop (piece_len (after_blanks text)) (after_blanks text)))
    (λ (more, is). Some (take (piece_len (after_blanks text)) (after_blanks text) ∷ more, Spells-more text (after_blanks text) more refl (ltb-true 0 _ some) is))))

-- Expressions

abbrev pub read_term : {A : Type 0} (piece : List ℕ) → Found (IsTerm {A = A} piece)
read_term piece =
    or_else (where_so (is_byte 42 piece) (λ h. Some (Here, byte-is 42 piece h)))
    (told (number piece) (λ n e. Some (Number n, e)) (λ _. where_so (is_name piece) (λ h. Some (Named piece, (refl, h)))))

abbrev pub read_sign : (piece : List ℕ) → Found (IsSign piece)
read_sign piece =
    or_else (where_so (is_byte 43 piece) (λ h. Some (false, byte-is 43 piece h))) (where_so (is_byte 45 piece) (λ h. Some (true, byte-is 45 piece h)))

abbrev pub read_more : {A : Type 0} (pieces : List (List ℕ)) → Found (AreMoreTerms {A = A} pieces)
read_more [] = Some ([], refl)
read_more (sign ∷ []) = None
read_more (sign ∷ piece ∷ more) =
    and_then (read_sign sign) (λ (minus, signed). and_then (read_term piece) (λ (term, named). and_then (read_more more)
    (λ (others, are). Some (record { minus = minus; term = term } ∷ others, (sign, piece, more, refl, signed, named, are)))))

abbrev pub read_terms : {A : Type 0} (pieces : List (List ℕ)) → Found (AreTerms {A = A} pieces)
read_terms [] = None
read_terms (piece ∷ more) =
    and_then (read_term piece) (λ (term, named). and_then (read_more more)
    (λ (others, are). Some (record { minus = false; term = term } ∷ others, (piece, more, refl, refl, named, are))))

abbrev pub read_expr : {A : Type 0} (pieces : List (List ℕ)) → Found (IsExpr {A = A} pieces)
read_expr pieces =
    and_then (read_terms (part_of pieces).1)
    (λ (terms, are). Some (record { part = (part_of pieces).0; terms = terms }, ((part_of pieces).1, part-is pieces, are)))

-- pieces cut at their first comma
abbrev pub read_cut : (pieces : List (List ℕ)) → Option ((front back : List (List ℕ)) × (pieces ≡ front ++ codes "," ∷ back))
read_cut [] = None
read_cut (piece ∷ more) =
    tested (is_byte 44 piece) (λ h. Some ([], more, ap (λ p. p ∷ more) (byte-is 44 piece h)))
    (λ _. and_then (read_cut more) (λ (front, back, e). Some (piece ∷ front, back, ap (λ ps. piece ∷ ps) e)))

-- expressions separated by commas, at most this many
abbrev pub read_exprs : {A : Type 0} (most : ℕ) (pieces : List (List ℕ)) → Found (AreExprs {A = A} pieces)
read_exprs zero pieces = None
read_exprs {A} (suc most) pieces =
    told (read_cut pieces)
    (λ (front, back, e) _. and_then (read_expr front) (λ (first, is). and_then (read_exprs most back) (λ (others, are). longer front back e first is others are)))
    (λ _. and_then (read_expr pieces) (λ (only, is). Some (only ∷ [], is)))
  where
    longer : (front back : List (List ℕ)) → pieces ≡ front ++ codes "," ∷ back → (first : Expr A) → IsExpr front first
        → (others : List (Expr A)) → AreExprs back others → Found (AreExprs {A = A} pieces)
    longer front back e first is [] are = absurd are
    longer front back e first is (next ∷ more) are = Some (first ∷ next ∷ more, (front, back, e, is, are))

-- Operands

-- an operand that is not empty
abbrev pub read_operand : {A : Type 0} (pieces : List (List ℕ)) → Found (IsOperand {A = A} pieces)
read_operand pieces =
    tested (is_accumulator pieces) (λ h. Some (Accumulator, accumulator-is pieces h))
    (λ _. and_then (read_expr (shape_of pieces).1) (λ (e, is). Some (of_shape (shape_of pieces).0 e, shape-operand pieces e is)))

-- a shift without an operand uses the accumulator
abbrev pub read_operand_of : {A : Type 0} (m : Mnemonic) (pieces : List (List ℕ)) → Found (IsOperandOf {A = A} m pieces)
read_operand_of m [] = tested (is_shift m) (λ h. Some (Accumulator, inr (h, refl))) (λ h. Some (Nothing, (h, refl)))
read_operand_of m (piece ∷ more) = and_then (read_operand (piece ∷ more)) (λ (operand, is). Some (operand, operand_of-to m (piece ∷ more) (λ _ e. some piece more e) operand is))

-- the bytes before a last byte
abbrev pub read_last : (last : ℕ) (bytes : List ℕ) → Option ((front : List ℕ) × (bytes ≡ front ++ last ∷ []))
read_last last [] = None
read_last last (c ∷ []) = where_so (c == last) (λ h. Some ([], ap (λ z. z ∷ []) (eqb-true c last h)))
read_last last (c ∷ d ∷ more) = and_then (read_last last (d ∷ more)) (λ (front, e). Some (c ∷ front, ap (λ zs. c ∷ zs) e))

-- characters in quotes
abbrev pub read_text : (pieces : List (List ℕ)) → Found (IsText pieces)
read_text [] = None
read_text ([] ∷ more) = None
read_text ((quote ∷ rest) ∷ next ∷ more) = None
read_text ((quote ∷ rest) ∷ []) =
    where_so (is_quote quote) (λ q. and_then (read_last quote rest)
    (λ (text, e). where_so (list_all (is_quotable quote) text) (λ all. where_so (nat_lt 0 (length text))
    (λ some. Some (map (code_in quote) text, (quote, text, quote ∷ rest, refl, (q, AllPass-from_list_all (is_quotable quote) text all, ap (λ r. quote ∷ r) e), ltb-true 0 _ some, refl))))))

-- Lines

abbrev pub read_operation : {A : Type 0} (o : Operation) (pieces : List (List ℕ)) → Found (IsOperation {A = A} o pieces)
read_operation (operations.Instr m) pieces = and_then (read_operand_of m pieces) (λ (operand, is). Some (Instr m operand, (refl, is)))
read_operation operations.Org pieces = and_then (read_expr pieces) (λ (e, is). Some (Org e, is))
read_operation operations.Equ pieces = and_then (read_expr pieces) (λ (e, is). Some (Equ e, is))
read_operation operations.Dfb pieces = and_then (read_exprs (length pieces) pieces) (λ (es, are). Some (Dfb es, are))
read_operation operations.Dw pieces = and_then (read_exprs (length pieces) pieces) (λ (es, are). Some (Dw es, are))
read_operation operations.Asc pieces = and_then (read_text pieces) (λ (bytes, is). Some (Asc bytes, is))
read_operation operations.Ds pieces = and_then (read_expr pieces) (λ (e, is). Some (Ds e, is))

-- the operation with these letters, among a given list
abbrev pub named_in : (all : List Operation) (word : List ℕ) → Option ((o : Operation) × (word ≡ letters_of o))
named_in [] word = None
named_in (o ∷ more) word = or_else (where_so (bytes_eq word (letters_of o)) (λ h. Some (o, (bytes_eq-Decides word (letters_of o)).0 h))) (named_in more word)

unfoldable pub read_name : (word : List ℕ) → Option ((o : Operation) × (word ≡ letters_of o))
unfolding table
read_name word = or_else (named_in directives word) (named_in (map (λ row. operations.Instr row.mnemonic) table) word)

abbrev pub read_body : {A : Type 0} (text : List ℕ) → Found (IsBody {A = A} text)
read_body text =
    let here = after_blanks text in
    let following = drop (run_len here) here in
    tested (is_over here) (λ h. Some (Empty, inl (Spells-over text h, refl)))
    (λ _. and_then (read_name (map capital (take (run_len here) here)))
    (λ (o, named). where_so (is_gap following) (λ gap. and_then (read_pieces (length following) following)
    (λ (pieces, spells). and_then (read_operation o pieces)
    (λ (body, is). Some (body, inr (o, pieces, HasOperation-from text here o pieces refl named gap spells, is)))))))

-- a line whose label is already read: the rest
abbrev pub read_behind : {A : Type 0} (text : List ℕ) (label : Option (List ℕ)) (rest : List ℕ) → IsLabelled text label rest → Found (IsLine {A = A} text)
read_behind text label rest labelled =
    where_so (is_gap rest) (λ gap. and_then (read_body rest)
    (λ (body, is). where_so (has_needed_label label body) (λ may. Some (record { label = label; body = body }, inr (rest, labelled, gap, is, may)))))

abbrev pub read_line : {A : Type 0} (text : List ℕ) → Found (IsLine {A = A} text)
read_line text =
    or_else (where_so (is_starred text) (λ h. Some (record { label = None; body = Empty }, starred text h)))
    (tested (is_gap text) (λ _. read_behind text None text refl)
    (λ _. where_so (is_name (take (run_len text) text))
    (λ name. read_behind text (Some (take (run_len text) text)) (drop (run_len text) text) (sym (take-append-drop (run_len text) text), name))))

abbrev pub read_lines : {A : Type 0} (texts : List (List ℕ)) → Found (AreLines {A = A} texts)
read_lines [] = Some ([], tt)
read_lines (text ∷ more) = and_then (read_line text) (λ (line, is). and_then (read_lines more) (λ (others, are). Some (line ∷ others, (is, are))))

abbrev pub read : (text : List ℕ) → Found (IsSource text)
read text =
    told (size_error text) (λ _ _. None) (λ fits. and_then (read_lines (lines text)) (λ (source, are). Some (source, (fits, are))))

-- the lines of a text, if it is a source
unfoldable pub read_source : List ℕ → Option (List BareLine)
unfolding read_name
read_source text = option_map (λ found. found.0) (read text)

pub read-is_source : (text : List ℕ) (source : List BareLine) → read_source text ≡ Some source → IsSource text source
unfolding read_source
read-is_source text source e = told (read text)
    (λ found f. subst (IsSource text) (same_Some found.0 source (ap (option_map (λ it. it.0)) (sym f) ∙ e)) found.1)
    (λ f. absurd (none-some source (ap (option_map (λ it. it.0)) (sym f) ∙ e)))

-- every form of a line, of an operand and of a directive is read
pub reads_each_form : is_some (read_source (codes "* A COMMENT\n ORG $400\nN EQU 6\nLOOP clc ; ANOTHER\n lda #<N\n LDA N+%10,X\n LDX N-'A',Y\n STA (N),Y\n ORA (N,X)\n JMP (LOOP)\n LSR\n LSR A\n BNE LOOP\n BEQ *\nT DFB 1,>T,N-1\n DW T,$1234\n ASC \"AB\"\n DS 3\n\n")) ≡ true
unfolding read_source
reads_each_form = refl
