-- What running a program relies on: the contents of the bytes, and the addresses of statements and code.
use Rattle.std.proofs.Common.{◌≡◌, ℕ, zero, suc, ◌+◌, ◌-◌, ◌<◌, ◌≤◌, Bool, true, false, cond, List, [], ◌∷◌, length, get_or, ◌++◌, slice_get, refl, sym, ap, ◌∙◌, subst, ◌⊎◌, inl, inr, ⊎_elim, Some, None, arith, Contains}
use Rattle.std.specs.List.{find}
use Rattle.std.specs.Option.{option_map_or}
use Rattle.std.proofs.lemmas.Bool.Decides.{nat_tests}
use Rattle.std.proofs.lemmas.Bool.{not-false, false≢true}
use Rattle.std.proofs.lemmas.List.Elements.{Contains-append_cases, Contains-append_right}
use Rattle.std.proofs.lemmas.List.Folds.{Any-from_list_any, list_any_at}
use Rattle.std.proofs.lemmas.Option.{slice_get-get_or}
use Rattle.a2_opcode.specs.declared.Instr.{Instr}
use Rattle.a2_opcode.specs.Table.{length_of}
use Rattle.a2_opcode.specs.Encoding.{encoded}
use Rattle.a2_opcode.proofs.Fetching.{fetched-back, shows-below}
use Rattle.a2_hex.specs.Images.{held}
use Rattle.a2_syntax.specs.declared.source.Line.{Line}
use Rattle.a2_syntax.specs.declared.source.Body.{Body}
use Rattle.a2_syntax.specs.declared.source.Body.TheVariants as bodies
use Rattle.a2_asm.specs.declared.place.Place.{Place}
use Rattle.a2_asm.specs.declared.program.Statement.{Statement}
use Rattle.a2_asm.specs.Values.{Names}
use Rattle.a2_asm.specs.Assembled.{Assembled}
use Rattle.a2_asm.specs.Layout.{Row, names, mode_in, size}
use Rattle.a2_asm.specs.Pass.{source_rows}
use Rattle.a2_asm.specs.Bytes.{image, bytes_of, stated, instr_in, statement_of, statements_of, first_instruction}
use Rattle.a2_asm.specs.Refusals.{lacks_row, refuse_operand}
use Rattle.a2_asm.specs.Programs.{IsProgram, begins_at, covers, is_code, StatementsDecode, StatementsBegin, StatementsApart, EntryBegins, IsSound, instr_at, Holds}
use Rattle.a2_asm.proofs.MadeLaws.{IsMade, made-of}
use Rattle.a2_asm.proofs.LayingLaws.{meets-free, row-held}
use Rattle.a2_asm.proofs.BytesLaws.{operand-most, greatest-word}
use Rattle.a2_asm.proofs.PassedLaws.{Passed, passed-is, instr-encoded, place-room, length-some, none-outside}

-- a statement comes from a row
record Comes {A : Type 0} (all : Names) (rows : List (Row A)) (s : Statement) : Type 0 where
  before : List (Row A)
  row : Row A
  after : List (Row A)
  split : rows ≡ before ++ row ∷ after
  is : s ≡ stated row.place (instr_in all row.place row.line.body)

of-if : (b : Bool) (x s : Statement) → Contains (cond b (x ∷ []) []) s → s ≡ x
of-if true x s (zero, lt, e) = sym e
of-if _ x s (k, lt, e) = absurd (omega (arith, lt))

comes : {A : Type 0} (all : Names) (rows : List (Row A)) (s : Statement) → Contains (statements_of all rows) s → Comes all rows s
comes all [] s (k, lt, e) = absurd (omega (arith, lt))
comes all (row ∷ more) s h =
    ⊎_elim
    (λ (k : Contains (statement_of all row.place row.line.body) s). record { before = []; row = row; after = more; split = refl; is = of-if _ _ s k })
    (λ (k : Contains (statements_of all more) s).
    let f = comes all more s k in
    record { before = row ∷ f.before; row = f.row; after = f.after; split = ap (λ rows. row ∷ rows) f.split; is = f.is })
    (Contains-append_cases (statement_of all row.place row.line.body) (statements_of all more) s h)

-- two rows of one list are the same, or one is before the other
meeting : {X : Type 0} (xs ys : List X) (x y : X) (after more : List X) → xs ++ x ∷ after ≡ ys ++ y ∷ more
    → (x ≡ y) ⊎ ((mid : List X) × (ys ≡ xs ++ x ∷ mid)) ⊎ ((mid : List X) × (xs ≡ ys ++ y ∷ mid))
meeting [] [] x y after more e = inl cc
meeting [] (z ∷ ys) x y after more e = inr (inl (ys, cc))
meeting (z ∷ xs) [] x y after more e = inr (inr (xs, cc))
meeting (z ∷ xs) (w ∷ ys) x y after more e =
    let rest = meeting xs ys x y after more cc in
    let same : z ≡ w = cc in
    elim rest [
      | inl is ↦ inl is
      | inr (inl (mid, is)) ↦ inr (inl (mid, cc))
      | inr (inr (mid, is)) ↦ inr (inr (mid, cc))
    ]

-- the first statement that passes a test, if all that pass are equal
find-one : (p : Statement → Bool) (all : List Statement) (s : Statement) → Contains all s → p s ≡ true → ((t : Statement) → Contains all t → p t ≡ true → t ≡ s) → find p all ≡ Some s
find-one p [] s (j, lt, e) h only = absurd (omega (arith, lt))
find-one p (x ∷ xs) s among h only = by (p x) refl among (λ k. find-one p xs s k h (λ t (k, lt, g) q. only t (suc k, omega (arith, lt), g) q))
  where
    by : (b : Bool) → p x ≡ b → Contains (x ∷ xs) s → (Contains xs s → find p xs ≡ Some s) → find p (x ∷ xs) ≡ Some s
    by true e k rest = ap (λ b. cond b (Some x) (find p xs)) e ∙ ap Some (only x (0, omega arith, refl) e)
    by false e (zero, lt, f) rest = absurd (false≢true (sym e ∙ ap p f ∙ h))
    by false e (suc j, lt, f) rest = ap (λ b. cond b (Some x) (find p xs)) e ∙ rest (j, omega (arith, lt), f)

-- the instruction of a line without an error
coded : {A : Type 0} (all earlier : Names) (place : Place) (body : Body A) (i : Instr) → lacks_row place body ≡ false → place.mode ≡ mode_in earlier place.address body
    → refuse_operand all place body ≡ None → instr_in all place body ≡ Some i
    → (encoded i place.address ≡ Some (bytes_of all place body)) × (i.value < 65536) × (size earlier place.address body ≡ length_of i.mode)
coded all earlier place (bodies.Instr m o) i has form later e =
    let is = instr-encoded all earlier place m o (not-false _ has) form later in
    (grind (arith, is), grind (arith, operand-most all place o, greatest-word place.mode), grind arith)
coded all earlier place _ i has form later e = cc

-- the statement of the first instruction
entry-stated : {A : Type 0} (all : Names) (rows : List (Row A)) (e : ℕ) → first_instruction rows ≡ Some e
    → (s : Statement) × (i : Instr) × Contains (statements_of all rows) s × (s.instr ≡ Some i) × (s.addr ≡ e)
entry-stated all [] e h = cc
entry-stated {A = A} all (row ∷ more) e h = by row.line.body refl (λ k. entry-stated all more e k)
  where
    Stated : Body A → Type 0
    Stated body = (s : Statement) × (i : Instr) × Contains (statement_of all row.place body ++ statements_of all more) s × (s.instr ≡ Some i) × (s.addr ≡ e)

    by : (body : Body A) → row.line.body ≡ body
        → (first_instruction more ≡ Some e → (s : Statement) × (i : Instr) × Contains (statements_of all more) s × (s.instr ≡ Some i) × (s.addr ≡ e)) → Stated row.line.body
    by (bodies.Instr m o) is rest = subst Stated (sym is) (_, _, (0, omega arith, refl), refl, grind arith)
    by _ is rest =
        let r = rest (grind arith) in
        (r.0, r.1, Contains-append_right (statement_of all row.place row.line.body) (statements_of all more) r.0 r.2, r.3, r.4)

covered : (a : ℕ) (s : Statement) → covers a s ≡ true → (i : Instr) × (s.instr ≡ Some i) × Holds s a
covered a s h = grind (arith, nat_tests)

begun : (a : ℕ) (s : Statement) → begins_at a s ≡ true → (i : Instr) × (s.instr ≡ Some i) × (s.addr ≡ a)
begun a s h = grind (arith, nat_tests)

module _ {A : Type 0} (source : List (Line A)) (p : Assembled) (is : IsMade source p) where
  abbrev all : Names
  all = names (source_rows source)

  abbrev bytes : Row A → List ℕ
  bytes row = bytes_of all row.place row.line.body

  -- the row of a statement
  record Fits (s : Statement) : Type 0 where
    from : Comes all (source_rows source) s
    passed : Passed all from.before from.row
    at : s.addr ≡ from.row.place.address
    long : s.length ≡ length (bytes from.row)

  fits : (s : Statement) → Contains p.statements s → Fits s
  fits s among =
      let f = comes all (source_rows source) s (subst (λ statements. Contains statements s) is.stated among) in
      let k = passed-is source f.before f.after f.row is.accepted f.split in
      record { from = f; passed = k; at = ap (λ x. x.addr) f.is; long = ap (λ x. x.length) f.is ∙ sym k.long }

  -- the image holds its bytes, below $C000
  held-at : (s : Statement) (f : Fits s) (a : ℕ) → Holds s a → held p.image a ≡ Some (get_or (bytes f.from.row) (a - s.addr) 0)
  held-at s f a h =
      is.laid a ∙ ap (λ rows. image all rows a) f.from.split
      ∙ rw f.at (row-held all f.from.before f.from.after f.from.row a f.passed.free (omega (arith, f.at, h)) (omega (arith, f.at, f.long, h)))

  room : (s : Statement) → Fits s → 0 < s.length → s.addr + s.length ≤ 49152
  room s f lt = omega (arith, f.at, f.long, f.passed.long, place-room f.from.row.place f.passed.keeps.inside)

  -- the bytes of an instruction
  code : (s : Statement) (f : Fits s) (i : Instr) → s.instr ≡ Some i → (encoded i s.addr ≡ Some (bytes f.from.row)) × (i.value < 65536) × (s.length ≡ length_of i.mode)
  code s f i of-s =
      let k = f.passed in
      let e = coded all (names f.from.before) f.from.row.place f.from.row.line.body i k.keeps.has_row k.keeps.placed.mode k.later (sym (ap (λ x. x.instr) f.from.is) ∙ of-s) in
      (rw f.at e.0, e.1, f.long ∙ k.long ∙ k.keeps.placed.size ∙ e.2)

  starts : (s : Statement) (i : Instr) → Contains p.statements s → s.instr ≡ Some i → Holds s s.addr
  starts s i among of-s = (omega arith, omega (arith, (code s (fits s among) i of-s).2, length-some i.mode))

  code-there : (s : Statement) (i : Instr) (a : ℕ) → Contains p.statements s → s.instr ≡ Some i → Holds s a → is_code p.statements a ≡ true
  code-there s i a (j, lt, e) of-s h =
      let here : covers a s ≡ true = grind (arith, nat_tests) in
      list_any_at (covers a) p.statements j s lt (ap (covers a) e ∙ here)

  code-of : (a : ℕ) → is_code p.statements a ≡ true → (s : Statement) × Fits s × Holds s a
  code-of a code =
      let any = Any-from_list_any (covers a) p.statements code in
      (any.1, fits any.1 (any.0, any.2, any.3), (covered a any.1 any.4).2)

  decodes : StatementsDecode p
  decodes peek shows s i among of-s =
      let f = fits s among in
      let e = code s f i of-s in
      let below = room s f (omega (arith, e.2, length-some i.mode)) in
      let shown : (n : ℕ) → n < length (bytes f.from.row) → peek (s.addr + n) ≡ slice_get (bytes f.from.row) n = λ n lt.
      (let holds : Holds s (s.addr + n) = omega (arith, f.long, lt) in
      let same : s.addr + n - s.addr ≡ n = omega arith in
      shows (s.addr + n) (code-there s i (s.addr + n) among of-s holds) ∙ held-at s f (s.addr + n) holds ∙ rw same (sym (slice_get-get_or (bytes f.from.row) n 0 lt))) in
      fetched-back i s.addr (bytes f.from.row) (omega (arith, below, e.2, length-some i.mode)) e.1 e.0 peek
      (shows-below peek s.addr (bytes f.from.row) (omega (arith, below, f.long)) shown)

  -- a row has no byte at an address where an earlier row has one
  clash : (before mid : List (Row A)) (row other : Row A) (a : ℕ) → Passed all before row → Passed all (before ++ row ∷ mid) other
      → row.place.address ≤ a → a < row.place.address + length (bytes row) → other.place.address ≤ a → a < other.place.address + length (bytes other) → ⊥
  clash before mid row other a k l from below other_from other_below =
      cc (row-held all before mid row a k.free from below, meets-free (image all (before ++ row ∷ mid)) other.place.address (bytes other) a l.free other_from other_below)

  apart : StatementsApart p
  apart s t a in-s in-t in_s in_t =
      let f = fits s in-s in
      let g = fits t in-t in
      elim (meeting f.from.before g.from.before f.from.row g.from.row f.from.after g.from.after (sym f.from.split ∙ g.from.split)) [
        | inl same ↦ f.from.is ∙ ap (λ row. stated row.place (instr_in all row.place row.line.body)) same ∙ sym g.from.is
        | inr (inl (mid, e)) ↦
            absurd (clash f.from.before mid f.from.row g.from.row a f.passed (subst (λ rows. Passed all rows g.from.row) e g.passed)
            (omega (arith, f.at, in_s)) (omega (arith, f.at, f.long, in_s)) (omega (arith, g.at, in_t)) (omega (arith, g.at, g.long, in_t)))
        | inr (inr (mid, e)) ↦
            absurd (clash g.from.before mid g.from.row f.from.row a g.passed (subst (λ rows. Passed all rows f.from.row) e f.passed)
            (omega (arith, g.at, in_t)) (omega (arith, g.at, g.long, in_t)) (omega (arith, f.at, in_s)) (omega (arith, f.at, f.long, in_s)))
      ]

  begins : StatementsBegin p
  begins s i among of-s =
      let starts_here = starts s i among of-s in
      let here : begins_at s.addr s ≡ true = grind (arith, nat_tests) in
      let found = find-one (begins_at s.addr) p.statements s among here (λ t in-t h.
      (let k = begun s.addr t h in
      apart t s s.addr in-t among (subst (Holds t) k.2 (starts t k.0 in-t k.1)) starts_here)) in
      (ap (λ o. option_map_or (λ x. x.instr) o None) found ∙ of-s, code-there s i s.addr among of-s starts_here, (code s (fits s among) i of-s).2)

  enters : EntryBegins p
  enters =
      let r = entry-stated all (source_rows source) p.entry is.begins in
      (r.1, subst (λ a. instr_at p.statements a ≡ Some r.1) r.4 (begins r.0 r.1 (subst (λ statements. Contains statements r.0) (sym is.stated) r.2) r.3).0)

  pub made-sound : IsSound p
  made-sound = record {
    decodes = decodes;
    begins = begins;
    apart = apart;
    in_ram = λ a code. (let (s, f, h) = code-of a code in omega (arith, room s f, h));
    is_held = λ a code. (let (s, f, h) = code-of a code in (_, held-at s f a h));
    enters = enters;
    outside = λ a le. is.laid a ∙ none-outside source [] (source_rows source) a is.accepted refl le;
  }

-- the same for a program by any layout
pub program-sound : {A : Type 0} (source : List (Line A)) (p : Assembled) → IsProgram source p → IsSound p
program-sound source p is = made-sound source p (made-of source p is)
