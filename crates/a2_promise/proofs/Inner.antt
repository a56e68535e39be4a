-- The reader finds what is within an operand.
use Rattle.std.specs.Prelude.{◌≡◌, ℕ, suc, ◌+◌, ◌≤◌, ◌<◌, Bool, true, false, ◌&&◌, List, [], ◌∷◌, ◌++◌, Option, Some, None}
use Rattle.std.specs.List.{list_all}
use Rattle.std.proofs.Common.{refl, ap, ◌∙◌, arith, append_assoc, eqb-true}
use Rattle.std.proofs.lemmas.Bool.{and_parts, and_right}
use Rattle.a2_promise.specs.Tokens.{Token}
use Rattle.a2_promise.specs.Written.{Written, byte_in, word_in, text_in, group, minus, magnitude, signed, before, there, bit, least, greatest, negated, joined, provided, one_of, for_all, sum_of, spelled}
use Rattle.a2_promise.specs.Grammar.{tightest, rank, takes_from, takes_else, is_one, Scope, may_count, fits}
use Rattle.a2_promise.proofs.Finder.{Reading, then_by, joint_of, is_else, one_behind, one_up_to, two_up_to, operand}
use Rattle.a2_promise.proofs.Stopping.{Ends, is_looser, is_past, past_mono}
use Rattle.a2_promise.proofs.Ranks.{takes_le, one_le_rank}

-- how many expressions are within an expression
abbrev pub size : Written → ℕ
size (byte_in e) = suc (size e)
size (word_in e) = suc (size e)
size (text_in e quote characters) = suc (size e)
size (group e) = suc (size e)
size (minus e) = suc (size e)
size (magnitude e) = suc (size e)
size (signed e) = suc (size e)
size (before e) = suc (size e)
size (there label a e) = suc (size e)
size (bit e f) = suc (size e + size f)
size (least e f) = suc (size e + size f)
size (greatest e f) = suc (size e + size f)
size (negated e) = suc (size e)
size (joined join e f) = suc (size e + size f)
size (provided e f) = suc (size e + size f)
size (one_of e f g) = suc (size e + (size f + size g))
size (for_all name k e f) = suc (size e + size f)
size (sum_of name k e f) = suc (size e + size f)
size _ = 0

-- each enclosing bound name may be bound
abbrev pub IsClean : Scope → Type 0
IsClean scope = list_all may_count scope.around ≡ true

-- an operand that is allowed is found, and the rest follows it
abbrev pub IsFound : Reading → Written → Scope → List Token → Type 0
IsFound given e scope rest = IsClean scope → fits scope e ≡ true → Ends e rest → operand given scope (spelled e ++ rest) ≡ Some
    (e, rest)

-- each allowed expression with fewer than this many expressions within it is found
abbrev pub Finds : ℕ → Reading → Type 0
Finds n given =
    (e : Written) (scope : Scope) (r : ℕ) (tokens rest : List Token) → tokens ≡ spelled e ++ rest → size e < n
    → IsClean scope → fits scope e ≡ true → r ≤ rank e → is_past r rest ≡ true → Ends e rest
    → given scope r tokens ≡ Some (e, rest)

-- each test of a conjunction holds
pub parts3 : (a b c : Bool) → (a && b && c) ≡ true → (a ≡ true) × (b ≡ true) × (c ≡ true)
parts3 a b c h = let w = and_parts (a && b) c h in let v = and_parts a b w.0 in (v.0, v.1, w.1)

pub parts4 : (a b c d : Bool) → (a && b && c && d) ≡ true → (a ≡ true) × (b ≡ true) × (c ≡ true) × (d ≡ true)
parts4 a b c d h = let w = and_parts (a && b && c) d h in let v = parts3 a b c w.0 in (v.0, v.1, v.2, w.1)

pub parts6 : (a b c d e f : Bool) → (a && b && c && d && e && f) ≡ true
    → (a ≡ true) × (b ≡ true) × (c ≡ true) × (d ≡ true) × (e ≡ true) × (f ≡ true)
parts6 a b c d e f h =
    let w = parts3 (a && b && c && d) e f h in
    let u = parts4 a b c d w.0 in
    (u.0, u.1, u.2, u.3, w.1, w.2)

pub then_is : {X Y : Type 0} → (o : Option X) (x : X) (f : X → Option Y) → o ≡ Some x → then_by o f ≡ f x
then_is o x f h = ap (λ o. then_by o f) h

pub ends_at : (e : Written) (token : Token) (rest : List Token) → joint_of token ≡ None → is_else (token ∷ rest) ≡ false
    → Ends e (token ∷ rest)
ends_at e token rest h k = record {
  joints = ap (λ o. is_looser (takes_from e) o) h;
  choice = and_right (takes_else e) (is_else (token ∷ rest)) k;
}

module _ (given : Reading) (n : ℕ) (found : Finds n given) where
  -- an expression that ends at a word or sign that belongs to no expression
  pub up_to : (e : Written) (scope : Scope) (r : ℕ) (tokens : List Token) (token : Token) (rest : List Token)
      → tokens ≡ spelled e ++ token ∷ rest
      → joint_of token ≡ None → is_else (token ∷ rest) ≡ false → size e < n → IsClean scope → fits scope e ≡ true
      → r ≤ rank e → given scope r tokens ≡ Some (e, token ∷ rest)
  up_to e scope r tokens token rest is h k small clean fit l =
      found e scope r tokens (token ∷ rest) is small clean fit l
      (ap (λ o. is_looser r o) h) (ends_at e token rest h k)

  -- one operand as the last part
  pub one_last : (e : Written) (scope : Scope) (f : Written → Written) (rest : List Token) → size e < n
      → IsClean scope → fits scope e ≡ true → is_one e ≡ true → Ends e rest
      → one_behind given scope tightest (spelled e ++ rest) f ≡ Some (f e, rest)
  one_last e scope f rest small clean fit one ends =
      let same = eqb-true (rank e) tightest one in
      rw (found e scope tightest _ rest refl small clean fit (omega (arith, same)) (past_mono (takes_from e) tightest rest (takes_le e) ends.joints) ends)

  -- one expression in parentheses or brackets
  pub one_within : (e : Written) (scope : Scope) (f : Written → Written) (closing : Token) (rest : List Token)
      → joint_of closing ≡ None
      → is_else (closing ∷ rest) ≡ false → size e < n → IsClean scope → fits scope e ≡ true
      → one_up_to given scope ((spelled e ++ closing ∷ []) ++ rest) f ≡ Some (f e, rest)
  one_within e scope f closing rest h k small clean fit =
      rw (up_to e scope 1 _ closing rest (append_assoc (spelled e) (closing ∷ []) rest) h k small clean fit (one_le_rank e))

  -- two expressions separated by a comma
  pub two_within : (e f : Written) (scope : Scope) (make : Written → Written
      → Written) (comma closing : Token) (rest : List Token)
      → joint_of comma ≡ None → is_else (comma ∷ spelled f ++ closing ∷ rest) ≡ false → joint_of closing ≡ None
      → is_else (closing ∷ rest) ≡ false
      → size e < n → size f < n → IsClean scope → fits scope e ≡ true → fits scope f ≡ true
      → two_up_to given scope (((spelled e ++ comma ∷ spelled f) ++ closing ∷ []) ++ rest) make ≡ Some (make e f, rest)
  two_within e f scope make comma closing rest h k h' k' small small' clean fit fit' =
      let following = append_assoc (spelled e ++ comma ∷ spelled f) (closing ∷ []) rest ∙ append_assoc (spelled e) (comma ∷ spelled f) (closing ∷ rest) in
      rw (
        up_to e scope 1 _ comma (spelled f ++ closing ∷ rest) following h k small clean fit (one_le_rank e),
        up_to f scope 1 _ closing rest refl h' k' small' clean fit' (one_le_rank f),
      )
