-- The reader finds every allowed expression, so two with the same words and signs are equal.
use Rattle.std.specs.Prelude.{◌≡◌, ℕ, zero, suc, ◌+◌, ◌-◌, ◌≤◌, ◌<◌, ◌==◌, Bool, true, false, not, ◌&&◌, ◌||◌, nat_lt, nat_le, List, [], ◌∷◌, ◌++◌, codes, length, Option, Some, None}
use Rattle.std.specs.List.{list_all}
use Rattle.std.proofs.Common.{refl, sym, ap, ◌∙◌, arith, append_assoc, append-nil, eqb-true}
use Rattle.std.proofs.lemmas.Option.{some_pair_parts}
use Rattle.std.proofs.lemmas.Bool.{false≢true, and_parts, and_from, and_left, and_right, cond-true, leb-true, ltb-true, le-leb, not-true}
use Rattle.a2_asm.specs.Values.{name_value}
use Rattle.a2_promise.specs.declared.words.Infix.{Infix}
use Rattle.a2_promise.specs.Tokens.{Token, word, sign}
use Rattle.a2_promise.specs.Written.{Written, decimal, literal, byte, byte_in, word_of, word_in, text, text_in, atom, counted, group, minus, magnitude, signed, before, there, bit, least, greatest, negated, joined, provided, one_of, for_all, sum_of, atom_name, infix_token, laid_text, spelled}
use Rattle.a2_promise.specs.Grammar.{infix_rank, rank, tightest, takes_from, takes_else, is_one, is_number, is_fact, is_just, may_count, joins, counts, inside, Scope, is_text, number_of, number_among, fits}
use Rattle.a2_promise.specs.OneReading.{WordsSpellOneExpression}
use Rattle.a2_promise.proofs.Finder.{Reading, then_by, joint_of, is_else, operand, worded, plain, by_case, if_tight, joints, behind_one, count_behind, reading}
use Rattle.a2_promise.proofs.Stopping.{Ends, is_looser, is_past, past_mono, past_min_left, past_min_right, none_next, joint_is, no_else}
use Rattle.a2_promise.proofs.Ranks.{rank_le, one_le_rank, one_le_takes, takes_le}
use Rattle.a2_promise.proofs.Meanings.{just, atom_opens, counted_opens, no_opening}
use Rattle.a2_promise.proofs.Inner.{IsClean, IsFound, size, Finds, parts3, parts4, parts6, then_is, up_to, one_last, one_within, two_within}
use Rattle.a2_promise.proofs.Leaves as leaves

abbrev is_joined : Written → Bool
is_joined (joined join e f) = true
is_joined _ = false

-- how many operators in a row there are at the left of an expression, plus a given number
abbrev chain : Written → ℕ → ℕ
chain (joined join e f) k = chain e (suc k)
chain _ k = k

chain_more : (e : Written) (k : ℕ) → chain e k ≡ chain e 0 + k
chain_more (joined join e f) k =
    let a = chain_more e (suc k) in
    let b = chain_more e 1 in
    omega (arith, a, b)
chain_more e k = omega arith

chain_le : (e : Written) → chain e 0 ≤ size e
chain_le (joined join e f) = let a = chain_more e 1 in let b = chain_le e in omega (arith, a, b)
chain_le e = omega arith

module _ (given : Reading) (n : ℕ) (found : Finds n given) where
  -- the last part of an expression, at any rank
  last_found : (e : Written) (scope : Scope) (rest : List Token) → size e < n → IsClean scope → fits scope e ≡ true
      → is_past 1 rest ≡ true → (takes_else e && is_else rest) ≡ false → given scope 1 (spelled e ++ rest) ≡ Some (e, rest)
  last_found e scope rest small clean fit past choice =
      found e scope 1 (spelled e ++ rest) rest refl small clean fit (one_le_rank e) past
      (record { joints = past_mono 1 (takes_from e) rest (one_le_takes e) past; choice = choice })

  -- the bound of a count, and its body
  counts_found : (r : ℕ) (make : List ℕ → ℕ → Written → Written → Written) (name : List ℕ) (k : ℕ) (e f : Written) (scope : Scope)
      (rest : List Token) → size e < n → size f < n → IsClean scope → counts scope name k ≡ true → nat_le 6 (rank e) ≡ true
      → fits scope e ≡ true → fits (inside name scope) f ≡ true → r ≤ rank f → is_past r rest ≡ true → Ends f rest
      → count_behind given scope r (word name ∷ sign (codes "<") ∷ ((spelled e ++ sign (codes ":") ∷ spelled f) ++ rest)) make
      ≡ Some (make name k e f, rest)
  counts_found r make name k e f scope rest small small' clean counting tight fit fit' l past ends =
      let a = parts3 (may_count name) (length scope.around == k) (nat_lt k 4) counting in
      let following = append_assoc (spelled e) (sign (codes ":") ∷ spelled f) rest in
      let cleaner = and_from (may_count name) (list_all may_count scope.around) a.0 clean in
      rw (
        up_to given n found e scope 6 _ (sign (codes ":")) (spelled f ++ rest) following refl refl small clean fit (leb-true 6 (rank e) tight),
        found f (inside name scope) r _ rest refl small' cleaner fit' l past ends,
        eqb-true (length scope.around) k a.1,
      )

  operand_found : (e : Written) (scope : Scope) (rest : List Token) → is_joined e ≡ false → size e < suc n
      → IsFound given e scope rest
  unfolding fits spelled
  operand_found (decimal token k) scope rest one small clean fit ends = leaves.decimal_found given token k scope rest fit
  operand_found (literal token k) scope rest one small clean fit ends =
      rw (just k (number_of scope.names token) fit)
  operand_found (byte token a) scope rest one small clean fit ends = leaves.byte_found given token a scope rest fit
  operand_found (byte_in e) scope rest one small clean fit ends =
      one_within given n found e scope byte_in (sign (codes "]")) rest refl refl (omega (arith, small)) clean
      (and_parts (is_number e) (fits scope e) fit).1
  operand_found (word_of token a) scope rest one small clean fit ends = leaves.word_of_found given token a scope rest fit
  operand_found (word_in e) scope rest one small clean fit ends =
      one_within given n found e scope word_in (sign (codes "]")) rest refl refl (omega (arith, small)) clean
      (and_parts (is_number e) (fits scope e) fit).1
  operand_found (text token a quote characters) scope rest one small clean fit ends =
      leaves.text_found given token a quote characters scope rest fit
  operand_found (text_in e quote characters) scope rest one small clean fit ends =
      let a = parts3 (is_number e) (fits scope e) (is_text quote characters) fit in
      let laid = laid_text quote characters in
      let following = append_assoc (spelled e ++ sign (codes "]") ∷ []) laid rest ∙ append_assoc (spelled e) (sign (codes "]") ∷ []) (laid ++ rest) in
      rw (up_to given n found e scope 1 _ (sign (codes "]")) (laid ++ rest) following refl refl (omega (arith, small)) clean a.1 (one_le_rank e))
  operand_found (atom it) scope rest one small clean fit ends =
      ap (λ o. worded given scope (atom_name it) rest o) (atom_opens it)
  operand_found (counted name k) scope rest one small clean fit ends =
      let is = just k (number_among scope.around name) fit in
      ap (λ o. worded given scope name rest o) (no_opening name (counted_opens scope.around name k clean is))
      ∙ ap (λ o. plain given scope name rest o) is
  operand_found (group e) scope rest one small clean fit ends =
      one_within given n found e scope group (sign (codes ")")) rest refl refl (omega (arith, small)) clean fit
  operand_found (minus e) scope rest one small clean fit ends =
      let a = parts3 (is_one e) (is_number e) (fits scope e) fit in
      one_last given n found e scope minus rest (omega (arith, small)) clean a.2 a.0 (record { joints = ends.joints; choice = ends.choice })
  operand_found (magnitude e) scope rest one small clean fit ends =
      let a = parts3 (is_one e) (is_number e) (fits scope e) fit in
      one_last given n found e scope magnitude rest (omega (arith, small)) clean a.2 a.0 (record { joints = ends.joints; choice = ends.choice })
  operand_found (signed e) scope rest one small clean fit ends =
      let a = parts3 (is_one e) (is_number e) (fits scope e) fit in
      one_last given n found e scope signed rest (omega (arith, small)) clean a.2 a.0 (record { joints = ends.joints; choice = ends.choice })
  operand_found (before e) scope rest one small clean fit ends =
      let a = and_parts (is_one e) (fits scope e) fit in
      one_last given n found e scope before rest (omega (arith, small)) clean a.1 a.0 (record { joints = ends.joints; choice = ends.choice })
  operand_found (there label a e) scope rest one small clean fit ends =
      let w = parts4 scope.is_within (is_just a (name_value scope.names label)) (is_one e) (fits scope e) fit in
      rw (just a (name_value scope.names label) w.1) (one_last given n found e scope (λ e. there label a e) rest (omega (arith, small)) clean w.3 w.2
      (record { joints = ends.joints; choice = ends.choice }))
  operand_found (bit e f) scope rest one small clean fit ends =
      let a = parts6 (is_one e) (is_number e) (is_one f) (is_number f) (fits scope e) (fits scope f) fit in
      let at_e = eqb-true (rank e) tightest a.0 in
      let at_f = eqb-true (rank f) tightest a.2 in
      let following = append_assoc (spelled e) (word (codes "of") ∷ spelled f) rest in
      rw (
        up_to given n found e scope tightest _ (word (codes "of")) (spelled f ++ rest) following refl refl (omega (arith, small)) clean a.4 (omega (arith, at_e)),
        found f scope tightest _ rest refl (omega (arith, small)) clean a.5 (omega (arith, at_f)) (past_mono (takes_from f) tightest rest (takes_le f) ends.joints)
            (record { joints = ends.joints; choice = ends.choice }),
      )
  operand_found (least e f) scope rest one small clean fit ends =
      let a = parts4 (is_number e) (is_number f) (fits scope e) (fits scope f) fit in
      two_within given n found e f scope least (sign (codes ","))
      (sign (codes ")")) rest refl refl refl refl (omega (arith, small)) (omega (arith, small)) clean a.2 a.3
  operand_found (greatest e f) scope rest one small clean fit ends =
      let a = parts4 (is_number e) (is_number f) (fits scope e) (fits scope f) fit in
      two_within given n found e f scope greatest (sign (codes ","))
      (sign (codes ")")) rest refl refl refl refl (omega (arith, small)) (omega (arith, small)) clean a.2 a.3
  operand_found (negated e) scope rest one small clean fit ends =
      let a = parts3 (nat_le 4 (rank e)) (is_fact e) (fits scope e) fit in
      rw (found e scope 4 _ rest refl (omega (arith, small)) clean a.2 (leb-true 4 (rank e) a.0) (past_min_left 4 (takes_from e) rest ends.joints)
      (record { joints = past_min_right 4 (takes_from e) rest ends.joints; choice = ends.choice }))
  operand_found (joined join e f) scope rest one small clean fit ends = absurd (false≢true (sym one))
  operand_found (provided e f) scope rest one small clean fit ends =
      let a = parts4 (is_fact e) (is_fact f) (fits scope e) (fits scope f) fit in
      let none : is_else rest ≡ false = ends.choice in
      let following = append_assoc (spelled e) (word (codes "then") ∷ spelled f) rest in
      rw (
        up_to given n found e scope 1 _ (word (codes "then")) (spelled f ++ rest) following refl refl (omega (arith, small)) clean a.2 (one_le_rank e),
        last_found f scope rest (omega (arith, small)) clean a.3 ends.joints (and_right (takes_else f) (is_else rest) none),
        none,
      )
  operand_found (one_of e f g) scope rest one small clean fit ends =
      let a = parts6 (is_fact e) ((is_number f && is_number g) || (is_fact f && is_fact g)) (not (takes_else f)) (fits scope e) (fits scope f)
      (fits scope g) fit in
      let other = word (codes "else") ∷ spelled g in
      let following = append_assoc (spelled e) (word (codes "then") ∷ (spelled f ++ other)) rest in
      rw (
        up_to given n found e scope 1 _ (word (codes "then")) ((spelled f ++ other) ++ rest) following refl refl (omega (arith, small)) clean a.3 (one_le_rank e),
        found f scope 1 _ (other ++ rest) (append_assoc (spelled f) other rest) (omega (arith, small)) clean a.4 (one_le_rank f) refl
            (record { joints = refl; choice = and_left (takes_else f) true (not-true (takes_else f) a.2) }),
        last_found g scope rest (omega (arith, small)) clean a.5 ends.joints ends.choice,
      )
  operand_found (for_all name k e f) scope rest one small clean fit ends =
      let a = parts6 (counts scope name k) (nat_le 6 (rank e)) (is_number e) (is_fact f) (fits scope e) (fits (inside name scope) f) fit in
      counts_found 1 for_all name k e f scope rest (omega (arith, small)) (omega (arith, small)) clean a.0 a.1 a.4 a.5 (one_le_rank f) ends.joints
      (record { joints = past_mono 1 (takes_from f) rest (one_le_takes f) ends.joints; choice = ends.choice })
  operand_found (sum_of name k e f) scope rest one small clean fit ends =
      let z = and_parts (counts scope name k && nat_le 6 (rank e) && is_number e && nat_le 6 (rank f) && is_number f && fits scope e)
      (fits (inside name scope) f) fit in
      let a = parts6 (counts scope name k) (nat_le 6 (rank e)) (is_number e) (nat_le 6 (rank f)) (is_number f) (fits scope e) z.0 in
      counts_found 6 sum_of name k e f scope rest (omega (arith, small)) (omega (arith, small)) clean a.0 a.1 a.5 z.1 (leb-true 6 (rank f) a.3)
      (past_min_left 6 (takes_from f) rest ends.joints)
      (record { joints = past_min_right 6 (takes_from f) rest ends.joints; choice = ends.choice })

tight_is : (r : ℕ) (o : Option Infix) (join : Infix) → o ≡ Some join → r ≤ infix_rank join → if_tight r o ≡ Some join
tight_is r o join is l =
    ap (λ o. if_tight r o) is ∙ cond-true (nat_le r (infix_rank join)) (Some join) None (le-leb r (infix_rank join) l)

module _ (given : Reading) (n : ℕ) (found : Finds n given) where
  -- an operator and its right side
  joint_found : (join : Infix) (e f : Written) (scope : Scope) (r k : ℕ) (rest : List Token) → size f < n
      → IsClean scope → fits scope f ≡ true → r ≤ infix_rank join → infix_rank join < rank f → Ends (joined join e f) rest
      → joints given scope (suc k) r e (infix_token join ∷ (spelled f ++ rest)) ≡ joints given scope k r (joined join e f) rest
  joint_found join e f scope r k rest small clean fit l m ends =
      let below = rank_le f in
      let tokens = infix_token join ∷ (spelled f ++ rest) in
      ap (λ o. by_case o (Some (e, tokens)) (λ join.
      then_by (given scope (suc (infix_rank join)) (behind_one tokens)) (λ x. joints given scope k r (joined join e x.0) x.1)))
      (tight_is r (joint_of (infix_token join)) join (joint_is join (omega (arith, m, below))) l)
      ∙ then_is (given scope (suc (infix_rank join)) (spelled f ++ rest)) (f, rest)
      (λ x. joints given scope k r (joined join e x.0) x.1)
      (found f scope (suc (infix_rank join)) (spelled f ++ rest) rest refl small clean fit m
      (past_min_left (suc (infix_rank join)) (takes_from f) rest ends.joints)
      (record { joints = past_min_right (suc (infix_rank join)) (takes_from f) rest ends.joints; choice = ends.choice }))

  -- an operand followed by operators
  row_found : (e : Written) (scope : Scope) (r k : ℕ) (rest : List Token) → size e < suc n → IsClean scope
      → fits scope e ≡ true → r ≤ rank e → Ends e rest
      → then_by (operand given scope (spelled e ++ rest)) (λ x. joints given scope (chain e k) r x.0 x.1)
      ≡ joints given scope k r e rest
  unfolding fits spelled
  row_found (joined join e f) scope r k rest small clean fit l ends =
      let a =
      parts6 (nat_le (infix_rank join) (rank e)) (nat_lt (infix_rank join) (takes_from e)) (nat_lt (infix_rank join) (rank f))
      (joins join e f) (fits scope e) (fits scope f) fit in
      let below = rank_le f in
      let left = leb-true (infix_rank join) (rank e) a.0 in
      let right = ltb-true (infix_rank join) (rank f) a.2 in
      let tokens = infix_token join ∷ (spelled f ++ rest) in
      ap (λ ts. then_by (operand given scope ts) (λ x. joints given scope (chain e (suc k)) r x.0 x.1))
      (append_assoc (spelled e) (infix_token join ∷ spelled f) rest)
      ∙ row_found e scope r (suc k) tokens (omega (arith, small)) clean a.4 (omega (arith, l, left)) (record {
        joints = ap (λ o. is_looser (takes_from e) o) (joint_is join (omega (arith, right, below))) ∙ a.1;
        choice = and_right (takes_else e) (is_else tokens) (no_else join (spelled f ++ rest));
      })
      ∙ joint_found join e f scope r k rest (omega (arith, small)) clean a.5 l right ends
  row_found e scope r k rest small clean fit l ends =
      then_is (operand given scope (spelled e ++ rest)) (e, rest) (λ x. joints given scope k r x.0 x.1)
      (operand_found given n found e scope rest refl small clean fit ends)

  row_ends : (e : Written) (scope : Scope) (r k : ℕ) (rest : List Token) → is_past r rest ≡ true
      → joints given scope k r e rest ≡ Some (e, rest)
  row_ends e scope r zero rest past = refl
  row_ends e scope r (suc k) rest past =
      ap (λ o. by_case o (Some (e, rest)) (λ join.
      then_by (given scope (suc (infix_rank join)) (behind_one rest)) (λ x. joints given scope k r (joined join e x.0) x.1)))
      (none_next r rest past)

finds : (n : ℕ) → Finds n (reading n)
finds zero e scope r tokens rest is small clean fit l past ends = absurd (omega (arith, small))
finds (suc n) e scope r tokens rest is small clean fit l past ends =
    let k = n - chain e 0 in
    let more = chain_more e k in
    let fewer = chain_le e in
    let same : n ≡ chain e k = omega (arith, more, fewer, small) in
    ap (λ ts. then_by (operand (reading n) scope ts) (λ x. joints (reading n) scope n r x.0 x.1)) is
    ∙ ap (λ m. then_by (operand (reading n) scope (spelled e ++ rest)) (λ x. joints (reading n) scope m r x.0 x.1)) same
    ∙ row_found (reading n) n (finds n) e scope r k rest small clean fit l ends
    ∙ row_ends (reading n) n (finds n) e scope r k rest past

ends_whole : (e : Written) → Ends e []
ends_whole e = record { joints = refl; choice = and_right (takes_else e) false refl }

pub one_expression : WordsSpellOneExpression
one_expression scope one other clean fit fit' same =
    let n = suc (size one + size other) in
    let small : size one < n = omega arith in
    let small' : size other < n = omega arith in
    let left =
    finds n one scope 1 (spelled one) [] (sym (append-nil (spelled one))) small clean fit (one_le_rank one) refl
    (ends_whole one) in
    let right =
    finds n other scope 1 (spelled one) [] (same ∙ sym (append-nil (spelled other))) small' clean fit'
    (one_le_rank other) refl (ends_whole other) in
    (some_pair_parts one other [] [] (sym left ∙ right)).0
