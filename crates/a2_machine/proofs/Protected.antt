-- Protected addresses: only the set of them matters, not how they are listed.
use Rattle.std.specs.Prelude.{◌≡◌, ◌≤◌, ℕ, zero, suc, ◌+◌, Bool, true, false, ◌||◌, ◌&&◌, ◌==◌, nat_lt, nat_le, List, [], ◌∷◌, ◌++◌, if◌then◌else◌, Option, Some, None, refl, is_some}
use Rattle.std.specs.List.{list_any, list_all}
use Rattle.std.proofs.Common.{sym, ap, ap₂, ◌∙◌, arith}
use Rattle.std.proofs.lemmas.Bool.Decides.{nat_tests}
use Rattle.std.proofs.lemmas.List.Folds.{list_any-append}
use Rattle.a2_text.specs.Bytes.{is_among}
use Rattle.a2_opcode.specs.declared.Instr.{Instr}
use Rattle.a2_page.specs.Cells.{numbers_from}
use Rattle.a2_bus.specs.Memory.{ram_end}
use Rattle.a2_services.specs.World.{World}
use Rattle.a2_asm.specs.declared.program.Statement.{Statement}
use Rattle.a2_asm.specs.Programs.{is_code}
use Rattle.a2_machine.specs.Meaning.{stuck_at, stuck, next, statements}
use Rattle.a2_machine.specs.ByteRun.{addresses_below}
use Rattle.a2_machine.proofs.Marking.{among_below}
use Rattle.a2_machine.proofs.Walks.{walked}

abbrev pub SameMembers : List ℕ → List ℕ → Type 0
SameMembers p q = (a : ℕ) → is_among p a ≡ is_among q a

-- a number in the list that passes the test is found
any-found : (p : ℕ → Bool) (ns : List ℕ) (a : ℕ) → is_among ns a ≡ true → p a ≡ true → list_any p ns ≡ true
any-found p [] a among is = cc
any-found p (n ∷ ns) a among is = grind (arith, nat_tests, any-found p ns a, among, is)

-- if each member of one list is in the other, a member that passes in one is found in the other
carried : (f : ℕ → Bool) (p q : List ℕ) → ((a : ℕ) → is_among p a ≡ true → is_among q a ≡ true) → list_any f p ≡ true → list_any f q ≡ true
carried f [] q into h = cc
carried f (n ∷ p) q into h =
    let rest : list_any f p ≡ true → list_any f q ≡ true = carried f p q (λ a among. into a (grind (arith, among))) in
    grind (arith, nat_tests, into n, any-found f q n, rest, h)

same_any : (f : ℕ → Bool) (p q : List ℕ) → SameMembers p q → list_any f p ≡ list_any f q
same_any f p q same = grind (arith, carried f p q (λ k h. sym (same k) ∙ h), carried f q p (λ k h. same k ∙ h))

-- the same holds for steps and parts of runs
pub same_cause : (at : ℕ → Option Instr) (p q : List ℕ) → SameMembers p q → (w : World) → stuck (statements at p) w ≡ stuck (statements at q) w
unfolding stuck stuck_at statements
same_cause at p q same w = let alike : is_among p ≡ is_among q = λ i a. same a i in grind (arith, alike, same_any)

pub same_walk : (at : ℕ → Option Instr) (p q : List ℕ) → SameMembers p q → (w : World) (n : ℕ) → walked (statements at p) w n ≡ walked (statements at q) w n
unfolding walked next statements
same_walk at p q same w zero = refl
same_walk at p q same w (suc n) =
    ap₂ (λ o r. let s : Option World = elim o [ Some cause ↦ None | None ↦ r ] in s) (same_cause at p q same w) (same_walk at p q same (next (statements at q) w) n)

-- The bytes of instruction statements, listed

abbrev pub bytes_of_statement : Statement → List ℕ
bytes_of_statement s = if is_some s.instr then numbers_from s.addr s.length else []

abbrev pub code_bytes : List Statement → List ℕ
code_bytes [] = []
code_bytes (s ∷ more) = bytes_of_statement s ++ code_bytes more

among-numbers : (first count a : ℕ) → is_among (numbers_from first count) a ≡ (nat_le first a && nat_lt a (first + count))
among-numbers first zero a = grind (arith, nat_tests)
among-numbers first (suc count) a = ap (λ v. (first == a) || v) (among-numbers (suc first) count a) ∙ grind (arith, nat_tests)

pub code-bytes : (all : List Statement) (a : ℕ) → is_among (code_bytes all) a ≡ is_code all a
code-bytes [] a = refl
code-bytes (s ∷ more) a =
    list_any-append (λ m. m == a) (bytes_of_statement s) (code_bytes more) ∙ grind (arith, code-bytes more a, among-numbers s.addr s.length a)

below : (p : List ℕ) (a : ℕ) → list_all (λ n. nat_lt n ram_end) p ≡ true → ram_end ≤ a → is_among p a ≡ false
below [] a h high = refl
below (n ∷ p) a h high = grind (arith, nat_tests, below p a, h, high)

-- the guard's list and this one have the same members if the code is in RAM
pub guarded : (all : List Statement) → list_all (λ n. nat_lt n ram_end) (code_bytes all) ≡ true → SameMembers (addresses_below ram_end (is_code all)) (code_bytes all)
guarded all low a =
    grind (arith, nat_tests, among_below ram_end (is_code all) a, code-bytes all a, below (code_bytes all) a low)
