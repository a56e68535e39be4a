-- What a machine's marks mean for an address.
use Rattle.std.specs.Prelude.{◌≡◌, ℕ, zero, suc, ◌%◌, ◌<◌, ◌≤◌, ◌==◌, nat_le, ◌||◌, not, List, length, slice_index, replicate, Bool, true, false, refl}
use Rattle.std.proofs.Common.{sym, ap, ◌∙◌, arith}
use Rattle.std.proofs.lemmas.Bool.Decides.{nat_tests}
use Rattle.std.proofs.lemmas.List.{get_or_past}
use Rattle.std.proofs.lemmas.Nat.{and_mask}
use Rattle.a2_text.specs.Bytes.{is_among}
use Rattle.a2_burst.specs.Marks.{AreMarks}
use Rattle.a2_services.specs.declared.rows.Service.{Service}
use Rattle.a2_services.specs.declared.rows.Service.TheVariants.{Cout}
use Rattle.a2_services.specs.Rows.{services}
use Rattle.a2_bus.specs.Memory.{ram_end}
use Rattle.a2_machine.specs.declared.code_guard.Marked.{Marked}
use Rattle.a2_machine.specs.Marks.{is_set, begins, begins_by, lies, guard_of, guard_if, first_mark, AreStarted, BeginOnlyBelow}
use Rattle.a2_machine.specs.CodeGuards.{is_blocked, IsCodeGuard, ArePlainMarks}
use Rattle.a2_machine.specs.Outcome.{admits, protected_by}
use Rattle.a2_machine.proofs.Marking.{among_below}

pub admits-is : (on : Bool) (marks : List ℕ) (marked : Marked) (a : ℕ) → IsCodeGuard on marks marked → a < 65536
    → begins marks a ≡ admits (guard_if on marks) a
unfolding guard_of
admits-is on marks marked a guard within = grind (arith, nat_tests, among_below ram_end (begins marks) a, guard.above, guard.free)

pub protects-is : (on : Bool) (marks : List ℕ) (marked : Marked) (a : ℕ) → IsCodeGuard on marks marked → a < 65536
    → lies marks a ≡ is_among (protected_by (guard_if on marks)) a
unfolding guard_of
protects-is on marks marked a guard within = grind (arith, nat_tests, among_below ram_end (lies marks) a, guard.above, guard.free)

-- a plain instruction begins where bit 0 is set
begun : (mark : ℕ) → (mark % 2 == 1) ≡ true → is_set 1 mark ≡ true
begun mark e =
    let one : mark % 2 ≡ 1 = grind (arith, nat_tests, e) in
    ap (λ n. not (n == 0)) (and_mask mark 1 ∙ one)

pub started_marks : (marks : List ℕ) → AreStarted marks → AreMarks marks
started_marks marks started = record {
  size = started.size;
  inside = λ a within may. omega (arith, started.inside a (begun (slice_index marks a) may));
  following = λ a high within. ap (λ n. nat_le 2 n) (started.above a high within);
}

pub started_above : (marks : List ℕ) → AreStarted marks → (a : ℕ) → ram_end ≤ a → a < 65536 → (begins marks a ≡ false) × (lies marks a ≡ false)
started_above marks started a high within = (ap begins_by (started.above a high within), ap (is_set 2) (started.above a high within))

pub admitted-ends : (on : Bool) (marks : List ℕ) (marked : Marked) → IsCodeGuard on marks marked
    → (a : ℕ) → a < ram_end → admits (guard_if on marks) a ≡ true → a < marked.end
admitted-ends on marks marked guard a low is =
    guard.ends a low (admits-is on marks marked a guard (omega (arith, low)) ∙ is)

-- the initial marks of a program
module _ (marks : List ℕ) (first : (a : ℕ) → a < 65536 → slice_index marks a ≡ first_mark false a) where
  pub first_begins : (a : ℕ) → a < ram_end → begins marks a ≡ false
  first_begins a low = grind (arith, nat_tests, first a, low)

  pub first_ends : BeginOnlyBelow marks 0
  first_ends a low is = grind (arith, first_begins a low, is)

  pub first_lies : (a : ℕ) → a < ram_end → lies marks a ≡ false
  first_lies a low = grind (arith, nat_tests, first a, low)

  pub first_started : length marks ≡ 65536 → AreStarted marks
  first_started size = record {
    size = size;
    inside = λ a is. grind (arith, nat_tests, first a, get_or_past marks a 0, is, size);
    above = λ a high within. grind (arith, nat_tests, first a, high, within);
  }

pub none_blocked : (service : Service) → is_blocked (replicate (length services) false) service ≡ false
none_blocked Cout = refl
none_blocked _ = refl

-- a mark below 2 means that there is no code
unlaid : (mark : ℕ) → nat_le 2 mark ≡ false → is_set 2 mark ≡ false
unlaid zero e = refl
unlaid (suc zero) e = refl
unlaid (suc (suc n)) e = grind (arith, nat_tests, e)

-- nothing is protected above RAM
nowhere : (on : Bool) (marks : List ℕ) (a : ℕ) → ram_end ≤ a → is_among (protected_by (guard_if on marks)) a ≡ false
unfolding guard_of
nowhere on marks a high = grind (arith, nat_tests, among_below ram_end (lies marks) a, high)

-- plain steps can rely on a guard's marks
pub plain-marks : (on : Bool) (marks : List ℕ) (marked : Marked) → IsCodeGuard on marks marked → ArePlainMarks (guard_if on marks) marks
plain-marks on marks marked guard = record {
  are = guard.marks_are;
  admitted = λ a may.
      let within : a < 65536 = grind (arith, nat_tests, get_or_past marks a 0, guard.marks_are.size, may) in (
        sym (admits-is on marks marked a guard within) ∙ ap (λ v. v || is_set 8 (slice_index marks a)) (begun (slice_index marks a) may),
        omega (arith, guard.marks_are.inside a within may),
      );
  storable = λ a free. grind (arith, protects-is on marks marked a guard, unlaid (slice_index marks a) free, nowhere on marks a);
}
