use Rattle.std.proofs.Common.{◌≡◌, ◌+◌, ◌*◌, ◌≤◌, drop, fold}
use Rattle.std.specs.List.{list_all}
use Rattle.a2_text.specs.Bytes.{is_digit_in, digit, value_of_digits}
use Rattle.a2_text.proofs.numbers.number_in.Given as goal

abbrev pub invariant-loop-c : goal.invariant-loop-c
invariant-loop-c l = record {
  small : l.n ≤ 65535;
  value : fold (λ n c. n * l.base + digit c) l.n (drop l.c-index l.digits) ≡ value_of_digits l.base l.digits;
  digits : list_all (is_digit_in l.base) (drop l.c-index l.digits) ≡ list_all (is_digit_in l.base) l.digits;
}
