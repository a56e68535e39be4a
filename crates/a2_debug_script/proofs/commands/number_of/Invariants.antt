use Rattle.std.proofs.Common.{◌≡◌, ◌+◌, ◌*◌, ◌≤◌, drop, fold}
use Rattle.std.specs.List.{list_all}
use Rattle.a2_text.specs.Bytes.{is_digit, digit, value_of_digits}
use Rattle.a2_debug_script.proofs.commands.number_of.Given as goal

abbrev pub invariant-loop-c : goal.invariant-loop-c
invariant-loop-c l = record {
  small : l.n ≤ 4294967295;
  value : fold (λ n c. n * 10 + digit c) l.n (drop l.c-index l.digits) ≡ value_of_digits 10 l.digits;
  digits : list_all is_digit (drop l.c-index l.digits) ≡ list_all is_digit l.digits;
}
