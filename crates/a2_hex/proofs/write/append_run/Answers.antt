use Rattle.std.proofs.Common.{ℕ, length, ap, sym, ◌∙◌, arith, length-append}
use Rattle.std.proofs.lemmas.Grind.{common_steps}
use Rattle.a2_hex.proofs.WriteLaws.{run-step, run_gap}
use Rattle.a2_hex.proofs.write.append_run.Goals as goal

pub returns-in_default-clause-items : goal.returns-in_default-clause-items
returns-in_default-clause-items g c = grind (arith, common_steps, run_gap)

pub loop-i-preserved : goal.loop-i-preserved
loop-i-preserved g c = record {
  items = run-step _ _ _ _ _ c.loop-i.i _ _ c.loop-i-test.true (sym c.get.ensures.held ∙ c.in-Some.is) c.loop-i.invariant.items (rw (c.append.ensures.bytes, c.hex_pair.ensures));
  room = omega (arith, ap length c.append.ensures.bytes, length-append {A = ℕ});
}
