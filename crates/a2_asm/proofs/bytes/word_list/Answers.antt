use Rattle.std.proofs.Common.{arith}
use Rattle.std.proofs.lemmas.List.{append_assoc, take_all}
use Rattle.std.proofs.lemmas.List.Folds.{list_all-append}
use Rattle.std.proofs.lemmas.Grind.{flat_map-append}
use Rattle.a2_asm.proofs.Steps.{read}
use Rattle.a2_asm.specs.Entries.{entries}
use Rattle.a2_asm.proofs.BytesLaws.{values-refused}
use Rattle.a2_asm.proofs.bytes.word_list.Goals as goal

pub unwrap-requires : goal.unwrap-requires
unwrap-requires g c =
    rw c.refuse_values.ensures (values-refused (entries c.args.known.now) 65535 c.args.place c.args.es.now c.loop-e.e-index c.e-item.result c.loop-e-test.true c.e-item.is c.in_default.ensures.refused)

pub loop-e-preserved : goal.loop-e-preserved
loop-e-preserved g c = record {
  bytes = grind (arith, read, flat_map-append, append_assoc);
  taken = grind (arith, read, list_all-append);
  count = omega arith;
  room = omega arith;
}

pub returns-clause-bytes : goal.returns-clause-bytes
returns-clause-bytes g c = rw (take_all c.loop-e.e-index c.args.es.now (omega arith)) at c.loop-e.invariant.bytes

pub returns-clause-taken : goal.returns-clause-taken
returns-clause-taken g c = rw (take_all c.loop-e.e-index c.args.es.now (omega arith)) at c.loop-e.invariant.taken
