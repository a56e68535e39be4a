use Rattle.std.proofs.Common.{◌<◌, arith}
use Rattle.std.proofs.lemmas.List.Elements.{All-more}
use Rattle.a2_debug_script.proofs.Keys.{NoneBelow-rest}
use Rattle.a2_debug_script.proofs.typing.typed_below.Goals as goal

pub loop-typed-preserved : goal.loop-typed-preserved
loop-typed-preserved c = record {
  known = omega arith;
  under = All-more (λ t. t.count < c.args.count) c.args.log.now _ (record { count = 0; key = 0 }) (omega arith) c.loop-typed.invariant.under c.if-log-typed.true;
}

pub returns-else-log-typed-clause-later : goal.returns-else-log-typed-clause-later
returns-else-log-typed-clause-later c =
    let first = NoneBelow-rest c.args.log.now c.loop-typed.typed (record { count = 0; key = 0 }) c.requires (omega arith) in omega arith
