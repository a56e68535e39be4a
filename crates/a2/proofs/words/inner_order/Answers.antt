use Rattle.std.proofs.Common.{rules, map, string_bytes}
use Rattle.clap.specs.Words.{found_of, rows_of}
use Rattle.a2.specs.Words.{HasLooseKeys}
use Rattle.a2.proofs.RunWords.{refused_run}
use Rattle.a2.proofs.words.inner_order.Goals as goal

pub returns-in_err-run_order-in-run-clause-refused : goal.returns-in_err-run_order-in-run-clause-refused
returns-in_err-run_order-in-run-clause-refused c =
    let words = map string_bytes c.args.words.now in
    let loose : HasLooseKeys words → ⊥ = λ has. let is = c.has_loose_keys.ensures.1 has in search rules in
    let refusal = refused_run words c.args.name.now (rows_of (found_of c.args.inner.now)) _ c.in-run.is loose c.in_err-run_order-in-run.ensures.refused in
    search rules
