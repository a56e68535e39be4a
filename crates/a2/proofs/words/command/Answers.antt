use Rattle.std.proofs.lemmas.Result.{IfOk-weaker}
use Rattle.a2.proofs.Adding.{with_one_more}
use Rattle.a2.proofs.words.command.Goals as goal

pub returns : goal.returns
returns c =
    let asm = with_one_more _ _ _ _ _ c.bare_command.ensures c.in_ok-with_file.ensures c.in_ok-subcommand.ensures in
    let mon = with_one_more _ _ _ _ _ asm c.in_ok-with_file-2.ensures c.in_ok-subcommand-2.ensures in
    let debug = with_one_more _ _ _ _ _ mon c.in_ok-debug_command.ensures c.in_ok-subcommand-3.ensures in
    IfOk-weaker c.subcommand-4.result _ _ (λ command adds. with_one_more _ _ _ _ _ debug c.in_ok-run_command.ensures adds) c.subcommand-4.ensures
