use Rattle.std.proofs.Common.{rules, ◌∙◌}
use Rattle.a2_check.proofs.Cuts.{read-line, unread-line}
use Rattle.a2_check.proofs.unread.is_read.Goals as goal
use Rattle.a2_check.proofs.unread.is_read.Goals.{in-Ok, in-Err+in_ok-refused-in-Err}

pub returns-clause-read : goal.returns-clause-read
returns-clause-read g c =
    elim c.match-parse.branch [
      | in-Ok w ↦ rw w.result-is (λ _. read-line c.args.line.now c.as_slice.result.now _ (c.as_slice.ensures.value ∙ c.ended.ensures) c.requires.one w.in-Ok.ensures.read)
      | in-Err+in_ok-refused-in-Err w ↦ rw w.result-is (search rules)
    ]

pub returns-clause-unread : goal.returns-clause-unread
returns-clause-unread g c =
    elim c.match-parse.branch [
      | in-Ok w ↦ rw w.result-is (search rules)
      | in-Err+in_ok-refused-in-Err w ↦
          rw w.result-is (λ _. unread-line c.args.line.now c.as_slice.result.now w.in-Err.fault (c.as_slice.ensures.value ∙ c.ended.ensures) c.requires.one c.requires.short
          (w.in-Err.ensures.refused w.in_ok-refused-in-Err.ensures.source))
    ]
