use Rattle.std.proofs.Common.{ℕ, take, sym, subst, rules}
use Rattle.a2_monitor_session.specs.Besides.{IsPlain}
use Rattle.a2_monitor_session.proofs.Besides.{in_line, front-plain}
use Rattle.a2_monitor_session.proofs.beside.first_line.Goals as goal

pub returns : goal.returns
returns c = subst (λ (n : ℕ). IsPlain (take n c.args.text.now)) (sym (c.front_len.ensures.is in_line (λ x t k. search rules)))
    (front-plain c.args.text.now)
