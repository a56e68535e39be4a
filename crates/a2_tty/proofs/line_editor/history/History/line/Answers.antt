use Rattle.std.proofs.Common.{◌-◌, ap, ◌∙◌}
use Rattle.a2_tty.specs.Histories.{aged}
use Rattle.a2_tty.proofs.Lists.{no_line}
use Rattle.a2_tty.proofs.line_editor.history.History.line.Goals as goal

pub returns-in-None : goal.returns-in-None
returns-in-None c = no_line (λ line. line.items) c.self.inside.ring.items c.args.age (c.len-2.result - c.args.age) (ap (λ n. n - c.args.age) c.len-2.ensures.len) c.in-None.ensures
    ∙ ap (aged c.args.age) c.self.view_is
