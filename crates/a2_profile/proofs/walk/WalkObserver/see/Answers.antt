use Rattle.std.proofs.Common.{sym, ap, ◌∙◌}
use Rattle.a2_profile.specs.Walks.{left_below, with_call}
use Rattle.a2_profile.proofs.WalkLaws.{seen-made, seen-full}
use Rattle.a2_profile.proofs.walk.WalkObserver.see.Goals as goal

pub returns-then-has_room : goal.returns-then-has_room
returns-then-has_room g c =
    seen-made c.args.self.now c.args.look c.leave.new.self c.keeps_small.ensures c.is_walk.ensures (sym c.has_room.ensures ∙ c.if-has_room.true)
    (c.leave.ensures ∙ ap (left_below c.args.look.next_s) (c.enter_by.ensures ∙ ap (with_call c.args.look) c.count_step.ensures))

pub returns-else-has_room : goal.returns-else-has_room
returns-else-has_room g c =
    seen-full c.args.self.now c.args.look c.keeps_small.ensures c.is_walk.ensures (sym c.has_room.ensures ∙ c.if-has_room.false)
