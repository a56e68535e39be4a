use Rattle.std.proofs.Common.{◌≡◌, ◌∙◌, ap, Bool}
use Rattle.a2_play.specs.Played.{machine_after, with_key}
use Rattle.a2_play.proofs.Runs.{played_noted}
use Rattle.a2_play.proofs.player.Player.type_key.Goals as goal

pub returns-clause-played : goal.returns-clause-played
returns-clause-played g c =
    let typed : c.type_at.new.machine ≡ with_key c.args.key c.self.inside.machine =
    c.type_at.ensures.typed ∙ ap (λ (b : Bool). machine_after b c.args.key c.self.inside.machine) c.if-not-type_at.false in
    rw (← c.self.view_is)
    (λ program at. played_noted program c.self.inside.machine c.type_at.new.machine c.self.inside.log.items c.try_reserve.new.self.items c.note_key.new.log.items
    c.args.key c.steps-steps.result c.requires (c.type_at.ensures.room.0 c.if-not-type_at.false) at typed c.try_reserve.ensures.items c.steps-steps.ensures
    c.note_key.ensures)
