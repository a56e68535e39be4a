use Rattle.std.proofs.Common.{inl, refl}
use Rattle.a2_history.proofs.Holding.{held-by, copy-added, few-left}
use Rattle.a2_history.proofs.checkpoints.hold.Goals as goal

pub add-requires : goal.add-requires
add-requires g c =
    few-left c.args.most c.steps-now.result c.width_of-width.result c.args.held.now.items c.remove_unkept-spare.new.held.items
    c.drop_unkept.new.held.items c.requires c.remove_unkept-spare.ensures c.drop_unkept.ensures.thinned

pub returns-in-Some-clause-holds : goal.returns-in-Some-clause-holds
returns-in-Some-clause-holds g c =
    held-by c.args.most c.steps-now.result c.width_of-width.result c.args.machine.now.state c.args.held.now.items
    c.remove_unkept-spare.new.held.items c.drop_unkept.new.held.items c.add.new.held.items c.steps-now.ensures c.width_of-width.ensures
    c.remove_unkept-spare.ensures c.drop_unkept.ensures.thinned c.drop_unkept.ensures.wanted
    (copy-added c.args.machine.now.state c.in-Some.copy c.drop_unkept.new.held.items c.add.new.held.items c.in-Some.ensures c.add.ensures.added)

pub returns-in_default-clause-holds : goal.returns-in_default-clause-holds
returns-in_default-clause-holds g c =
    held-by c.args.most c.steps-now.result c.width_of-width.result c.args.machine.now.state c.args.held.now.items
    c.remove_unkept-spare.new.held.items c.drop_unkept.new.held.items c.drop_unkept.new.held.items c.steps-now.ensures c.width_of-width.ensures
    c.remove_unkept-spare.ensures c.drop_unkept.ensures.thinned c.drop_unkept.ensures.wanted (inl refl)

pub returns-in_default-clause-few : goal.returns-in_default-clause-few
returns-in_default-clause-few g c =
    few-left c.args.most c.steps-now.result c.width_of-width.result c.args.held.now.items c.remove_unkept-spare.new.held.items
    c.drop_unkept.new.held.items c.requires c.remove_unkept-spare.ensures c.drop_unkept.ensures.thinned
