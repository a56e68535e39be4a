use Rattle.std.proofs.Common.{sym, ◌∙◌, subst}
use Rattle.a2_bus.specs.Memory.{Memory}
use Rattle.a2_bus.specs.View.{memory_of}
use Rattle.a2_footprint.specs.Services.{changed_by}
use Rattle.a2_promise_certify.specs.Walking.{AreMarked}
use Rattle.a2_promise_certify.proofs.Cursors.{under_mask}
use Rattle.a2_promise_certify.proofs.service_stores.mark_output.Goals as goal

pub returns : goal.returns
returns c = λ is.
    let m : Memory = memory_of c.args.space.now in
    subst (λ byte. AreMarked c.args.stored.now c.mark_put.new.stored c.args.changes.now (changed_by byte m))
    (c.masked-byte.ensures ∙ under_mask c.args.byte c.load.result m (sym c.load.ensures.byte)) (c.mark_put.ensures is m c.in-Some.ensures.0)
