use Rattle.a2_effect.specs.Live.{live_registers}
use Rattle.a2_services.proofs.Unreached.{unreached_by, fewer_by}
use Rattle.a2_services.proofs.calls.call_outlined.Goals as goal

pub returns-in-None-clause-unreached : goal.returns-in-None-clause-unreached
returns-in-None-clause-unreached g c =
    unreached_by c.args.service (live_registers c.args.live.now) c.args.space.now (live_registers c.serve.new.live) c.serve.new.space c.serve.result
    c.refusal.ensures.size c.serve.ensures.size (c.serve.ensures.served 0)

pub returns-in-None-clause-keys : goal.returns-in-None-clause-keys
returns-in-None-clause-keys g c =
    fewer_by c.args.service (live_registers c.args.live.now) c.args.space.now (live_registers c.serve.new.live) c.serve.new.space c.serve.result (c.serve.ensures.served 0)
