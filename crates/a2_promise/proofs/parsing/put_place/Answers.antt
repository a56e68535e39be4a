use Rattle.std.proofs.Common.{arith}
use Rattle.a2_promise.proofs.Laying.{on_ok, nothing_of, again_of}
use Rattle.a2_promise.proofs.parsing.put_place.Goals as goal

pub returns-then-further-eq0 : goal.returns-then-further-eq0
returns-then-further-eq0 c = λ e m. rw c.if-further-eq0.true nothing_of

pub returns : goal.returns
returns c = λ e m. on_ok c.again.result (c.again.ensures m.0) (again_of c.args.span c.args.further (omega arith) m)
