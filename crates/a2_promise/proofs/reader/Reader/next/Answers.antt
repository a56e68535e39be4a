use Rattle.a2_promise.specs.Reading.{token_of}
use Rattle.a2_promise.proofs.States.{first_is}
use Rattle.a2_promise.proofs.reader.Reader.next.Goals as goal

pub returns-clause-first : goal.returns-clause-first
returns-clause-first c =
    first_is (token_of c.token_in.result.0.class c.token_in.result.0.text.now) c.token_in.result.1.now c.args.self.now.rest.now c.token_in.ensures.found
