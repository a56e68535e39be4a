use Rattle.std.proofs.Common.{refl}
use Rattle.a2_promise.specs.Reading.{token_of}
use Rattle.a2_promise.proofs.States.{rest_is}
use Rattle.a2_promise.proofs.reader.Reader.take.Goals as goal

pub returns : goal.returns
returns c = λ token e. record {
  left = rest_is (token_of c.token_in.result.0.class c.token_in.result.0.text.now) c.token_in.result.1.now c.args.self.now.rest.now token c.token_in.ensures.found e;
  parts = refl;
  scope = refl;
}
