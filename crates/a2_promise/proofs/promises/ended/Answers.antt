use Rattle.std.proofs.Common.{ap, sym, ◌∙◌}
use Rattle.a2_promise.specs.Tokens.{tokens}
use Rattle.a2_promise.specs.Reading.{token_of}
use Rattle.a2_promise.proofs.Facts.{nothing_left}
use Rattle.a2_promise.proofs.promises.ended.Goals as goal

pub returns-in-End : goal.returns-in-End
returns-in-End c =
    nothing_left (tokens c.args.reader.now.rest.now) (sym (ap (λ it. token_of it c.next.result.text.now) c.in-End.is) ∙ c.next.ensures.first)
