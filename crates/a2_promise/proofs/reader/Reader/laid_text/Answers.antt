use Rattle.std.proofs.Common.{◌≡◌, Some, refl, ap, sym, ◌∙◌, arith}
use Rattle.a2_promise.specs.Tokens.{quoted, tokens}
use Rattle.a2_promise.specs.Reading.{first, token_of}
use Rattle.a2_promise.proofs.States.{quoted_text}
use Rattle.a2_promise.proofs.reader.Reader.laid_text.Goals as goal

pub returns-in-Single : goal.returns-in-Single
returns-in-Single c =
    let stands : first (tokens c.args.self.now.rest.now) ≡ Some (quoted 39 c.next-token.result.text.now) =
    sym c.next-token.ensures.first ∙ ap (λ it. token_of it c.next-token.result.text.now) c.in-Single.is in (
      39,
      c.take.ensures (quoted 39 c.next-token.result.text.now) stands,
      quoted_text 39 c.next-token.result.text.now c.args.self.now.rest.now stands,
      λ character. omega arith,
    )

pub returns-in-Double : goal.returns-in-Double
returns-in-Double c =
    let stands : first (tokens c.args.self.now.rest.now) ≡ Some (quoted 34 c.next-token.result.text.now) =
    sym c.next-token.ensures.first ∙ ap (λ it. token_of it c.next-token.result.text.now) c.in-Double.is in (
      34,
      c.take-in-Double.ensures (quoted 34 c.next-token.result.text.now) stands,
      quoted_text 34 c.next-token.result.text.now c.args.self.now.rest.now stands,
      λ character. refl,
    )
