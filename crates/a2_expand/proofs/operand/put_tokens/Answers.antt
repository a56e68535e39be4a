use Rattle.std.proofs.Common.{◌≡◌, Bool, true, false, rules}
use Rattle.a2_expand.specs.Expressions.{pieces}
use Rattle.a2_expand.proofs.Known.{no_address}
use Rattle.a2_expand.proofs.operand.put_tokens.Goals as goal

clash : (b : Bool) → b ≡ true → b ≡ false → ⊥
clash b t f = cc

-- an expression with a value has no address
pub returns : goal.returns
returns g c = λ z says. absurd (clash _ (c.has_address.ensures (search rules)) (no_address c.args.known.now.constants.now (pieces c.args.tokens.now) z says))
