use Rattle.std.proofs.Common.{◌≡◌, false, not, is_some, Option, Some, None, ap, ◌∙◌}
use Rattle.std.specs.Option.{IfNone}
use Rattle.a2_promise.specs.Reading.{token_of}
use Rattle.a2_promise.proofs.Names.{may}
use Rattle.a2_promise.proofs.words.may_name.Goals as goal

none_of : {X : Type 0} (r : Option X) (P : Type 0) → is_some r ≡ false → IfNone r P → P
none_of (Some x) P e h = cc
none_of None P e h = h

pub returns-then-is_none : goal.returns-then-is_none
returns-then-is_none c = λ yes.
    let text = c.args.token.text.now in
    let none = none_of c.infix_of.result _ (c.is_none-then-is_none.ensures ∙ ap not yes) c.infix_of.ensures.none in (
      c.in-Word.is,
      may text (none_of c.opening_of.result _ c.if-is_none.ensures c.opening_of.ensures.none c.in-Word.is)
          (λ join e l. none join (ap (λ class. token_of class text) c.in-Word.is ∙ e) l),
    )
