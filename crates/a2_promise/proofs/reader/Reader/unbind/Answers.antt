use Rattle.std.proofs.Common.{refl, min, map, take, reverse, ap, ◌∙◌}
use Rattle.a2_promise.specs.Reading.{scope_of}
use Rattle.a2_promise.proofs.States.{unbound, same_scope}
use Rattle.a2_promise.proofs.reader.Reader.unbind.Goals as goal

pub returns : goal.returns
returns c =
    let names = map (λ name. name.now) c.args.self.now.names in
    record {
      left = refl;
      parts = refl;
      scope = λ name scope e l.
          ap (λ named. record (scope_of c.args.self.now) { around = reverse (take (min named 4) names) }) c.from-self.ensures
          ∙ same_scope (scope_of c.args.self.now) scope name (reverse (take (min c.args.number 4) names)) e
          (unbound names c.args.self.now.named c.args.number name scope.around (ap (λ s. s.around) e) l);
    }
