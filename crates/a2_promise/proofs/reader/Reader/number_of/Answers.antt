use Rattle.std.proofs.Common.{sym, ap, ◌∙◌, take, map, reverse}
use Rattle.std.proofs.lemmas.List.{take-map}
use Rattle.a2_promise.specs.Grammar.{number_among}
use Rattle.a2_promise.proofs.reader.Reader.number_of.Goals as goal

pub returns-in-Some : goal.returns-in-Some
returns-in-Some c =
    let name = c.args.name.now in
    let names = c.args.self.now.names in
    c.in-Some.ensures.number ∙ ap (λ names. number_among (reverse names) name) (sym (take-map (λ one. one.now) c.min.result names))
    ∙ ap (λ n. number_among (reverse (take n (map (λ one. one.now) names))) name) c.min.ensures

pub returns-in-None : goal.returns-in-None
returns-in-None c =
    let name = c.args.name.now in
    let names = c.args.self.now.names in
    c.in-None.ensures.number ∙ ap (λ names. number_among (reverse names) name) (sym (take-map (λ one. one.now) c.min.result names))
    ∙ ap (λ n. number_among (reverse (take n (map (λ one. one.now) names))) name) c.min.ensures
