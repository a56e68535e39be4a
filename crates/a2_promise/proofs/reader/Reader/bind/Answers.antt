use Rattle.std.proofs.Common.{refl, arith, ap, sym, ◌∙◌, ◌≡◌, ◌<◌, ◌+◌, ℕ, min, List, ◌∷◌, length, map, take, reverse, slice_set}
use Rattle.std.proofs.lemmas.List.{length-reverse, length-map, length-take-le}
use Rattle.a2_promise.specs.Reading.{scope_of}
use Rattle.a2_promise.proofs.States.{bound_more}
use Rattle.a2_promise.proofs.reader.Reader.bind.Goals as goal

pub returns : goal.returns
returns c =
    let names = c.args.self.now.names in
    let n = c.args.self.now.named in
    let l : length names ≡ 4 = omega arith in
    let room : n < 4 = omega arith in
    let here : min n 4 ≡ n = omega (arith, room) in
    let more : min (n + 1) 4 ≡ n + 1 = omega (arith, room) in
    let around : ℕ → List (List ℕ) = λ k. reverse (take k (map (λ name. name.now) names)) in
    record {
      left = refl;
      parts = refl;
      scope =
          ap (λ around. record (scope_of c.args.self.now) { around = around })
          (ap (λ k. reverse (take k (map (λ name. name.now) (slice_set names n c.args.name)))) more
          ∙ bound_more (λ name. name.now) names n c.args.name (omega arith) ∙ ap (λ k. c.args.name.now ∷ around k) (sym here));
      number =
          ap (λ k. length (around k)) here ∙ length-reverse (take n (map (λ name. name.now) names))
          ∙ length-take-le n (map (λ name. name.now) names) (omega (arith, length-map names (λ name. name.now)));
      room = omega arith;
    }
