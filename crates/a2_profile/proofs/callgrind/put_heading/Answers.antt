use Rattle.std.proofs.Common.{◌≡◌, ℕ, List, [], ◌∷◌, codes, ap, ◌∙◌, subst}
use Rattle.std.specs.List.{concat}
use Rattle.a2_stream.specs.Stream.{SendsOrBreaks}
use Rattle.a2_profile.specs.Callgrind.{heading}
use Rattle.a2_profile.proofs.callgrind.put_heading.Goals as goal

-- the same two pieces among others
same-pieces : (a b c d e x y : List ℕ) → b ≡ x → d ≡ y → concat (a ∷ b ∷ c ∷ d ∷ e ∷ []) ≡ concat (a ∷ x ∷ c ∷ y ∷ e ∷ [])
same-pieces a b c d e x y p q =
    ap (λ (l : List ℕ). concat (a ∷ l ∷ c ∷ d ∷ e ∷ [])) p ∙ ap (λ (l : List ℕ). concat (a ∷ x ∷ c ∷ l ∷ e ∷ [])) q

pub returns : goal.returns
unfolding heading
returns g c =
    subst (SendsOrBreaks (g.W.Output.taker c.args.writer.now) (g.W.Output.taker c.put_all.new.writer) c.put_all.result)
    (same-pieces (codes "# callgrind format\nversion: 1\ncreator: a2lab\ncmd: a2lab profile\npositions: line\nevents: Steps Cycles\nsummary: ")
    c.as_slice.result.now (codes " ") c.as_slice-2.result.now (codes "\nfl=(2) ???\nfl=(1) ") _ _ (c.as_slice.ensures.value ∙ c.decimal-steps.ensures)
    (c.as_slice-2.ensures.value ∙ c.decimal-cycles.ensures))
    c.put_all.ensures
