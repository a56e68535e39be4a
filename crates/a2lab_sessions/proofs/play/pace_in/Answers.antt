use Rattle.std.proofs.Common.{◌≡◌, ℕ, List, Option, Some, sym, subst, codes, MatchOption}
use Rattle.a2_arguments.specs.Found.{found_of, text_given}
use Rattle.a2_play.specs.declared.pace.Pace.{Pace}
use Rattle.a2_play.specs.Paces.{apple}
use Rattle.a2lab_sessions.specs.PlayWords.{IsPace}
use Rattle.a2lab_sessions.proofs.play.pace_in.Goals as goal

-- a text that names no pace
no-pace : (given : Option (List ℕ)) (text : List ℕ) (pace : Pace) → Some text ≡ given → ((other : Pace) → IsPace text other → ⊥)
    → MatchOption given (pace ≡ apple) (λ t. IsPace t pace) → ⊥
no-pace given text pace is none named = none pace (subst (λ (o : Option (List ℕ)). MatchOption o (pace ≡ apple) (λ t. IsPace t pace)) (sym is) named)

pub returns-in-None-clause-refused : goal.returns-in-None-clause-refused
returns-in-None-clause-refused c = λ pace named.
    no-pace (text_given (codes "--pace") (found_of c.args.arguments.now)) c.in-Some.text.now pace c.in-Some.ensures c.in-None.ensures.none named
