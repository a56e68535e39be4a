-- Why arguments are rejected.
use Rattle.std.specs.Prelude.{◌≡◌, ℕ, List, Option, Some, None, codes, get_or, option_map, unwrap_or}
use Rattle.std.proofs.Common.{ap, ap₂, arith, inl, inr, subst, sym, ◌∙◌}
use Rattle.clap.specs.Words.{Row, Text, subcommand_rows_of}
use Rattle.clap.specs.Matches.{subcommand_name_of}
use Rattle.clap.specs.declared.parser.ArgMatches.{ArgMatches}
use Rattle.a2.specs.declared.words.WordsFault.{WordsFault}
use Rattle.a2.specs.declared.words.WordsFault.TheVariants.{Words, Keys, Memory}
use Rattle.a2.specs.Words.{HasLooseKeys, IsRefusal, IsRefusalOf, IsTaken, IsWhole, IsWholeRun, RefusesRun}

some_is_none : {A : Type 0} (a : A) → Some a ≡ None → ⊥
some_is_none a e = let P : Option _ → Type 0 = λ o. elim o as (λ _. Type 0) [ Some _ ↦ Unit {0} | None ↦ ⊥ ] in subst P e tt

-- the first byte of a subcommand's name, which is enough to tell the subcommands apart
abbrev first_byte : Text → ℕ
first_byte text = get_or text 0 0

-- valid arguments of `run`
whole_run : (words : List Text) (name : Text) (values : List Row) → name ≡ codes "run" → IsWhole words name values → IsWholeRun words values
whole_run words name values is (inl whole) = let bad : 114 ≡ 97 = ap first_byte (sym is ∙ whole.0) in absurd (omega (arith, bad))
whole_run words name values is (inr (inl whole)) = let bad : 114 ≡ 109 = ap first_byte (sym is ∙ whole.0) in absurd (omega (arith, bad))
whole_run words name values is (inr (inr (inl whole))) = let bad : 114 ≡ 100 = ap first_byte (sym is ∙ whole.0) in absurd (omega (arith, bad))
whole_run words name values is (inr (inr (inr whole))) = whole.1

-- arguments of `run` without loose keys are rejected for the reason that `run` has
pub refused_run : (words : List Text) (name : Text) (values : List Row) (fault : WordsFault) → name ≡ codes "run" → (HasLooseKeys words → ⊥)
    → RefusesRun values fault → IsRefusalOf words name values fault
refused_run words name values Words named loose refuses =
    λ whole. let run = whole_run words name values named whole in refuses run.file run.most run.limit
refused_run words name values Keys named loose refuses =
    (named, record { file = refuses.0; most = refuses.1.0; limit = refuses.1.1; keys = loose }, refuses.2)
refused_run words name values Memory named loose refuses = absurd refuses

-- if the values that `clap` found are rejected, the arguments are
some_same : {A : Type 0} (a b : A) → Some a ≡ Some b → a ≡ b
some_same a b same = ap (λ o. unwrap_or o a) same

pub refused_words : (words : List Text) (name : Text) (values : List Row) → IsTaken words name values → (fault : WordsFault)
    → IsRefusalOf words name values fault → IsRefusal words fault
refused_words words name values taken Words refusal = λ name' values' taken'.
    let same : (name, values) ≡ (name', values') = some_same (name, values) (name', values') (sym taken.found ∙ taken'.found) in
    let P : Text × List Row → Type 0 = λ p. ¬ (IsWhole words p.0 p.1) in
    subst P same refusal
refused_words words name values taken Keys refusal = (name, values, taken, refusal)
refused_words words name values taken Memory refusal = tt

-- a subcommand's name and its values, which the code reads separately
pair_of : {A B C : Type 0} (f : A → B × C) (o : Option A) (n : B) (r : C) → Some r ≡ option_map (λ p. p.1) (option_map f o)
    → Some n ≡ option_map (λ a. (f a).0) o → option_map f o ≡ Some (n, r)
pair_of f None n r second first = absurd (some_is_none n first)
pair_of f (Some a) n r second first = ap Some (ap₂ (λ x y. (x, y)) (sym (some_same n (f a).0 first)) (sym (some_same r (f a).1 second)))

pub found_subcommand : (found : ArgMatches) (name : Text) (values : List Row) → Some values ≡ option_map (λ p. p.1) (subcommand_rows_of found)
    → Some name ≡ subcommand_name_of found → subcommand_rows_of found ≡ Some (name, values)
found_subcommand found name values rows named = pair_of _ _ name values rows named
