-- The worlds of a program that is played.
use Rattle.std.proofs.Common.{◌≡◌, ℕ, zero, suc, ◌+◌, ◌<◌, ◌≤◌, List, [], ◌∷◌, ◌++◌, refl, sym, ap, ap₂, ◌∙◌, arith}
use Rattle.std.proofs.lemmas.List.{append-nil}
use Rattle.a2_asm.specs.Assembled.{Assembled}
use Rattle.a2_machine.specs.Meaning.{next, world_at}
use Rattle.a2_timed_keys.specs.declared.strokes.Typed.{Typed}
use Rattle.a2_timed_keys.specs.Typed.{typed, keys_at, world_before_keys}
use Rattle.a2_timed_keys.proofs.Keys.{keys_at-append, keys_at-not, keys_at-here}
use Rattle.a2_timed_keys.proofs.Worlds.{typed-typed, typed-nil, world-typed as with-typed, with-more, world-start as with-start}
use Rattle.a2_play.specs.Played.{code_of_play, start, world_with_keys, NoneAbove}
use Rattle.a2_play.proofs.Keys.{keys_at-past}

module _ (program : Assembled) where
  pub before-same : (xs ys : List Typed) (n : ℕ) → ((i : ℕ) → i < n → keys_at xs i ≡ keys_at ys i)
      → world_before_keys (code_of_play program) (start program) xs n ≡ world_before_keys (code_of_play program) (start program) ys n
  unfolding world_before_keys
  before-same xs ys zero h = refl
  before-same xs ys (suc n) h =
      ap₂ (λ ks w. next (code_of_play program) (typed ks w)) (h n (omega arith)) (before-same xs ys n (λ i l. h i (omega (arith, l))))

  -- one more step, and more of them
  pub world-more : (log : List Typed) (n k m : ℕ) → NoneAbove n log → m ≡ n + k
      → world_with_keys program log m ≡ world_at (code_of_play program) (world_with_keys program log n) k
  world-more log n k m h e = with-more (code_of_play program) (start program) log n k m e (λ i l g. keys_at-past log n i h l)

  -- a key typed after a number of steps
  pub push-before : (log : List Typed) (t : Typed) (i : ℕ) → i < t.steps → keys_at (log ++ t ∷ []) i ≡ keys_at log i
  push-before log t i l =
      keys_at-append log (t ∷ []) i ∙ ap (λ ks. keys_at log i ++ ks) (keys_at-not t i (λ e. omega (arith, l, e))) ∙ append-nil (keys_at log i)

  before-push : (log : List Typed) (t : Typed) (i : ℕ) → i ≤ t.steps
      → world_before_keys (code_of_play program) (start program) (log ++ t ∷ []) i ≡ world_before_keys (code_of_play program) (start program) log i
  before-push log t i l = before-same (log ++ t ∷ []) log i (λ j k. push-before log t j (omega (arith, k, l)))

  pub world-typed : (log : List Typed) (t : Typed) → world_with_keys program (log ++ t ∷ []) t.steps ≡ typed (t.key ∷ []) (world_with_keys program log t.steps)
  world-typed log t =
      with-typed (code_of_play program) (start program) (log ++ t ∷ []) t.steps
      ∙ ap₂ (λ ks w. typed ks w)
      (keys_at-append log (t ∷ []) t.steps ∙ ap (λ ks. keys_at log t.steps ++ ks) (keys_at-here t t.steps refl))
      (before-push log t t.steps (omega arith))
      ∙ sym (typed-typed (keys_at log t.steps) (t.key ∷ []) (world_before_keys (code_of_play program) (start program) log t.steps))
      ∙ ap (λ w. typed (t.key ∷ []) w) (sym (with-typed (code_of_play program) (start program) log t.steps))

  pub world-earlier : (log : List Typed) (t : Typed) (i : ℕ) → i < t.steps → world_with_keys program (log ++ t ∷ []) i ≡ world_with_keys program log i
  world-earlier log t i l =
      with-typed (code_of_play program) (start program) (log ++ t ∷ []) i
      ∙ ap₂ (λ ks w. typed ks w) (push-before log t i l) (before-push log t i (omega (arith, l)))
      ∙ sym (with-typed (code_of_play program) (start program) log i)

  -- at the start
  pub world-start-at : world_with_keys program [] 0 ≡ start program
  world-start-at = with-start (code_of_play program) (start program) [] ∙ typed-nil (start program)
