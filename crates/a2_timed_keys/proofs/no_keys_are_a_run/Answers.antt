use Rattle.std.proofs.Common.{◌≡◌, ◌∙◌, ℕ, [], ap, sym, refl, arith}
use Rattle.a2_services.specs.World.{World}
use Rattle.a2_machine.specs.Meaning.{Code, stuck, world_at}
use Rattle.a2_timed_keys.specs.Typed.{world_with_keys}
use Rattle.a2_timed_keys.proofs.Worlds.{with-more, world-start, typed-nil}
use Rattle.a2_timed_keys.proofs.no_keys_are_a_run.Goals as goal

-- with no keys the worlds are those of a run
same : (code : Code) (start : World) (n : ℕ) → world_with_keys code start [] n ≡ world_at code start n
same code start n =
    with-more code start [] 0 n n (omega arith) (λ k l h. refl)
    ∙ ap (λ w. world_at code w n) (world-start code start [] ∙ typed-nil start)

pub returns : goal.returns
returns c = λ code start limit end is. record {
  within = is.within;
  reached = is.reached ∙ same code start end.steps;
  first = λ k l. ap (λ w. stuck code w) (sym (same code start k)) ∙ is.first k l;
  cause = is.cause;
}
