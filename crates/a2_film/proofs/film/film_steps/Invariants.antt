use Rattle.std.proofs.Common.{◌≡◌, ◌≤◌, ◌-◌, length}
use Rattle.arrayvec.specs.ArrayVec.{array_vec_len}
use Rattle.a2_bus.specs.Memory.{ram_end}
use Rattle.a2_film.specs.Filmed.{most_kept, seen_by, seen_of}
use Rattle.a2_film.proofs.Filming.{IsFilmed}
use Rattle.a2_film.proofs.film.film_steps.Given as goal

-- the steps so far are executed, and their rows were written, except those that are kept
abbrev pub invariant-loop : goal.invariant-loop
invariant-loop g l = record {
  filmed : IsFilmed (g.W.Output.taker l.fn.writer) (g.W.Output.taker l.writer) (g.S.Steps.rest l.fn.steps l.limit)
      (g.S.Steps.rest l.steps (l.limit - l.counter)) l.rows.items;
  seen : seen_by l.seen ≡ seen_of (g.S.Steps.world l.steps);
  room : array_vec_len l.rows ≤ most_kept;
  size : length l.ram ≡ ram_end;
}
