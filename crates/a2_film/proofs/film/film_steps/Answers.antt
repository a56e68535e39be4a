use Rattle.std.proofs.Common.{◌≡◌, ℕ, ◌+◌, ◌-◌, suc, ap, sym, ◌∙◌, subst, arith, length}
use Rattle.a2_film.specs.Filmed.{seen_of, only}
use Rattle.a2_film.specs.Runs.{Part}
use Rattle.a2_film.proofs.Filming.{IsFilmed, filmed-none, filmed-next, filmed-handed, films-end, end-cause, films-broken}
use Rattle.a2_film.proofs.film.film_steps.Goals as goal

pub loop-init : goal.loop-init
loop-init g c =
    let all : c.args.limit ≡ c.args.limit - 0 = omega arith in record {
      filmed = subst (λ (n : ℕ). IsFilmed (g.W.Output.taker c.args.writer.now) (g.W.Output.taker c.args.writer.now)
          (g.S.Steps.rest c.args.steps.now c.args.limit) (g.S.Steps.rest c.args.steps.now n) c.new-rows.result.items) all
          (filmed-none (g.W.Output.taker c.args.writer.now) (g.S.Steps.rest c.args.steps.now c.args.limit) c.new-rows.result.items
          c.new-rows.ensures);
      seen = c.of-seen.ensures ∙ ap seen_of c.machine.ensures.world;
      room = omega (arith, ap length c.new-rows.ensures);
      size = c.requires.size;
    }

pub loop-preserved : goal.loop-preserved
loop-preserved g c =
    let left : c.args.limit - c.loop.counter ≡ suc (c.args.limit - (c.loop.counter + 1)) = omega (arith, c.loop-test.true) in
    let before = g.W.Output.taker c.args.writer.now in
    let here = g.W.Output.taker c.loop.writer in
    let whole = g.S.Steps.rest c.args.steps.now c.args.limit in
    let next = c.args.limit - (c.loop.counter + 1) in
    record {
      filmed = filmed-handed before here (g.W.Output.taker c.put_many.new.writer) whole (g.S.Steps.rest c.film_step.new.steps next)
          c.film_step.new.rows.items c.put_many.new.rows.items
          (filmed-next before here whole (g.S.Steps.rest c.loop.steps) (g.S.Steps.rest c.film_step.new.steps)
          (c.args.limit - c.loop.counter) next c.loop.rows.items c.film_step.new.rows.items left c.loop.invariant.filmed
          c.if-not-film_step.ensures.step)
          c.in_ok-put_many.ensures.rows;
      seen = c.film_step.ensures.seen;
      room = c.in_ok-put_many.ensures.room;
      size = c.film_step.ensures.size;
    }

pub returns-in_err-put_many-clause-lines : goal.returns-in_err-put_many-clause-lines
returns-in_err-put_many-clause-lines g c =
    let left : c.args.limit - c.loop.counter ≡ suc (c.args.limit - (c.loop.counter + 1)) = omega (arith, c.loop-test.true) in
    let before = g.W.Output.taker c.args.writer.now in
    let here = g.W.Output.taker c.loop.writer in
    let whole = g.S.Steps.rest c.args.steps.now c.args.limit in
    let next = c.args.limit - (c.loop.counter + 1) in
    films-broken before here (g.W.Output.taker c.put_many.new.writer) whole (g.S.Steps.rest c.film_step.new.steps next)
    c.film_step.new.rows.items c.from_residual.result c.from_residual.ensures.0
    (filmed-next before here whole (g.S.Steps.rest c.loop.steps) (g.S.Steps.rest c.film_step.new.steps)
    (c.args.limit - c.loop.counter) next c.loop.rows.items c.film_step.new.rows.items left c.loop.invariant.filmed
    c.if-not-film_step.ensures.step)
    c.in_err-put_many.ensures.rows

-- the run is at its end
pub returns-then-not-film_step-clause-lines : goal.returns-then-not-film_step-clause-lines
returns-then-not-film_step-clause-lines g c =
    let over = c.if-not-film_step.ensures.step in
    films-end (g.W.Output.taker c.args.writer.now) (g.W.Output.taker c.loop.writer) (g.W.Output.taker c.put_end.new.writer)
    (g.S.Steps.rest c.args.steps.now c.args.limit) (g.S.Steps.rest c.loop.steps (c.args.limit - c.loop.counter)) c.loop.rows.items
    c.cause.result c.put_end.result c.loop.invariant.filmed
    (over.1 (c.args.limit - c.loop.counter) ∙ ap only (ap (λ (p : Part). p.cause) c.cause.ensures))
    (rw (sym over.0) c.put_end.ensures.lines)

pub returns-then-not-film_step-clause-cause : goal.returns-then-not-film_step-clause-cause
returns-then-not-film_step-clause-cause g c =
    let over = c.if-not-film_step.ensures.step in
    end-cause (g.W.Output.taker c.args.writer.now) (g.W.Output.taker c.loop.writer)
    (g.S.Steps.rest c.args.steps.now c.args.limit) (g.S.Steps.rest c.loop.steps (c.args.limit - c.loop.counter)) c.loop.rows.items
    c.cause.result c.put_end.result c.loop.invariant.filmed
    (over.1 (c.args.limit - c.loop.counter) ∙ ap only (ap (λ (p : Part). p.cause) c.cause.ensures)) c.put_end.ensures.cause

-- the limit is reached
pub returns-clause-lines : goal.returns-clause-lines
returns-clause-lines g c =
    let none : c.args.limit - c.loop.counter ≡ 0 = omega (arith, c.loop-test.false) in
    films-end (g.W.Output.taker c.args.writer.now) (g.W.Output.taker c.loop.writer) (g.W.Output.taker c.put_end-2.new.writer)
    (g.S.Steps.rest c.args.steps.now c.args.limit) (g.S.Steps.rest c.loop.steps (c.args.limit - c.loop.counter)) c.loop.rows.items
    c.cause-2.result c.put_end-2.result c.loop.invariant.filmed
    (ap (g.S.Steps.rest c.loop.steps) none ∙ c.cause-2.ensures) c.put_end-2.ensures.lines

pub returns-clause-cause : goal.returns-clause-cause
returns-clause-cause g c =
    let none : c.args.limit - c.loop.counter ≡ 0 = omega (arith, c.loop-test.false) in
    end-cause (g.W.Output.taker c.args.writer.now) (g.W.Output.taker c.loop.writer)
    (g.S.Steps.rest c.args.steps.now c.args.limit) (g.S.Steps.rest c.loop.steps (c.args.limit - c.loop.counter)) c.loop.rows.items
    c.cause-2.result c.put_end-2.result c.loop.invariant.filmed
    (ap (g.S.Steps.rest c.loop.steps) none ∙ c.cause-2.ensures) c.put_end-2.ensures.cause
