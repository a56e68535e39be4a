use Rattle.std.proofs.Common.{sym, ap, ◌∙◌, arith, List, ℕ, ◌++◌}
use Rattle.std.proofs.lemmas.List.{append-nil, take_all}
use Rattle.a2_film.specs.Rows.{typed_text}
use Rattle.a2_film.proofs.Keys.{keys-more}
use Rattle.a2_film.proofs.rows.append_typed.Goals as goal

pub loop-key-init : goal.loop-key-init
loop-key-init c = record { items = sym (append-nil c.args.rows.now.items); room = omega arith }

pub loop-key-preserved : goal.loop-key-preserved
loop-key-preserved c = record {
  items = keys-more c.args.rows.now.items c.loop-key.rows.items c.push.new.self.items c.append_digits.new.rows.items c.args.keys.now
      c.loop-key.key-index c.loop-key-test.true c.loop-key.invariant.items c.push.ensures.items c.append_digits.ensures.items;
  room = omega (arith, c.loop-key.invariant.room, c.append_digits.ensures.length, c.push.ensures.len);
}

pub returns-clause-items : goal.returns-clause-items
returns-clause-items c =
    c.loop-key.invariant.items
    ∙ ap (λ (l : List ℕ). c.args.rows.now.items ++ typed_text l) (take_all c.loop-key.key-index c.args.keys.now (omega (arith, c.loop-key-test.false)))
