use Rattle.std.specs.Prelude.{◌-◌, ◌∷◌, length, take, drop, slice_index_or}
use Rattle.std.proofs.Common.{sym, subst}
use Rattle.a2_promise_certify.specs.declared.input.Input.TheVariants.{A}
use Rattle.a2_promise_certify.specs.Settling.{AreSettled}
use Rattle.a2_promise_certify.proofs.Settling.{first_of, one_free, one_settled}
use Rattle.a2_promise_certify.proofs.settled_bytes.+settle.Goals as goal

pub returns-then-write_settled : goal.returns-then-write_settled
returns-then-write_settled t c =
    let inputs = c.args.inputs.now in
    subst (λ xs. AreSettled c.args.clauses.now c.args.among.now xs c.in_ok-free.free.items c.args.space.now c.write_settled.new.space)
    (first_of inputs c.in-len1-up.len_at_least)
    (one_settled c.args.clauses.now c.args.among.now (slice_index_or inputs 0 A) (take (length inputs - 1) (drop 1 inputs)) c.in_ok-free.free.items
    c.args.space.now c.settle.new.space c.write_settled.new.space c.write_settled.ensures.rest c.in_ok-free.ensures
    (c.write_settled.ensures.laid c.if-write_settled.true))

pub returns : goal.returns
returns t c =
    let inputs = c.args.inputs.now in
    subst (λ xs. AreSettled c.args.clauses.now c.args.among.now xs c.push.new.self.items c.args.space.now c.write_settled.new.space)
    (first_of inputs c.in-len1-up.len_at_least)
    (subst (λ free. AreSettled c.args.clauses.now c.args.among.now (slice_index_or inputs 0 A ∷ take (length inputs - 1) (drop 1 inputs)) free c.args.space.now c.write_settled.new.space)
    (sym c.in_ok-push.ensures.items)
    (one_free c.args.clauses.now c.args.among.now (slice_index_or inputs 0 A) (take (length inputs - 1) (drop 1 inputs)) c.in_ok-free.free.items
    c.args.space.now c.settle.new.space c.write_settled.new.space c.write_settled.ensures.rest c.in_ok-free.ensures))
