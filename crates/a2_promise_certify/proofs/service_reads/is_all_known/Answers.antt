use Rattle.std.specs.Prelude.{ℕ, Bool, List, ◌++◌}
use Rattle.std.specs.List.{list_all}
use Rattle.std.proofs.Common.{sym, ap, subst, ◌∙◌}
use Rattle.a2_bus.specs.View.{memory_of}
use Rattle.a2_effect.specs.View.{registers_of}
use Rattle.a2_services.specs.Rows.{service_row}
use Rattle.a2_services.specs.declared.rows.Row.{Row}
use Rattle.a2_footprint.specs.Services.{screen_bytes_used, bytes_used, fit_bytes, service_reads, continuation_bytes}
use Rattle.a2_footprint.specs.Reads.{Knows}
use Rattle.a2_promise_certify.specs.Walking.{known_now}
use Rattle.a2_promise_certify.proofs.Walking.{knows_all, knows_both}
use Rattle.a2_promise_certify.proofs.service_reads.is_all_known.Goals as goal

pub returns : goal.returns
unfolding service_reads
returns c = λ is before.
    let known : ℕ → Bool = known_now c.args.known.now c.args.stored.now in
    let way : List ℕ = continuation_bytes c.args.service c.args.regs.now.s in
    let fit : List ℕ = fit_bytes (service_row c.args.service).needs in
    knows_both known (way ++ fit) (bytes_used c.args.service (registers_of c.args.regs.now) (memory_of c.args.space.now))
    (knows_both known way fit
    (knows_all known way (ap (list_all known) (sym c.continuation_bytes.ensures) ∙ sym c.are_known.ensures ∙ c.if-not-are_known.false))
    (knows_all known fit (ap (list_all known) (sym (c.bytes_of_needs.ensures ∙ ap (λ (row : Row). fit_bytes row.needs) c.row_of.ensures)) ∙ sym c.are_known-else-not-are_known.ensures ∙ c.if-not-are_known-2.false)))
    (subst (λ (row : Row). Knows known (screen_bytes_used row.on_screen (registers_of c.args.regs.now) (memory_of c.args.space.now))) c.row_of-2.ensures
    (c.is_used_known.ensures is))
