use Rattle.std.proofs.Common.{◌++◌, ℕ, List, Bor, map, sym, subst}
use Rattle.std.proofs.lemmas.Result.{err_from_is_err_and}
use Rattle.a2_stream.proofs.Joined.{Sends-nil, Sends-then, Breaks-then, Breaks-more}
use Rattle.a2_list.specs.Listing.{rows_and_gap, name_rows}
use Rattle.a2_list.specs.NameTable.{AreInOrder, use_table}
use Rattle.a2_list.proofs.Listed.{name-listing, table-listing, use-listing}
use Rattle.a2_list.proofs.listing.list_lines.Goals as goal

pub returns-in_err-order-clause-meaning : goal.returns-in_err-order-clause-meaning
returns-in_err-order-clause-meaning g c =
    let fault = err_from_is_err_and c.from_residual.result c.from_residual.ensures.1 in
    rw (fault.1, fault.2) (Sends-nil (g.W.Output.taker c.args.writer.now))

pub returns-in_err-put_lines-clause-meaning : goal.returns-in_err-put_lines-clause-meaning
returns-in_err-put_lines-clause-meaning g c =
    let fault = err_from_is_err_and c.from_residual-in_err-put_lines.result c.from_residual-in_err-put_lines.ensures.1 in
    let texts = map (λ (x : Bor (List ℕ)). x.now) c.args.texts.now in
    let order = map (λ (x : Bor (List ℕ)). x.now) c.in_ok-order.order.items in
    let program = c.program-program.result.now in
    rw (fault.1, fault.2) (
      tt,
      rows_and_gap c.args.shown.cycles program texts ++ use_table program.names c.source.result.now order,
      table-listing c.args.shown c.args.assembled.now.text program texts c.source.result.now order c.if-shown.true c.program-program.ensures.of_text c.source.ensures.of_text c.in_ok-order.ensures c.requires,
      Breaks-more _ _ (rows_and_gap c.args.shown.cycles program texts) (use_table program.names c.source.result.now order) c.in_err-put_lines.ensures,
    )

pub returns-in_err-put_use_table-clause-meaning : goal.returns-in_err-put_use_table-clause-meaning
returns-in_err-put_use_table-clause-meaning g c =
    let fault = err_from_is_err_and c.from_residual-in_err-put_use_table.result c.from_residual-in_err-put_use_table.ensures.1 in
    let texts = map (λ (x : Bor (List ℕ)). x.now) c.args.texts.now in
    let order = map (λ (x : Bor (List ℕ)). x.now) c.as_slice.result.now in
    let program = c.program-program.result.now in
    let sorted = subst (λ (l : List (Bor (List ℕ))). AreInOrder program.names (map (λ x. x.now) l)) (sym c.as_slice.ensures.value) c.in_ok-order.ensures in
    rw (fault.1, fault.2) (
      tt,
      rows_and_gap c.args.shown.cycles program texts ++ use_table program.names c.lines-lines.result.now order,
      use-listing c.args.shown c.args.assembled.now.text program texts c.source.result.now c.lines-lines.result.now order c.if-shown.true c.program-program.ensures.of_text c.source.ensures.of_text c.lines-lines.ensures.is sorted c.requires,
      Breaks-then _ _ _ (rows_and_gap c.args.shown.cycles program texts) (use_table program.names c.lines-lines.result.now order) c.in_ok-put_lines.ensures c.in_err-put_use_table.ensures,
    )

pub returns-then-shown-clause-meaning : goal.returns-then-shown-clause-meaning
returns-then-shown-clause-meaning g c =
    let texts = map (λ (x : Bor (List ℕ)). x.now) c.args.texts.now in
    let order = map (λ (x : Bor (List ℕ)). x.now) c.as_slice.result.now in
    let program = c.program-program.result.now in
    let sorted = subst (λ (l : List (Bor (List ℕ))). AreInOrder program.names (map (λ x. x.now) l)) (sym c.as_slice.ensures.value) c.in_ok-order.ensures in (
      rows_and_gap c.args.shown.cycles program texts ++ use_table program.names c.lines-lines.result.now order,
      use-listing c.args.shown c.args.assembled.now.text program texts c.source.result.now c.lines-lines.result.now order c.if-shown.true c.program-program.ensures.of_text c.source.ensures.of_text c.lines-lines.ensures.is sorted c.requires,
      Sends-then _ _ _ (rows_and_gap c.args.shown.cycles program texts) (use_table program.names c.lines-lines.result.now order) c.in_ok-put_lines.ensures c.in_ok-put_use_table.ensures,
    )

pub returns-in_err-put_lines-2-clause-meaning : goal.returns-in_err-put_lines-2-clause-meaning
returns-in_err-put_lines-2-clause-meaning g c =
    let fault = err_from_is_err_and c.from_residual-in_err-put_lines-2.result c.from_residual-in_err-put_lines-2.ensures.1 in
    let texts = map (λ (x : Bor (List ℕ)). x.now) c.args.texts.now in
    let program = c.program-program.result.now in
    rw (fault.1, fault.2) (
      tt,
      rows_and_gap c.args.shown.cycles program texts ++ name_rows program.names,
      name-listing c.args.shown c.args.assembled.now.text program texts c.if-shown.false c.program-program.ensures.of_text c.requires,
      Breaks-more _ _ (rows_and_gap c.args.shown.cycles program texts) (name_rows program.names) c.in_err-put_lines-2.ensures,
    )

pub returns-in_err-put_names-clause-meaning : goal.returns-in_err-put_names-clause-meaning
returns-in_err-put_names-clause-meaning g c =
    let fault = err_from_is_err_and c.from_residual-in_err-put_names.result c.from_residual-in_err-put_names.ensures.1 in
    let texts = map (λ (x : Bor (List ℕ)). x.now) c.args.texts.now in
    let program = c.program-program.result.now in
    rw (fault.1, fault.2) (
      tt,
      rows_and_gap c.args.shown.cycles program texts ++ name_rows program.names,
      name-listing c.args.shown c.args.assembled.now.text program texts c.if-shown.false c.program-program.ensures.of_text c.requires,
      Breaks-then _ _ _ (rows_and_gap c.args.shown.cycles program texts) (name_rows program.names) c.in_ok-put_lines-2.ensures (rw c.names.ensures at c.in_err-put_names.ensures),
    )

pub returns-clause-meaning : goal.returns-clause-meaning
returns-clause-meaning g c =
    let texts = map (λ (x : Bor (List ℕ)). x.now) c.args.texts.now in
    let program = c.program-program.result.now in (
      rows_and_gap c.args.shown.cycles program texts ++ name_rows program.names,
      name-listing c.args.shown c.args.assembled.now.text program texts c.if-shown.false c.program-program.ensures.of_text c.requires,
      Sends-then _ _ _ (rows_and_gap c.args.shown.cycles program texts) (name_rows program.names) c.in_ok-put_lines-2.ensures (rw c.names.ensures at c.in_ok-put_names.ensures),
    )
