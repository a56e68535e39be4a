use Rattle.std.proofs.Common.{rules}
use Rattle.a2_promise.proofs.Laying.{on_ok, laid_fixed, laid_made}
use Rattle.a2_promise.proofs.parsing.is_laid.Goals as goal

pub returns-in-Fixed : goal.returns-in-Fixed
returns-in-Fixed c = λ phrase top p.
    on_ok c.puts.result c.puts.ensures (laid_fixed c.in-Fixed.address c.args.further c.args.code (rw c.in-Fixed.is at p) (search rules) (search rules))

pub returns-in_ok-put_place-in-Made : goal.returns-in_ok-put_place-in-Made
returns-in_ok-put_place-in-Made c = λ phrase top p.
    let placed = rw c.in-Made.is at p in
    on_ok c.puts-in-Made.result c.puts-in-Made.ensures (laid_made c.in-Made.span c.args.further c.args.code placed (c.in_ok-put_place-in-Made.ensures placed.0 placed.3)
    (search rules) (search rules))
