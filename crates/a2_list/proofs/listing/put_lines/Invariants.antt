use Rattle.std.proofs.Common.{◌≡◌, ◌+◌, ◌++◌, codes, map, drop}
use Rattle.a2_page.proofs.Sending.{IsLeft}
use Rattle.a2_hex.specs.Images.{held}
use Rattle.a2_list.specs.Listing.{listing_rows, rows_and_gap}
use Rattle.a2_list.proofs.listing.put_lines.Given as goal

-- the rows of the lines so far were written
abbrev pub invariant-loop-text : goal.invariant-loop-text
invariant-loop-text g l = record {
  counted : l.number ≡ l.text-index + 1;
  left : IsLeft (g.W.Output.taker l.fn.writer) (g.W.Output.taker l.writer) (rows_and_gap l.cycles l.program (map (λ x. x.now) l.texts))
      (listing_rows l.cycles (held l.image) l.rest l.number (drop l.text-index (map (λ x. x.now) l.texts)) ++ codes "\n");
}
