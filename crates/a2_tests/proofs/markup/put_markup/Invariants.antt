use Rattle.std.proofs.Common.{drop}
use Rattle.std.specs.List.{flat_map}
use Rattle.a2_page.proofs.Sending.{IsLeft}
use Rattle.a2_tests.specs.Pages.{markup_byte}
use Rattle.a2_tests.proofs.markup.put_markup.Given as goal

-- the bytes so far were written
abbrev pub invariant-loop-c : goal.invariant-loop-c
invariant-loop-c g l =
    IsLeft (g.W.Output.taker l.fn.writer) (g.W.Output.taker l.writer) (flat_map (markup_byte l.has_lines l.is_utf8) l.text)
    (flat_map (markup_byte l.has_lines l.is_utf8) (drop l.c-index l.text))
