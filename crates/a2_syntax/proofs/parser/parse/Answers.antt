use Rattle.a2_syntax.proofs.parser.parse.Goals as goal

pub parse_lines-requires-clause-short : goal.parse_lines-requires-clause-short
parse_lines-requires-clause-short g c = rw c.as_slice.ensures.value c.in_ok-texts.ensures.short
