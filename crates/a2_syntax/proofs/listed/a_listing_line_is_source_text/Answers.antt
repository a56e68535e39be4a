use Rattle.a2_syntax.proofs.ListedLaws.{listing-line}
use Rattle.a2_syntax.proofs.listed.a_listing_line_is_source_text.Goals as goal

pub returns : goal.returns
returns c = listing-line
