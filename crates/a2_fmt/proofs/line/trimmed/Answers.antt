use Rattle.std.proofs.lemmas.Str.Ascii.{trim_ascii_end_is}
use Rattle.a2_fmt.proofs.line.trimmed.Goals as goal

pub returns : goal.returns
returns c = trim_ascii_end_is c.args.text.now c.trim_ascii_end.result.now c.trim_ascii_end.ensures.value
