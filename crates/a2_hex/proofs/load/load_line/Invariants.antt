use Rattle.std.specs.Prelude.{[]}
use Rattle.std.specs.Option.{unwrap_or}
use Rattle.a2_hex.specs.ObjectLines.{hex_bytes}
use Rattle.a2_hex.proofs.load.load_line.Given as goal

abbrev pub ghost-put_bytes_from : goal.ghost-put_bytes_from
ghost-put_bytes_from g a = unwrap_or (hex_bytes a.bytes.now) []
