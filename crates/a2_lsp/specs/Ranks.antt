-- How far a session comes, by the Language Server Protocol 3.17 (microsoft.github.io/language-server-protocol, "Server lifecycle").
use Rattle.std.specs.Prelude.{ℕ}
use Rattle.a2_lsp.specs.declared.server.Stage.{Stage}
use Rattle.a2_lsp.specs.declared.server.Stage.TheVariants.{New, Open, Down, Over}

-- the stages in the order in which a session comes to them
abbrev pub rank : Stage → ℕ
rank New = 0
rank Open = 1
rank Down = 2
rank (Over _) = 3
