-- What a server shows of its session.
use Rattle.a2_lsp.specs.declared.server.Stage.{Stage}
use Rattle.a2_lsp.specs.declared.server.Server.{Server}

-- how far the session of a server has come
abbrev pub stage_of : Server → Stage
stage_of server = server.stage
