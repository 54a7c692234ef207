use Rattle.isp_server.specs.Connections.{Connection, IsFresh, connection_of}
use Rattle.isp_lsp_command.specs.reader.Turns.{Stands}
use Rattle.isp_lsp_command.proofs.connection.serve.Given as goal

-- the connection began anew, and stands as the messages leave it
abbrev pub invariant-loop : goal.invariant-loop
invariant-loop g l = record {
  first : Connection;
  is_fresh : IsFresh l.fn.gang l.fn.version first;
  stands : Stands first (g.R.Read.remaining l.fn.input) (g.O.Sink.written l.fn.out) (connection_of l.server) l.unread.items (g.R.Read.remaining l.input) (g.O.Sink.written l.out) (g.O.Sink.has_failed l.out);
}
