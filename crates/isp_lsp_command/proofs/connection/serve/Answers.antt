use Rattle.std.proofs.Common.{subst, sym}
use Rattle.isp_server.specs.Connections.{connection_of}
use Rattle.isp_lsp_command.specs.reader.Turns.{Stands}
use Rattle.isp_lsp_command.proofs.Turns.{given_up, served, stands_first}
use Rattle.isp_lsp_command.proofs.connection.serve.Goals as goal

pub loop-init : goal.loop-init
loop-init g c =
    let first = connection_of c.new-server.result in
    let had = g.R.Read.remaining c.args.input.now in
    let held = g.O.Sink.written c.args.out.now in
    let failed = g.O.Sink.has_failed c.args.out.now in
    record {
      first = first;
      is_fresh = c.new-server.ensures;
      stands = subst (λ z. Stands first had held first z had held failed) (sym c.new-unread.ensures.items) (stands_first first had held failed c.requires);
    }

pub turn-requires : goal.turn-requires
turn-requires g c = c.loop.invariant.stands.took.1

pub loop-preserved : goal.loop-preserved
loop-preserved g c = record {
  first = c.loop.invariant.first;
  is_fresh = c.loop.invariant.is_fresh;
  stands = c.in-Ok.ensures _ _ _ c.loop.invariant.stands;
}

pub returns-in-Err : goal.returns-in-Err
returns-in-Err g c =
    served c.args.gang c.args.version.now c.loop.invariant.first (g.R.Read.remaining c.args.input.now) (g.O.Sink.written c.args.out.now) (g.R.Read.remaining c.turn.new.input) (g.O.Sink.written c.turn.new.out) (g.O.Sink.has_failed c.turn.new.out) c.in-Err.end
    c.loop.invariant.is_fresh (c.in-Err.ensures _ _ _ c.loop.invariant.stands)

pub returns : goal.returns
returns g c =
    given_up c.args.gang c.args.version.now c.loop.invariant.first _ (g.R.Read.remaining c.args.input.now) (g.O.Sink.written c.args.out.now) _ _ _ _ c.loop.invariant.is_fresh c.loop.invariant.stands
