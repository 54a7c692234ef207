use Rattle.isp_gang_run.specs.Due.{own, packing_due}
use Rattle.std.proofs.Common.{ap}
use Rattle.isp_gang_run.proofs.Progress.{leaves_as}
use Rattle.isp_gang_run.specs.declared.tasks.Packing.{Packing}
use Rattle.isp_gang_run.proofs.PackedCalls.{store_next, load_next, load_next_halts}
use Rattle.isp_gang_run.proofs.Results.{on_ok, if_err}
use Rattle.isp_gang_run.proofs.state.Evaluator.packed.Goals as goal

pub returns-in_ok-both-in-Store-clause-ok : goal.returns-in_ok-both-in-Store-clause-ok
returns-in_ok-both-in-Store-clause-ok c =
    store_next c.args.self.now c.both.new.self c.in-Store.value c.args.array c.args.elem c.sole-first.result c.args.span c.args.set c.args.packing c.in-Store.is c.sole-first.ensures c.in_ok-both-in-Store.ensures.ok

pub returns-in-Load-clause-ok : goal.returns-in-Load-clause-ok
returns-in-Load-clause-ok c =
    on_ok c.packed_load.result (load_next c.args.self.now c.packed_load.new.self c.in-Load.variable c.sole-first.result c.args.array c.args.elem c.args.span c.args.set c.args.packing c.in-Load.is c.sole-first.ensures) c.packed_load.ensures.ok

pub returns-in-Load-clause-err : goal.returns-in-Load-clause-err
returns-in-Load-clause-err c =
    if_err c.packed_load.result (λ e h. load_next_halts c.args.self.now c.packed_load.new.self c.in-Load.variable c.sole-first.result c.args.array
    c.args.elem c.args.span c.args.set c.args.packing e c.in-Load.is c.sole-first.ensures h) c.packed_load.ensures.err

pub returns-in_ok-both-in-Store-clause-fewer : goal.returns-in_ok-both-in-Store-clause-fewer
returns-in_ok-both-in-Store-clause-fewer c =
    leaves_as c.args.self.now c.both.new.self c.args.self.now.left (ap (λ (p : Packing). own c.args.self.now packing_due p) c.in-Store.is) c.in_ok-both-in-Store.ensures.fewer

pub returns-in-Load-clause-fewer : goal.returns-in-Load-clause-fewer
returns-in-Load-clause-fewer c =
    on_ok c.packed_load.result (leaves_as c.args.self.now c.packed_load.new.self c.args.self.now.left (ap (λ (p : Packing). own c.args.self.now packing_due p) c.in-Load.is)) c.packed_load.ensures.fewer
