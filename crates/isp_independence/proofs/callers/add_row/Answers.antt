use Rattle.isp_independence.specs.Tables.{lists_of}
use Rattle.isp_independence.proofs.Turning.{row_more, row_all}
use Rattle.isp_independence.proofs.callers.add_row.Goals as goal

pub loop-called-preserved : goal.loop-called-preserved
loop-called-preserved c =
    row_more (lists_of c.args.callers.now.items) (lists_of c.loop-called.callers.items) (lists_of c.add_caller.new.callers.items) c.args.row.now c.loop-called.called-index c.args.caller c.loop-called-test.true
    c.loop-called.invariant c.in_ok-add_caller.ensures

pub returns : goal.returns
returns c = row_all (lists_of c.args.callers.now.items) (lists_of c.loop-called.callers.items) c.args.row.now c.loop-called.called-index c.args.caller c.loop-called-test.false c.loop-called.invariant
