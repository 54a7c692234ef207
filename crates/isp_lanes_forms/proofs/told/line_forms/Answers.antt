use Rattle.isp_lanes_read.specs.Rows.{rows_of}
use Rattle.isp_lanes_forms.proofs.Lists.{line_pushed, lines_done}
use Rattle.isp_lanes_forms.proofs.told.line_forms.Goals as goal

pub loop-pc-preserved : goal.loop-pc-preserved
loop-pc-preserved c =
    line_pushed (rows_of c.args.tables.now) c.args.function c.loop-pc.pc c.args.instrs.now c.loop-pc.forms.items c.push.new.self.items _ _ c.in_ok-push.ensures.items c.loop-pc.invariant c.loop-pc-test.true
    c.index-instrs-pc.is c.form_of.ensures

pub returns : goal.returns
returns c = lines_done (rows_of c.args.tables.now) c.args.function c.loop-pc.pc c.args.instrs.now c.loop-pc.forms.items c.loop-pc-test.false c.loop-pc.invariant.1
