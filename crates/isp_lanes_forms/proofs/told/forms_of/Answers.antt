use Rattle.std.proofs.Common.{List, map, subst}
use Rattle.isp_code.specs.declared.instr.Instr.{Instr}
use Rattle.isp_lanes_read.specs.Rows.{rows_of}
use Rattle.isp_lanes_forms.specs.reader.Lists.{LinesAllowed}
use Rattle.isp_lanes_forms.proofs.Lists.{function_pushed, all_allowed}
use Rattle.isp_lanes_forms.proofs.told.forms_of.Goals as goal

pub loop-number-preserved : goal.loop-number-preserved
loop-number-preserved c =
    function_pushed (rows_of c.args.tables.now) c.loop-number.number c.functions-routines.result.now c.args.code.now.routines c.loop-number.functions.items c.push.new.self.items _ _ c.functions-routines.ensures.same
    c.in_ok-push.ensures.items c.loop-number.invariant c.loop-number-test.true c.index-routines-number.is
    (subst (λ (is : List Instr). LinesAllowed (rows_of c.args.tables.now) c.loop-number.number is c.in_ok-line_forms.field-0.items) c.deref.ensures.value c.in_ok-line_forms.ensures)

pub returns : goal.returns
returns c =
    all_allowed (rows_of c.args.tables.now) c.args.code.now c.loop-number.number c.functions-routines.result.now (map (λ v. v.items) c.loop-number.functions.items) c.functions-routines.ensures.same c.loop-number-test.false
    c.loop-number.invariant.1
