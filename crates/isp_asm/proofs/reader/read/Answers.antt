use Rattle.std.proofs.Common.{Some, None, sym, ◌∙◌, rules}
use Rattle.isp_asm.specs.Faults.{fault_of}
use Rattle.isp_asm.specs.reader.Drafting.{drafted, seen_of}
use Rattle.isp_asm.proofs.LineSteps.{at_refused, empty_list, end_found, end_refused, feed_split, line_step, more_left, no_end, number_step, only_code, only_memory, some_list, text_step}
use Rattle.isp_asm.proofs.reader.read.Goals as goal
use Rattle.isp_asm.proofs.reader.read.Goals.{else-is_empty-via-then-is_empty+else-may_end, else-is_empty-via-else-is_empty}

pub loop-line-preserved : goal.loop-line-preserved
loop-line-preserved c =
    let cut = feed_split c.loop-line.rest.now (Some (c.in-Some.line, c.in-Some.behind)) c.in-Some.ensures.cases in
    let added = c.in_default-line.ensures.ok in
    record {
      draft = added.draft;
      text = text_step _ _ c.in-Some.line.now c.in-Some.behind.now c.loop-line.rest.now c.args.text.now added.lines cut.0 c.loop-line.invariant.text;
      fault = rw added.seen (line_step _ c.loop-line.number c.loop-line.rest.now c.in-Some.line.now c.in-Some.behind.now _ cut.1 added.fine c.loop-line.invariant.fault);
      number = number_step c.loop-line.number _ c.in-Some.line.now c.in-Some.behind.now c.loop-line.rest.now cut.0 c.loop-line.invariant.number;
      utf8 = search rules;
    }

pub returns-in-Err-clause-refused : goal.returns-in-Err-clause-refused
returns-in-Err-clause-refused c =
    let cut = feed_split c.loop-line.rest.now (Some (c.in-Some.line, c.in-Some.behind)) c.in-Some.ensures.cases in
    at_refused _ c.loop-line.number c.loop-line.rest.now c.in-Some.line.now c.in-Some.behind.now _ c.in-Err.fault c.at.result cut.1 c.loop-line.invariant.fault c.in-Err.ensures.err c.at.ensures

pub returns-in-Err-clause-only : goal.returns-in-Err-clause-only
returns-in-Err-clause-only c =
    let cut = feed_split c.loop-line.rest.now (Some (c.in-Some.line, c.in-Some.behind)) c.in-Some.ensures.cases in
    only_memory c.args.text.now c.at.result (at_refused _ c.loop-line.number c.loop-line.rest.now c.in-Some.line.now c.in-Some.behind.now _ c.in-Err.fault c.at.result cut.1 c.loop-line.invariant.fault c.in-Err.ensures.err c.at.ensures)

pub returns-then-may_end-clause-found : goal.returns-then-may_end-clause-found
returns-then-may_end-clause-found c =
    rw c.into_code.ensures.code (end_found (drafted c.loop-line.draft) c.loop-line.rest.now c.args.text.now c.loop-line.invariant.text
    (empty_list c.loop-line.rest.now c.is_empty.result c.is_empty.ensures c.if-is_empty.true) (sym c.may_end.ensures ∙ c.if-may_end.true))

pub returns-then-may_end-clause-only : goal.returns-then-may_end-clause-only
returns-then-may_end-clause-only c =
    only_code c.args.text.now c.into_code.result c.into_code.ensures.writable
    (rw c.into_code.ensures.code (end_found (drafted c.loop-line.draft) c.loop-line.rest.now c.args.text.now c.loop-line.invariant.text
    (empty_list c.loop-line.rest.now c.is_empty.result c.is_empty.ensures c.if-is_empty.true) (sym c.may_end.ensures ∙ c.if-may_end.true)))

pub returns-else-is_empty-clause-refused : goal.returns-else-is_empty-clause-refused
returns-else-is_empty-clause-refused c =
    end_refused (seen_of (drafted c.loop-line.draft)) c.loop-line.number c.loop-line.rest.now (fault_of c.args.text.now) (feed_split c.loop-line.rest.now None c.in_default.ensures.cases)
    (elim c.else-is_empty.branch [
      | else-is_empty-via-then-is_empty+else-may_end w ↦ no_end c.loop-line.rest.now c.loop-line.draft.last (sym w.may_end.ensures ∙ w.if-may_end.false)
      | else-is_empty-via-else-is_empty w ↦ more_left c.loop-line.rest.now c.loop-line.draft.last (some_list c.loop-line.rest.now c.is_empty.result c.is_empty.ensures w.if-is_empty.false)
    ])
    c.loop-line.invariant.fault

pub returns-else-is_empty-clause-only : goal.returns-else-is_empty-clause-only
returns-else-is_empty-clause-only c =
    only_memory c.args.text.now _
    (end_refused (seen_of (drafted c.loop-line.draft)) c.loop-line.number c.loop-line.rest.now (fault_of c.args.text.now) (feed_split c.loop-line.rest.now None c.in_default.ensures.cases)
    (elim c.else-is_empty.branch [
      | else-is_empty-via-then-is_empty+else-may_end w ↦ no_end c.loop-line.rest.now c.loop-line.draft.last (sym w.may_end.ensures ∙ w.if-may_end.false)
      | else-is_empty-via-else-is_empty w ↦ more_left c.loop-line.rest.now c.loop-line.draft.last (some_list c.loop-line.rest.now c.is_empty.result c.is_empty.ensures w.if-is_empty.false)
    ])
    c.loop-line.invariant.fault)
