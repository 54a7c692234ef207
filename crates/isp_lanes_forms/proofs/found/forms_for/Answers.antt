use Rattle.std.proofs.Common.{List, sym, subst}
use Rattle.isp_forms.specs.Tables.{forms_in, lists_of}
use Rattle.isp_forms.specs.declared.form.Form.{Form}
use Rattle.isp_lanes_forms.specs.Begins.{BeginHarmless}
use Rattle.isp_lanes_read.specs.Rows.{rows_of}
use Rattle.isp_lanes_forms.proofs.found.forms_for.Goals as goal

pub returns-then-is_large : goal.returns-then-is_large
returns-then-is_large c =
    subst (λ (l : List (List Form)). BeginHarmless c.args.code.now (forms_in l)) (sym c.kept.ensures) (λ f h xs e. c.runs_by_forms.ensures.harmless c.args.code.now _)

pub returns-then-check-2 : goal.returns-then-check-2
returns-then-check-2 c =
    c.forms_are_harmless.ensures.allowed c.args.code.now (rows_of c.in_ok-tables.tables) (c.check.ensures.masks c.if-check.true) (c.check.ensures.runs c.if-check.true) c.check.ensures.writes
    (forms_in (lists_of c.in_ok-forms.forms)) c.in_ok-forms.ensures (c.check-then-check.ensures c.if-check-2.true)

pub returns : goal.returns
returns c =
    subst (λ (l : List (List Form)). BeginHarmless c.args.code.now (forms_in l)) (sym c.kept-else-check.ensures) (λ f h xs e. c.runs_by_forms.ensures.harmless c.args.code.now _)
