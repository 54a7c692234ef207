-- Each call has what it asks, and the finished code does what the tree means.
use Rattle.std.proofs.Common.{◌≡◌, ◌∙◌, ap, arith, is_some, subst, sym}
use Rattle.std.proofs.lemmas.Result.{IfOk-weaker}
use Rattle.isp_lower.specs.Adding.{Adds, FewMore, Takes, simple_in}
use Rattle.isp_lower.specs.Drafts.{Draft, begun, draft_of, finished, with_instr}
use Rattle.isp_lower_code.specs.Asks.{simple_asks}
use Rattle.isp_registers.specs.Reserved.{Has}
use Rattle.isp_typed.specs.Views.{function_of, program_of}
use Rattle.isp_tests_lower.specs.Runs.{AssignmentRuns}
use Rattle.isp_tests_lower.specs.Trees.{assignment, site, variables}
use Rattle.isp_tests_lower.proofs.Called.{can_be_written, next_few, none_named, assignment_few, assignment_runs, assignment_takes, assignment_written}
use Rattle.isp_tests_lower.proofs.Drafted.{assignment_fine, assignment_rated, heading_fits, second_small}
use Rattle.isp_tests_lower.proofs.emitted.assignment_code.Goals as goal

pub begin-requires : goal.begin-requires
begin-requires c = heading_fits (function_of c.args.f.now) variables c.requires.function second_small

pub store-requires : goal.store-requires
store-requires c =
    let p = program_of c.args.checked.now in
    let f = function_of c.args.f.now in
    let d = draft_of c.begin.new.self in
    let first = c.in_ok-begin.ensures.begun ∙ ap (begun f) c.new-e.ensures in
    let is = c.requires.tree in
    record {
      fine = assignment_fine _ _ is;
      rated = assignment_rated _ _ is;
      takes = subst (λ x. Takes d (simple_asks x 3) site) (sym is) (assignment_takes p f c.requires.function d first c.own_is_there.ensures c.asks_are_few.ensures);
    }

pub fresh-requires : goal.fresh-requires
fresh-requires c =
    let p = program_of c.args.checked.now in
    let f = function_of c.args.f.now in
    let e1 = c.begin.new.self in
    let e2 = c.store.new.self in
    let first = c.in_ok-begin.ensures.begun ∙ ap (begun f) c.new-e.ensures in
    let is = c.requires.tree in
    let more : FewMore (draft_of e1) (draft_of e2) (simple_asks assignment 3) = subst (λ x. FewMore (draft_of e1) (draft_of e2) (simple_asks x 3)) is c.in_ok-store.ensures.few in
    let named = c.in_ok-store.ensures.all_named (none_named p f c.requires.function (draft_of e1) first) in
    record {
      begun = ap (λ (d : Draft). is_some d.heading) c.in_ok-store.ensures.code.kept ∙ ap (λ (d : Draft). is_some d.heading) first;
      few = next_few p f c.requires.function (draft_of e1) first c.next_is_behind.ensures (draft_of e2) (simple_asks assignment 3) (assignment_few c.asks_are_few.ensures) more named;
    }

pub emit-requires : goal.emit-requires
emit-requires c =
    let first = c.in_ok-begin.ensures.begun ∙ ap (begun (function_of c.args.f.now)) c.new-e.ensures in
    ap (λ (d : Draft). is_some d.heading) c.in_ok-fresh.ensures.added ∙ ap (λ (d : Draft). is_some d.heading) c.in_ok-store.ensures.code.kept ∙ ap (λ (d : Draft). is_some d.heading) first

pub finish-requires : goal.finish-requires
finish-requires c =
    let p = program_of c.args.checked.now in
    let f = function_of c.args.f.now in
    let e1 = c.begin.new.self in
    let e2 = c.store.new.self in
    let e3 = c.fresh.new.self in
    let e4 = c.emit.new.self in
    let first = c.in_ok-begin.ensures.begun ∙ ap (begun f) c.new-e.ensures in
    let is = c.requires.tree in
    let adds : Adds e1 e2 (simple_in e2 assignment site) = subst (λ x. Adds e1 e2 (simple_in e2 x site)) is c.in_ok-store.ensures.code in
    let has : Has e2.reserved (simple_asks assignment 3) = subst (λ x. Has e2.reserved (simple_asks x 3)) is c.in_ok-store.ensures.has in
    let back = c.in_ok-emit.ensures.added ∙ ap (λ i. with_instr i (draft_of e3)) c.new.ensures in
    can_be_written p f c.requires.function e1 e2 e3 e4 (simple_in e2 assignment site) first adds c.in_ok-fresh.ensures.added back
    (assignment_written p f c.requires.function e1 e2 first c.code_is_written.ensures adds has) (omega arith)

pub returns : goal.returns
returns c =
    let p = program_of c.args.checked.now in
    let f = function_of c.args.f.now in
    let e1 = c.begin.new.self in
    let e2 = c.store.new.self in
    let e3 = c.fresh.new.self in
    let e4 = c.emit.new.self in
    let first = c.in_ok-begin.ensures.begun ∙ ap (begun f) c.new-e.ensures in
    let is = c.requires.tree in
    let adds : Adds e1 e2 (simple_in e2 assignment site) = subst (λ x. Adds e1 e2 (simple_in e2 x site)) is c.in_ok-store.ensures.code in
    let has : Has e2.reserved (simple_asks assignment 3) = subst (λ x. Has e2.reserved (simple_asks x 3)) is c.in_ok-store.ensures.has in
    let back = c.in_ok-emit.ensures.added ∙ ap (λ i. with_instr i (draft_of e3)) c.new.ensures in
    let runs : AssignmentRuns p f (finished (draft_of e4)) =
    assignment_runs p f c.requires.function e1 e2 e3 e4 first c.in_ok-fresh.ensures.added back c.registers_grow.ensures c.parts_stay.ensures.instructions c.finished_is_written.ensures c.written_runs.ensures adds has in
    IfOk-weaker c.finish.result (λ code. code ≡ finished (draft_of e4)) (AssignmentRuns p f) (λ code is. subst (AssignmentRuns p f) (sym is) runs) c.finish.ensures
