use Rattle.std.proofs.Common.{ℕ, List, [], ◌∷◌, subst, arith}
use Rattle.std.proofs.lemmas.List.{nil_from_length}
use Rattle.isp_independence.specs.Tables.{lists_of}
use Rattle.isp_independence.specs.reader.Visits.{Visits}
use Rattle.isp_independence.proofs.Visiting.{Spreading, spreading_begins, spreading_on, spreading_ends}
use Rattle.isp_independence.proofs.spread.spread.Goals as goal

pub loop-function-init : goal.loop-function-init
loop-function-init c = λ calls r l.
    let b = c.args.breach in
    spreading_begins calls b.function b.dependence c.args.found.now.items c.visit.new.found.items c.visit.new.waiting.items
    (subst (λ (w : List ℕ). Visits (b.function ∷ []) b.dependence c.args.found.now.items c.visit.new.found.items w c.visit.new.waiting.items) c.new-waiting.ensures.items c.in_ok-visit.ensures)

pub loop-function-preserved : goal.loop-function-preserved
loop-function-preserved c = λ calls r l.
    let b = c.args.breach in
    let old = c.args.found.now.items in
    let now = c.loop-function.found.items in
    spreading_on calls (lists_of c.args.callers.now) b.function b.dependence old now c.visit_callers.new.found.items c.pop.new.self.items c.visit_callers.new.waiting.items c.in-Some.function r l
    (subst (λ (w : List ℕ). Spreading calls b.function b.dependence old now w) c.in-Some.ensures.items (c.loop-function.invariant calls r l)) c.in_ok-visit_callers.ensures

pub returns : goal.returns
returns c = λ calls r l.
    let b = c.args.breach in
    let old = c.args.found.now.items in
    let now = c.loop-function.found.items in
    let nobody = nil_from_length c.loop-function.waiting.items (omega (arith, c.in_default.ensures.cases.0, c.loop-function.waiting.ok.0)) in
    spreading_ends calls b.function b.dependence old now (subst (λ (w : List ℕ). Spreading calls b.function b.dependence old now w) nobody (c.loop-function.invariant calls r l))
