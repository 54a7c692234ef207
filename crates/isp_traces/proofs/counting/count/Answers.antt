use Rattle.std.proofs.Common.{◌≡◌, sym, ap, ◌∙◌, subst, ℕ, suc, ◌+◌, ◌<◌, length, map, IfSome, arith}
use Rattle.std.proofs.lemmas.List.{length-map}
use Rattle.isp_code.specs.Listing.{Listing, routine_of}
use Rattle.isp_machine.specs.Kept.{state}
use Rattle.isp_machine.specs.Runs.{RunGives}
use Rattle.isp_machine.specs.Seen.{seen_conf}
use Rattle.isp_machine.specs.declared.stop.Stop.{Stop}
use Rattle.isp_traces.specs.Counting.{CountGives}
use Rattle.isp_traces.specs.Executed.{as_executed, instr_at}
use Rattle.isp_traces.proofs.Ends.{running_is}
use Rattle.isp_traces.proofs.Sums.{counts_more, counts_room, grouped_more}
use Rattle.isp_traces.proofs.Walks.{SoFar, all_made, next, over, refused}
use Rattle.isp_traces.proofs.counting.count.Goals as goal

pub returns-in_default : goal.returns-in_default
returns-in_default g c =
    record {
      gives = over c.args.machine.now c.loop-done.machine c.loop-done.done c.args.budget c.loop-done.stop c.loop-done.counts c.in_default.not-Running (omega arith) c.loop-done.invariant.0;
      grouped = c.loop-done.invariant.1;
      same = tt;
    }

pub returns-in-Memory-clause-gives : goal.returns-in-Memory-clause-gives
returns-in-Memory-clause-gives g c =
    let old = c.args.machine.now in
    let mid = c.loop-done.machine in
    let now = c.run-stop-in-loop-done.new.self in
    let so = subst (λ (s : Stop). SoFar c.loop-done.done old mid s c.loop-done.counts) c.in-Running.is c.loop-done.invariant.0 in
    let gives = subst (λ (s : Stop). RunGives 1 mid now s) c.in-Memory.is c.run-stop-in-loop-done.ensures in
    refused old mid now c.loop-done.done c.args.budget c.loop-done.counts (omega arith) so.0.0 gives so.1

pub add_if-requires : goal.add_if-requires
add_if-requires g c =
    let old = c.args.machine.now in
    let so = subst (λ (s : Stop). SoFar c.loop-done.done old c.loop-done.machine s c.loop-done.counts) c.in-Running.is c.loop-done.invariant.0 in
    let same : map routine_of c.functions-functions.result.now ≡ old.code.routines = c.functions-functions.ensures.same ∙ ap (λ (l : Listing). l.routines) (c.code.ensures.same ∙ sym c.requires) in
    let count = sym (length-map c.functions-functions.result.now routine_of) ∙ ap length same ∙ sym so.1.function_count in
    record {
      function = subst (λ (n : ℕ). IfSome c.next_executed-executed.result (λ e. e.function < n)) count c.next_executed-executed.ensures.there;
      room = counts_room old.code (state old) c.loop-done.done c.loop-done.counts so.1 (omega arith);
    }

pub loop-done-preserved : goal.loop-done-preserved
loop-done-preserved g c =
    let old = c.args.machine.now in
    let mid = c.loop-done.machine in
    let now = c.run-stop-in-loop-done.new.self in
    let m = c.loop-done.done in
    let so = subst (λ (s : Stop). SoFar m old mid s c.loop-done.counts) c.in-Running.is c.loop-done.invariant.0 in
    let same : map routine_of c.functions-functions.result.now ≡ old.code.routines = c.functions-functions.ensures.same ∙ ap (λ (l : Listing). l.routines) (c.code.ensures.same ∙ sym c.requires) in
    let count = sym (length-map c.functions-functions.result.now routine_of) ∙ ap length same ∙ sym so.1.function_count in
    let there = subst (λ (n : ℕ). IfSome c.next_executed-executed.result (λ e. e.function < n)) count c.next_executed-executed.ensures.there in
    let at = sym so.0.0.state_is ∙ running_is (state mid) so.0.1 in
    let is = c.next_executed-executed.ensures.executed ∙ ap (λ (l : Listing). as_executed l (seen_conf mid) (instr_at l (seen_conf mid))) so.0.0.code_same in
    let are = counts_more old.code (state old) m (seen_conf mid) at c.next_executed-executed.result c.loop-done.counts c.add_if.new.self is there c.add_if.ensures so.1 in
    let z : suc m ≡ m + 1 = omega arith in (
      subst (λ (n : ℕ). SoFar n old now c.run-stop-in-loop-done.result c.add_if.new.self) z
          (next old mid now m c.run-stop-in-loop-done.result c.add_if.new.self c.in_default-stop.not-Memory so.0.0 c.run-stop-in-loop-done.ensures are),
      grouped_more c.next_executed-executed.result c.args.grouping c.loop-done.counts c.add_if.new.self c.add_if.ensures c.loop-done.invariant.1,
    )

pub returns-clause-gives : goal.returns-clause-gives
returns-clause-gives g c =
    let all : c.loop-done.done ≡ c.args.budget = omega arith in
    subst (λ (n : ℕ). CountGives n c.args.machine.now c.loop-done.machine c.loop-done.stop c.loop-done.counts) all
    (all_made c.args.machine.now c.loop-done.machine c.loop-done.done c.loop-done.stop c.loop-done.counts c.loop-done.invariant.0)
