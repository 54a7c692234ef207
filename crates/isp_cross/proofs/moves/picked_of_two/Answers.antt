use Rattle.std.proofs.Common.{rules, arith, ◌≡◌, sym, ap, ◌∙◌, ℕ, ◌-◌, ◌*◌, cond, lt-ltb, le-ltb, Bool, Some, get_or, set}
use Rattle.std.proofs.lemmas.List.Edits.{fill_by_more}
use Rattle.isp_base.specs.declared.types.Elem.TheVariants.{I32}
use Rattle.isp_base.specs.Values.{number}
use Rattle.isp_base.specs.Cross.{instance, of_two}
use Rattle.isp_cross.proofs.moves.picked_of_two.Goals as goal
use Rattle.isp_cross.proofs.moves.picked_of_two.Goals.{then-from, else-from}

pub loop-p-preserved : goal.loop-p-preserved
loop-p-preserved g c =
    let n = g.row.N in
    let r = c.instance-from.result in
    let pick : ℕ → ℕ = λ k. of_two n (λ q. Some (get_or c.args.x q 0)) (λ q. Some (get_or c.args.y q 0)) k in
    let from : ℕ → ℕ = λ q. pick (instance (2 * n) (number I32 (get_or c.args.index q 0))) in
    let test : Bool → ℕ = λ b. cond b (get_or c.args.x r 0) (get_or c.args.y (r - n) 0) in
    let chosen : c.if-from.lanes ≡ pick r = elim c.if-from.branch [
      | then-from w ↦ w.lanes-is ∙ ap test (sym (lt-ltb r n (omega (arith, w.if-from))))
      | else-from w ↦ w.lanes-is ∙ ap test (sym (le-ltb r n (omega (arith, w.if-from))))
    ] in
    let long = c.loop-p.invariant.0 in (
      search rules,
      λ q h.
          ap (λ (v : ℕ). get_or (set c.loop-p.lanes c.loop-p.p v) q 0) (chosen ∙ ap pick c.instance-from.ensures.value)
          ∙ fill_by_more from c.loop-p.lanes c.loop-p.p 0 (omega (arith, long, c.loop-p-test.true)) c.loop-p.invariant.1 q h,
    )
