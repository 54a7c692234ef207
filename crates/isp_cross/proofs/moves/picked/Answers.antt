use Rattle.std.proofs.Common.{rules, arith, ap, ◌∙◌, ℕ, get_or, set}
use Rattle.std.proofs.lemmas.List.Edits.{fill_by_more}
use Rattle.isp_base.specs.declared.types.Elem.TheVariants.{I32}
use Rattle.isp_base.specs.Values.{number}
use Rattle.isp_base.specs.Cross.{instance}
use Rattle.isp_cross.proofs.moves.picked.Goals as goal

pub loop-p-preserved : goal.loop-p-preserved
loop-p-preserved g c =
    let from : ℕ → ℕ = λ r. get_or c.args.x (instance g.row.N (number I32 (get_or c.args.index r 0))) 0 in
    let long = c.loop-p.invariant.0 in (
      search rules,
      λ q h.
          ap (λ (i : ℕ). get_or (set c.loop-p.lanes c.loop-p.p (get_or c.args.x i 0)) q 0) c.instance.ensures.value
          ∙ fill_by_more from c.loop-p.lanes c.loop-p.p 0 (omega (arith, long, c.loop-p-test.true)) c.loop-p.invariant.1 q h,
    )
