use Rattle.std.proofs.Common.{rules, subst, ◌<◌, ◌^◌, ◌≡◌, sym, ap, ap₂, ◌∙◌, ℕ, suc, ◌+◌, arith, false, Bool, List, Option, None, get_or, unwrap_or}
use Rattle.isp_base.specs.declared.types.Elem.{Elem}
use Rattle.isp_base.specs.Values.{op_bits, width}
use Rattle.isp_base.specs.Cross.{best, fold_below, and_this, reduce_best}
use Rattle.isp_cross.specs.Lanes.{active}
use Rattle.isp_cross.proofs.Bests.{best_fits}
use Rattle.isp_cross.proofs.Written.{on_at, off_at, flag_is, active_fits}
use Rattle.isp_cross.proofs.reductions.reduce_best.Goals as goal
use Rattle.isp_cross.proofs.reductions.reduce_best.Goals.{then-get, else-get}

pub loop-p-preserved : goal.loop-p-preserved
loop-p-preserved g c =
    let mask = c.args.mask.now in
    let xs = c.args.x.now.bits in
    let p = c.loop-p.p in
    let f = best (op_bits c.args.op c.args.x.now.elem) in
    let so_far : ℕ → Option ℕ = λ n. fold_below f None (active mask c.args.x.now) n in
    let flag : get_or mask p false ≡ c.get.result = flag_is mask p ∙ ap (λ (o : Option Bool). unwrap_or o false) c.get.ensures in
    let next : so_far (suc p) ≡ so_far (p + 1) = ap so_far (let e : suc p ≡ p + 1 = omega arith in e) in
    elim c.if-get.branch [
      | then-get w ↦
          w.best-is
          ∙ w.with_this-best.ensures
          ∙ ap₂ (λ (u : Elem) (bs : List ℕ). best (op_bits c.args.op u) c.loop-p.best (get_or bs p 0)) c.elem-elem.ensures c.bits-bits.ensures.value
          ∙ ap (λ (b : Option ℕ). f b (get_or xs p 0)) c.loop-p.invariant
          ∙ sym (ap (and_this f (so_far p)) (on_at mask xs p (flag ∙ w.if-get.true)))
          ∙ next
      | else-get w ↦ w.best-is ∙ c.loop-p.invariant ∙ sym (ap (and_this f (so_far p)) (off_at mask xs p (flag ∙ w.if-get.false))) ∙ next
    ]

pub returns-clause-fits : goal.returns-clause-fits
returns-clause-fits g c =
    let x = c.args.x.now in
    let value : c.unwrap_or.result ≡ reduce_best c.args.op x.elem g.row.N (active c.args.mask.now x) = search rules in
    subst (λ (v : ℕ). v < 2 ^ width x.elem) (sym value) (best_fits c.args.op x.elem g.row.N (active c.args.mask.now x) (active_fits x.elem c.args.mask.now x.bits c.told-2.ensures.fits))
