use Rattle.std.proofs.Common.{rules, ◌≡◌, ap₂, ◌∙◌, ℕ, List, cond, nat_eq, set, length, arith}
use Rattle.isp_base.specs.Cross.{insert}
use Rattle.isp_base.specs.declared.types.Elem.TheVariants.{I32}
use Rattle.isp_base.specs.Values.{number}
use Rattle.isp_cross.specs.Lanes.{active}
use Rattle.isp_cross.proofs.Places.{get_or-set_is}
use Rattle.isp_cross.proofs.Written.{written_is}
use Rattle.isp_cross.proofs.moves.insert.Goals as goal

pub returns-clause-lanes : goal.returns-clause-lanes
returns-clause-lanes g c =
    let mask = c.args.mask.now in
    let x = active mask c.args.x.now in
    let n = g.row.N in
    let lanes : List ℕ = c.active-lanes.result in
    let i = c.instance.result in
    let v = c.args.value in
    let long : length lanes ≡ n = search rules in
    written_is mask (set lanes i v) c.args.out.now (insert n x (number I32 c.args.i) v) n c.put.ensures c.told.ensures.long (search rules) c.told-2.ensures.long (λ p h on.
    get_or-set_is lanes i p v (omega (arith, long, c.instance.ensures.within))
    ∙ ap₂ (λ (j b : ℕ). cond (nat_eq p j) v b) c.instance.ensures.value (c.active-lanes.ensures.value p))
