use Rattle.std.proofs.Common.{rules, subst, ◌^◌, pow_pos, ℕ, ◌∙◌, Some, get_or, pos, ◌+ℤ◌}
use Rattle.isp_base.specs.Cross.{shift, within}
use Rattle.isp_base.specs.declared.types.Elem.TheVariants.{I32}
use Rattle.isp_base.specs.Values.{number, width}
use Rattle.isp_base.specs.Rows.{Fit}
use Rattle.isp_base.specs.declared.types.Elem.{Elem}
use Rattle.isp_cross.specs.Lanes.{active}
use Rattle.isp_cross.proofs.Places.{all_fit, within_fits, within_same}
use Rattle.isp_cross.proofs.Written.{written_is}
use Rattle.isp_cross.proofs.moves.shift.Goals as goal

pub returns-clause-lanes : goal.returns-clause-lanes
returns-clause-lanes g c =
    let mask = c.args.mask.now in
    let x = active mask c.args.x.now in
    let n = g.row.N in
    let z = number I32 c.args.k in
    written_is mask c.shifted-lanes.result c.args.out.now (shift n x z) n c.put.ensures c.told.ensures.long (search rules) c.told-2.ensures.long (λ p h on.
    c.shifted-lanes.ensures p h
    ∙ within_same n (λ q. Some (get_or c.active.result q 0)) x (λ q. c.active.ensures.value q) (pos p +ℤ z))

pub put-requires : goal.put-requires
put-requires g c =
    let n = g.row.N in
    let t = c.args.x.now.elem in
    let found : ℕ → ℕ = λ p. within n (λ q. Some (get_or c.active.result q 0)) (pos p +ℤ number I32 c.args.k) in
    let fits : Fit t c.shifted-lanes.result = all_fit (2 ^ width t) n c.shifted-lanes.result found (pow_pos (width t)) (search rules)
    c.shifted-lanes.ensures (λ p. within_fits (2 ^ width t) n (λ q. Some (get_or c.active.result q 0)) (pow_pos (width t))
    c.active.ensures.fits (pos p +ℤ number I32 c.args.k)) in
    (search rules, (search rules, (search rules, subst (λ (e : Elem). Fit e c.shifted-lanes.result) c.requires.elem fits)))
