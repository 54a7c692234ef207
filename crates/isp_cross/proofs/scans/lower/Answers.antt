use Rattle.std.proofs.Common.{rules, ap, ◌∙◌, ℕ, ◌-◌, Bool, cond, nat_lt, List, length, get_or}
use Rattle.std.proofs.lemmas.List.{length-replicate}
use Rattle.std.specs.Simd.Lanes.{sel_l}
use Rattle.isp_base.specs.Rows.{Row}
use Rattle.isp_cross.proofs.Written.{all_written}
use Rattle.isp_cross.proofs.scans.lower.Goals as goal

pub returns-clause-value : goal.returns-clause-value
returns-clause-value g c p h =
    let n = g.row.N in
    let lanes : List ℕ = c.lanes_below-lanes.result in
    ap (λ (r : Row). get_or r.bits p 0) c.put.ensures
    ∙ ap (λ (m : List Bool). get_or (sel_l m lanes c.zero-moved.result.bits) p 0) c.full.ensures
    ∙ ap (λ (xs : List ℕ). get_or xs p 0) (all_written lanes c.zero-moved.result.bits n (search rules) (ap (λ (r : Row). length r.bits) c.zero-moved.ensures ∙ length-replicate n 0))
    ∙ c.lanes_below-lanes.ensures p h
    ∙ ap (λ (xs : List ℕ). cond (nat_lt p c.args.distance) c.args.other (get_or xs (p - c.args.distance) 0)) c.bits.ensures.value
