use Rattle.std.proofs.Common.{◌≡◌, ap, ◌∙◌, ℕ, Bool, List, length, get_or, replicate}
use Rattle.std.proofs.lemmas.List.{length-replicate}
use Rattle.std.specs.Simd.Lanes.{sel_l}
use Rattle.isp_base.specs.Rows.{Row}
use Rattle.isp_cross.proofs.Written.{get_or-active_or, all_written}
use Rattle.isp_cross.proofs.scans.active_or.Goals as goal

pub returns-clause-value : goal.returns-clause-value
returns-clause-value g c p h =
    let mask = c.args.mask.now in
    let xs = c.args.x.now.bits in
    let n = g.row.N in
    let others : c.splat.new.self.bits ≡ replicate n c.args.other =
    ap (λ (r : Row). r.bits) c.splat.ensures
    ∙ ap (λ (m : List Bool). sel_l m (replicate n c.args.other) c.zero-lanes.result.bits) c.full.ensures
    ∙ all_written (replicate n c.args.other) c.zero-lanes.result.bits n (length-replicate n c.args.other) (ap (λ (r : Row). length r.bits) c.zero-lanes.ensures ∙ length-replicate n 0) in
    ap (λ (r : Row). get_or r.bits p 0) c.copy.ensures
    ∙ ap (λ (ys : List ℕ). get_or (sel_l mask xs ys) p 0) others
    ∙ get_or-active_or mask xs c.args.other n c.told.ensures.long c.told-2.ensures.long p h
