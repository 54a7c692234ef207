use Rattle.std.proofs.Common.{◌≡◌, ap, ◌∙◌, ℕ, Bool, List, length, replicate, arith}
use Rattle.std.proofs.lemmas.List.{length-replicate}
use Rattle.std.specs.Simd.Lanes.{sel_l}
use Rattle.isp_base.specs.declared.types.Elem.TheVariants.{I32}
use Rattle.isp_base.specs.declared.operators.BinOp.TheVariants.{Add}
use Rattle.isp_base.specs.Cross.{exclusive_scan, rank}
use Rattle.isp_base.specs.Maps.{Lanes, lane_of, on}
use Rattle.isp_base.specs.Rows.{Row}
use Rattle.isp_base.specs.Sets.{flag_of}
use Rattle.isp_base.specs.declared.types.Elem.{Elem}
use Rattle.isp_cross.specs.Lanes.{renewed}
use Rattle.isp_cross.proofs.Counts.{count_is}
use Rattle.isp_cross.proofs.Written.{all_written, flag_lt, renewed_same}
use Rattle.isp_cross.proofs.reductions.ranks.Goals as goal

pub returns-clause-lanes : goal.returns-clause-lanes
returns-clause-lanes g c =
    let mask = c.args.mask.now in
    let old = c.args.out.now in
    let n = g.row.N in
    let ones : c.splat.new.self.bits ≡ replicate n 1 =
    ap (λ (r : Row). r.bits) c.splat.ensures
    ∙ ap (λ (m : List Bool). sel_l m (replicate n 1) c.zero-ones.result.bits) c.full.ensures
    ∙ all_written (replicate n 1) c.zero-ones.result.bits n (length-replicate n 1) (ap (λ (r : Row). length r.bits) c.zero-ones.ensures ∙ length-replicate n 0) in
    let scan : Elem → List ℕ → Lanes = λ t bs. exclusive_scan Add t (on (flag_of mask) (lane_of bs)) in
    c.exclusive_scan.ensures.lanes
    ∙ ap (λ (t : Elem). renewed mask (scan t c.splat.new.self.bits) old) c.requires.elem
    ∙ ap (λ (bs : List ℕ). renewed mask (scan I32 bs) old) ones
    ∙ renewed_same mask (scan I32 (replicate n 1)) (rank (flag_of mask)) old (λ p on. count_is mask n p (omega (arith, flag_lt mask p on, c.told.ensures.long)) c.told.ensures.wide)
