use Rattle.std.proofs.Common.{◌≡◌, ap, ap₂, ◌∙◌, ℕ, ◌+◌, ◌-◌, ◌*◌, ◌^◌, ◌<◌, cond, nat_lt, get_or, arith}
use Rattle.isp_base.specs.declared.types.Elem.{Elem}
use Rattle.isp_base.specs.Values.{width, op_bits}
use Rattle.isp_base.specs.Cross.{neutral, exclusive_scan}
use Rattle.isp_base.specs.Maps.{or_old}
use Rattle.isp_cross.specs.Lanes.{active}
use Rattle.isp_cross.proofs.Written.{written_is, fits_or_old}
use Rattle.isp_cross.proofs.Operators.{scan_joins}
use Rattle.isp_cross.proofs.Spans.{window, window_one, window_twice, window_all, fold_is_span}
use Rattle.isp_cross.proofs.scans.exclusive_scan.Goals as goal

pub loop-distance-init : goal.loop-distance-init
loop-distance-init g c =
    let op = c.args.op in
    let t = c.args.x.now.elem in
    let x = c.args.x.now in
    let mask = c.args.mask.now in
    let e = neutral op t in
    let y : ℕ → ℕ = λ q. or_old (active mask x q) e in
    let j = scan_joins op t c.requires.op in
    let fits : (q : ℕ) → y q < 2 ^ width t = λ q. fits_or_old t mask x.bits e j.unit c.told-3.ensures.fits q in
    let start : c.neutral-start.result ≡ e = c.neutral-start.ensures.value ∙ ap (neutral op) c.elem.ensures in (
      omega arith,
      c.lower-sums.ensures.elem ∙ c.active_or.ensures.elem,
      λ p h.
          c.lower-sums.ensures.value p h
          ∙ ap₂ (cond (nat_lt p 1)) start (c.active_or.ensures.value (p - 1) (omega (arith, h)) ∙ ap (λ a. or_old (active mask x (p - 1)) a) start)
          ∙ window_one j y fits p,
    )

pub loop-distance-preserved : goal.loop-distance-preserved
loop-distance-preserved g c =
    let op = c.args.op in
    let t = c.args.x.now.elem in
    let x = c.args.x.now in
    let mask = c.args.mask.now in
    let e = neutral op t in
    let y : ℕ → ℕ = λ q. or_old (active mask x q) e in
    let j = scan_joins op t c.requires.op in
    let fits : (q : ℕ) → y q < 2 ^ width t = λ q. fits_or_old t mask x.bits e j.unit c.told-3.ensures.fits q in
    let start : c.neutral-start.result ≡ e = c.neutral-start.ensures.value ∙ ap (neutral op) c.elem.ensures in
    let d = c.loop-distance.distance in
    let before = c.loop-distance.invariant in (
      omega (arith, before.0),
      c.joined-sums.ensures.elem ∙ before.1,
      λ p h.
          c.joined-sums.ensures.value p h
          ∙ ap (λ (u : Elem). op_bits op u (get_or c.lower.result.bits p 0) (get_or c.loop-distance.sums.bits p 0)) before.1
          ∙ ap₂ (op_bits op t) (c.lower.ensures.value p h ∙ ap₂ (cond (nat_lt p d)) start (before.2 (p - d) (omega (arith, h)))) (before.2 p h)
          ∙ window_twice j y fits d p
          ∙ ap (λ k. window (op_bits op t) e y k p) (let k : d + d ≡ d * 2 = omega arith in k),
    )

pub returns-clause-lanes : goal.returns-clause-lanes
returns-clause-lanes g c =
    let op = c.args.op in
    let t = c.args.x.now.elem in
    let x = c.args.x.now in
    let mask = c.args.mask.now in
    let n = g.row.N in
    let e = neutral op t in
    let y : ℕ → ℕ = λ q. or_old (active mask x q) e in
    let j = scan_joins op t c.requires.op in
    let fits : (q : ℕ) → y q < 2 ^ width t = λ q. fits_or_old t mask x.bits e j.unit c.told-3.ensures.fits q in
    let d = c.loop-distance.distance in
    let last = c.loop-distance.invariant in
    written_is mask c.loop-distance.sums.bits c.args.out.now (exclusive_scan op c.args.out.now.elem (active mask x)) n c.copy.ensures c.told.ensures.long c.told-4.ensures.long c.told-2.ensures.long (λ p h on.
    last.2 p h
    ∙ window_all j y fits d p (omega (arith, h, c.loop-distance-test.false))
    ∙ fold_is_span j (active mask x) fits p
    ∙ ap (λ (u : Elem). exclusive_scan op u (active mask x) p) c.requires.elem)
