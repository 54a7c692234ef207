use Rattle.std.proofs.Common.{sym, arith}
use Rattle.std.proofs.lemmas.Int.{ints}
use Rattle.isp_base.proofs.Elems.{width_le, greatest_lt}
use Rattle.isp_bind.proofs.Ends.{ends, between, taken}
use Rattle.isp_bind.proofs.Promised.{out_of_range}
use Rattle.isp_bind.proofs.arguments.whole_bits.Goals as goal
use Rattle.isp_bind.proofs.arguments.whole_bits.Goals.{then-whole-greatest-via-then-whole-greatest, then-whole-greatest-via-else-whole-greatest+then-whole-greatest-2}

pub returns-then-whole-greatest-clause-bits : goal.returns-then-whole-greatest-clause-bits
returns-then-whole-greatest-clause-bits c =
    let t = c.args.elem in
    let wide = width_le t in
    let most = greatest_lt t in
    sym (out_of_range t c.args.whole (λ v.
    let e = ends t c.args.whole v in
    elim c.then-whole-greatest.branch [
      | then-whole-greatest-via-then-whole-greatest w ↦ omega (arith, ints, e.0, e.1, w.if-whole-greatest.true, c.greatest_of.ensures, c.from-greatest.ensures, c.low_mask.ensures, c.from-all_bits.ensures, c.ranges.whole.sfits)
      | then-whole-greatest-via-else-whole-greatest+then-whole-greatest-2 w ↦ omega (arith, ints, e.0, e.1, w.if-whole-greatest-2.true, c.greatest_of.ensures, c.from-greatest.ensures, c.low_mask.ensures, c.from-all_bits.ensures, c.ranges.whole.sfits)
    ]))

pub returns-then-whole-lt0-clause-bits : goal.returns-then-whole-lt0-clause-bits
returns-then-whole-lt0-clause-bits c =
    let t = c.args.elem in
    let wide = width_le t in
    let most = greatest_lt t in
    sym (taken t c.args.whole _ 1 (between t c.args.whole
    (omega (arith, ints, c.if-whole-greatest.false, c.greatest_of.ensures, c.from-greatest.ensures))
    (omega (
      arith,
      ints,
      c.if-whole-greatest-2.false,
      c.greatest_of.ensures,
      c.from-greatest.ensures,
      c.low_mask.ensures,
      c.from-all_bits.ensures,
    )))
    (omega (arith, ints, c.if-whole-greatest-2.false, c.if-whole-lt0.true, c.greatest_of.ensures, c.from-greatest.ensures, c.low_mask.ensures, c.from-all_bits.ensures))
    (omega (arith, ints, c.if-whole-greatest-2.false, c.if-whole-lt0.true, c.greatest_of.ensures, c.from-greatest.ensures, c.low_mask.ensures, c.from-all_bits.ensures)))

pub returns-else-whole-lt0-clause-bits : goal.returns-else-whole-lt0-clause-bits
returns-else-whole-lt0-clause-bits c =
    let t = c.args.elem in
    let wide = width_le t in
    let most = greatest_lt t in
    sym (taken t c.args.whole _ 0 (between t c.args.whole
    (omega (arith, ints, c.if-whole-greatest.false, c.greatest_of.ensures, c.from-greatest.ensures))
    (omega (
      arith,
      ints,
      c.if-whole-greatest-2.false,
      c.greatest_of.ensures,
      c.from-greatest.ensures,
      c.low_mask.ensures,
      c.from-all_bits.ensures,
    )))
    (omega (arith, ints, c.if-whole-lt0.false))
    (omega (arith, ints, c.if-whole-greatest.false, c.if-whole-lt0.false, c.greatest_of.ensures, c.from-greatest.ensures)))
