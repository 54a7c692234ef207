use Rattle.std.proofs.Common.{arith, length-take-le, sym}
use Rattle.std.proofs.lemmas.List.{length-take, take_all}
use Rattle.isp_reports.proofs.line.front.Goals as goal

pub returns-then-bytes-le-MOST-clause-front : goal.returns-then-bytes-le-MOST-clause-front
returns-then-bytes-le-MOST-clause-front c = let h = c.if-bytes-le-MOST.true in sym (take_all 127 c.args.bytes.now (omega (arith, h)))

pub slice_bounds-result-end : goal.slice_bounds-result-end
slice_bounds-result-end c = let h = c.if-bytes-le-MOST.false in sym (length-take-le 127 c.args.bytes.now (omega (arith, h)))

pub returns-clause-short : goal.returns-clause-short
returns-clause-short c = let e = length-take 127 c.args.bytes.now in omega (arith, e)
