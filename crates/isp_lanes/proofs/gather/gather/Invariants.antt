use Rattle.std.proofs.Common.{◌≡◌, map}
use Rattle.std.specs.List.{range_with_len}
use Rattle.std.specs.Simd.Lanes.{zip2}
use Rattle.isp_lanes.proofs.Gathered.{so_far}
use Rattle.isp_lanes.proofs.gather.gather.Given as goal

abbrev pub invariant-loop-lane : goal.invariant-loop-lane
invariant-loop-lane g l = l.words ≡ so_far l.lane l.mask (map g.W.Word.with_bits (zip2 (g.S.Source.word l.source) (range_with_len 0 g.row.N) l.places)) l.initial.words
