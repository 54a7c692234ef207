use Rattle.std.proofs.Common.{◌≡◌, drop, false}
use Rattle.isp_files.specs.Images.{past_gap}
use Rattle.isp_files.proofs.images.gap_in.Given as goal

abbrev pub invariant-loop-byte : goal.invariant-loop-byte
invariant-loop-byte l = (past_gap false l.bytes ≡ past_gap l.in_comment (drop l.count l.bytes)) × (l.count ≡ l.byte-index)
