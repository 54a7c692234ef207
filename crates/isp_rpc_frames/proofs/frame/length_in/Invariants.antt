use Rattle.std.proofs.Common.{ℕ, Option, drop, map}
use Rattle.httparse.specs.Spans.{header_bytes}
use Rattle.isp_rpc_frames.specs.Messages.{GivesLength}
use Rattle.isp_rpc_frames.proofs.frame.length_in.Given as goal

-- what the fields that are left give, all of them give
abbrev pub invariant-loop-field : goal.invariant-loop-field
invariant-loop-field l = (size : Option ℕ) → GivesLength (map (header_bytes l.bytes) (drop l.field-index l.fields)) size → GivesLength (map (header_bytes l.bytes) l.fields) size
