use Rattle.std.proofs.Common.{◌≡◌, ◌++◌, drop}
use Rattle.std.specs.List.{flat_map}
use Rattle.isp_native.specs.Words.{byte_text}
use Rattle.isp_native.proofs.page.Page.bytes.Given as goal

-- what is written, and what the rest will add
abbrev pub invariant-loop-byte : goal.invariant-loop-byte
invariant-loop-byte l = l.self ++ flat_map byte_text (drop l.byte-index l.bytes) ≡ l.initial.self ++ flat_map byte_text l.bytes
