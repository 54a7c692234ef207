use Rattle.std.proofs.Common.{◌≡◌, suc, count_by, map, take, ◌≤◌}
use Rattle.std.specs.List.{range_with_len}
use Rattle.isp_places.specs.Lines.{is_feed}
use Rattle.isp_code_commands.proofs.lines.feeds_before.Given as goal

abbrev pub invariant-loop-byte : goal.invariant-loop-byte
invariant-loop-byte l =
    (l.feeds.items ≡ map (λ k. count_by is_feed (take k l.text)) (range_with_len 0 (suc l.byte-index))) × (l.count ≡ count_by is_feed (take l.byte-index l.text)) × (l.count ≤ l.byte-index)
