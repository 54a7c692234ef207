use Rattle.std.proofs.Common.{◌≡◌, ◌+◌, ◌≤◌, ◌++◌, length}
use denote.Shadow.{shadow}
use denote.Text.{Utf8}
use Rattle.std.specs.List.{slice_split}
use Rattle.isp_asm.specs.Faults.{fault_from, fault_of, is_feed}
use Rattle.isp_asm.specs.Spelling.{lines_text}
use Rattle.isp_asm.specs.reader.Drafting.{IsDraft, drafted, drafted_lines, seen_of}
use Rattle.isp_asm.proofs.reader.read.Given as goal

-- what is read and what is left are the text, and what is left has its fault
abbrev pub invariant-loop-line : goal.invariant-loop-line
invariant-loop-line l = record {
  utf8 : shadow (Utf8 l.rest);
  draft : IsDraft (drafted l.draft);
  text : lines_text (drafted_lines (drafted l.draft)) ++ l.rest ≡ l.text;
  fault : fault_from (seen_of (drafted l.draft)) l.number (slice_split is_feed l.rest) ≡ fault_of l.text;
  number : l.number + length l.rest ≤ 1 + length l.text;
}

abbrev pub decreases-loop-line : goal.decreases-loop-line
decreases-loop-line l = length l.rest
