use Rattle.std.proofs.Common.{◌≡◌, ◌++◌, drop, map}
use Rattle.isp_names.specs.Renames.{word_at}
use Rattle.isp_names.proofs.edit.words.Given as goal

abbrev pub invariant-loop-start : goal.invariant-loop-start
invariant-loop-start l = l.found.items ++ map (word_at l.text) (drop l.start-index l.starts) ≡ map (word_at l.text) l.starts
