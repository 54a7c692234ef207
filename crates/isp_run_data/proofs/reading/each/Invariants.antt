use Rattle.std.proofs.Common.{take}
use Rattle.isp_run_data.specs.Loading.{EachGiven}
use Rattle.isp_run_data.proofs.reading.each.Given as goal

abbrev pub invariant-loop-word : goal.invariant-loop-word
invariant-loop-word g l = EachGiven (g.F.DataFiles.has_bytes l.files) (take l.word-index l.request.values.items) l.given.items
