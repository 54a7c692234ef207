use Rattle.std.proofs.Common.{◌≡◌, drop}
use Rattle.serde_json.specs.Data.{no_members}
use Rattle.isp_bind.specs.Answering.{named_arrays}
use Rattle.isp_bind.specs.Entries.{entries_members}
use Rattle.isp_bind.proofs.answers.by_name.Given as goal

abbrev pub invariant-loop-param : goal.invariant-loop-param
invariant-loop-param l =
    named_arrays l.params l.arrays no_members ≡ named_arrays (drop l.param-index l.params) l.rest (entries_members l.named.entries)
