use Rattle.std.proofs.Common.{◌≡◌, ◌++◌, drop}
use Rattle.isp_names.specs.Renames.{replaced}
use Rattle.isp_names.proofs.edit.replaced_bytes.Given as goal

abbrev pub invariant-loop-span : goal.invariant-loop-span
invariant-loop-span l = l.bytes.items ++ replaced l.text l.name l.from (drop l.span-index l.spans) ≡ replaced l.text l.name 0 l.spans
