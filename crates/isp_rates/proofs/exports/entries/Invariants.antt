use Rattle.std.proofs.Common.{◌≡◌, drop}
use Rattle.std.specs.Prelude.{ℕ, List}
use Rattle.std.specs.Option.{option_or}
use Rattle.std.specs.BTreeMap.{get_by_text}
use Rattle.isp_rates.specs.Exports.{entry_from}
use Rattle.isp_rates.proofs.exports.entries.Given as goal

abbrev pub invariant-loop-number : goal.invariant-loop-number
invariant-loop-number l = (w : List ℕ) → option_or (get_by_text l.entries w) (entry_from w l.number (drop l.number l.functions)) ≡ entry_from w 0 l.functions
