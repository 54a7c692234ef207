use Rattle.std.proofs.Common.{◌≡◌, ◌≤◌, drop}
use Rattle.std.specs.Str.Parse.{digits_value, digits_value_after}
use Rattle.isp_files.specs.Reading.{longest}
use Rattle.isp_files.proofs.reader.value.Given as goal

abbrev pub invariant-loop-digit : goal.invariant-loop-digit
invariant-loop-digit l = (digits_value 10 l.digits ≡ digits_value_after 10 l.number (drop l.digit-index l.digits)) × (l.number ≤ longest)
