use Rattle.std.proofs.Common.{◌-◌, length}
use Rattle.isp_lex.specs.reader.Quotes.{Says}
use Rattle.isp_lex.proofs.quotes.quoted.Given as goal

abbrev pub invariant-loop-byte : goal.invariant-loop-byte
invariant-loop-byte l = Says l.text l.at l.bytes.items

abbrev pub decreases-loop-byte : goal.decreases-loop-byte
decreases-loop-byte l = length l.text - l.at
