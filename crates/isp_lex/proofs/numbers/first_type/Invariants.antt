use Rattle.std.proofs.Common.{◌≡◌, drop}
use Rattle.isp_lex.specs.reader.Numerals.{first_type}
use Rattle.isp_lex.proofs.numbers.first_type.Given as goal

abbrev pub invariant-loop-elem : goal.invariant-loop-elem
invariant-loop-elem l = first_type (drop l.elem-index l.types) l.bits ≡ first_type l.types l.bits
