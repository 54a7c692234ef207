use Rattle.std.proofs.Common.{◌≡◌, ◌++◌, drop, map}
use Rattle.isp_code.specs.Registers.{local_elem}
use Rattle.isp_verify.proofs.registers.push_locals.Given as goal

abbrev pub invariant-loop-local : goal.invariant-loop-local
invariant-loop-local l = l.initial.arrays.items ++ map local_elem l.locals ≡ l.arrays.items ++ map local_elem (drop l.local-index l.locals)
