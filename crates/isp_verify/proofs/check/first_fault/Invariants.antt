use Rattle.std.proofs.Common.{◌≡◌, ℕ, List, take, drop, map}
use Rattle.std.specs.List.{list_any}
use Rattle.isp_code.specs.Listing.{routine_of}
use Rattle.isp_verify.specs.Faults.{is_function, functions_fault, code_fault}
use Rattle.isp_verify.proofs.Names.{has_name}
use Rattle.isp_verify.proofs.check.first_fault.Given as goal

abbrev pub invariant-loop-k : goal.invariant-loop-k
invariant-loop-k l = record {
  names : (w : List ℕ) → has_name l.names w ≡ list_any (is_function w) (take l.k l.code.routines);
  fault : code_fault l.code ≡ functions_fault l.code l.k (map routine_of (drop l.k l.functions));
}
