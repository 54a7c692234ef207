use Rattle.std.proofs.Common.{◌≡◌, ℕ, List, take, true}
use Rattle.std.specs.List.{list_any}
use Rattle.isp_verify.specs.Faults.{is_named, names_differ}
use Rattle.isp_verify.proofs.Names.{has_name}
use Rattle.isp_verify.proofs.header.names_differ.Given as goal

abbrev pub invariant-loop-param : goal.invariant-loop-param
invariant-loop-param l = record {
  names : (w : List ℕ) → has_name l.names w ≡ list_any (is_named w) (take l.param-index l.params);
  differ : names_differ (take l.param-index l.params) ≡ true;
}
