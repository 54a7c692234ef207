-- What a function takes and gives, as its caller sees it.
use Rattle.std.specs.Prelude.{List, Option}
use Rattle.isp_base.specs.declared.signature.Parameter.{Parameter}
use Rattle.isp_base.specs.declared.signature.Signature.{Signature}
use Rattle.isp_base.specs.declared.types.Elem.{Elem}
use Rattle.isp_code.specs.Entries.{parameters_of, result_of}
use Rattle.isp_code.specs.Listing.{Routine}

-- a signature without where the list of its parameters lies in memory
pub record Handed : Type 0 where
  pub params : List Parameter
  pub result : Option Elem

abbrev pub handed : Signature → Handed
handed s = record { params = s.params.items; result = s.result }

abbrev pub signature_of : Routine → Handed
signature_of h = record { params = parameters_of h; result = result_of h.returns }
