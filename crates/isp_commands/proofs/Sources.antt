-- What a refused source means for a request.
use Rattle.std.proofs.Common.{◌≡◌, ℕ, List, Some, refl}
use Rattle.isp_base.specs.declared.types.Gang.{Gang}
use Rattle.isp_lex.specs.declared.fault.Fault.{Fault}
use Rattle.isp_lex.specs.declared.fault.SourceFault.{SourceFault}
use Rattle.isp_lex.specs.declared.fault.SourceFault.TheVariants.{Memory, Refused}
use Rattle.isp_engine.specs.Failures.{source_failure}
use Rattle.isp_front.specs.Front.{IsFaulty}
use Rattle.isp_engine.specs.Stories.{Holds, SourceFails}

pub refused_source : (holds : Holds) (gang : Gang) (source text : List ℕ) → holds source (Some text) → (f : SourceFault) → ((g : Fault) → f ≡ Refused g → IsFaulty gang text g) → SourceFails holds gang source (source_failure f)
refused_source holds gang source text has Memory h = tt
refused_source holds gang source text has (Refused f) h = (text, has, h f refl)
