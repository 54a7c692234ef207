-- A trap, and the texts that are printed of it.
use Rattle.std.specs.Prelude.{ℕ, List, ◌++◌, codes}
use Rattle.std.specs.Fmt.{decimal}
use Rattle.isp_base.specs.Types.{span_text}
use Rattle.isp_base.specs.declared.types.Span.{Span}
use Rattle.isp_base.specs.declared.trap.Trap.{Trap}
use Rattle.isp_base.specs.declared.trap.TrapKind.{TrapKind}
use Rattle.isp_base.specs.declared.trap.TrapKind.TheVariants.{Divide, Index, Assert, Depth}

-- the trap of this kind, at this place, of this instance
abbrev pub trap : TrapKind → Span → ℕ → Trap
trap kind place p = record { kind = kind; place = place; instance = p }

abbrev pub kind_text : TrapKind → List ℕ
kind_text Divide = codes "divide"
kind_text Index = codes "index"
kind_text Assert = codes "assert"
kind_text Depth = codes "depth"

abbrev pub trap_text : Trap → List ℕ
trap_text t = codes "trap " ++ kind_text t.kind ++ codes " at " ++ span_text t.place ++ codes ", instance " ++ decimal t.instance
