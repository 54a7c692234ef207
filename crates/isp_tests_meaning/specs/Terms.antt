-- Short words for the nodes of typed trees, arguments and arrays.
use Rattle.std.specs.Prelude.{ℕ, zero, suc, Bool, true, List, [], ◌++◌, Option, codes}
use Rattle.isp_base.specs.Rows.{Row}
use Rattle.isp_base.specs.declared.types.Gang.{Gang}
use Rattle.isp_base.specs.declared.types.Elem.{Elem}
use Rattle.isp_base.specs.declared.types.Rate.TheVariants.{Uniform, Varying}
use Rattle.isp_base.specs.declared.types.Span.{Span}
use Rattle.isp_base.specs.declared.types.Ty.{Ty}
use Rattle.isp_typed.specs.declared.variable.ArrayVariable.{ArrayVariable}
use Rattle.isp_typed.specs.declared.variable.Holds.{Holds}
use Rattle.isp_typed.specs.declared.variable.Variable.{Variable}
use Rattle.isp_typed.specs.Typed.{TExpr, t_constant, ty_of}
use Rattle.isp_typed.specs.Typed.{TRange}
use Rattle.isp_typed.specs.Typed.{TBlock, TFunction, Program}

abbrev pub s : ℕ → ℕ → Span
s a b = record { start = a; end = b }

abbrev pub u : Elem → Ty
u e = ty_of Uniform e

abbrev pub v : Elem → Ty
v e = ty_of Varying e

abbrev pub cn : Elem → ℕ → Span → TExpr
cn e n p = t_constant (record { elem = e; bits = n }) p

abbrev pub ar : ℕ → Ty → Bool → ArrayVariable
ar n t c = record { number = n; ty = t; constant = c }

abbrev pub rg : ℕ → TExpr → TExpr → Span → TRange
rg i a b p = record { index = i; start = a; end = b; span = p }

abbrev pub vr : Holds → Bool → Variable
vr h c = record { holds = h; constant = c }

abbrev pub rw : Elem → List ℕ → Row
rw e xs = record { elem = e; bits = xs }

abbrev pub fn : Option Elem → Option Ty → List Variable → TBlock → TFunction
fn g t vs b =
    record { name = codes "f"; span = s 0 0; exported = true; parameters = []; gives = g; params = []; answer = t; variables = vs; body = b }

abbrev pub pr : Gang → List TFunction → Program
pr g fs = record { gang = g; functions = fs }

-- a text, so many times
abbrev pub times : ℕ → List ℕ → List ℕ
times zero text = []
times (suc n) text = text ++ times n text
