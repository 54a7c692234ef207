-- Functions and programs: their breaches, with those of exports (33).
use Rattle.std.specs.Prelude.{◌≡◌, ◌⊎◌, true, List, [], ◌∷◌}
use Rattle.isp_base.specs.declared.types.Rate.TheVariants.{Uniform}
use Rattle.isp_base.specs.declared.types.Span.{Span}
use Rattle.isp_base.specs.declared.types.Ty.{Ty}
use Rattle.isp_lex.specs.declared.fault.Fault.{Fault}
use Rattle.isp_lex.specs.declared.fault.Rule.TheVariants.{BadExport}
use Rattle.isp_lex.specs.Faults.{fault}
use Rattle.isp_typed.specs.declared.variable.Variable.{Variable}
use Rattle.isp_typed.specs.Typed.{TFunction, Program}
use Rattle.isp_rates.specs.Breaches.{Unmet, OfAny, OfEach}
use Rattle.isp_rates.specs.Rates.{goes_to, rate_held}
use Rattle.isp_rates.specs.Exits.{at_start, BlockBreach}

-- no parameter of an exported function is varying; the fault stands at the parameter's name
abbrev pub ParametersBreach : List Span → List Variable → Fault → Type 0
ParametersBreach [] vs f = ⊥
ParametersBreach (s ∷ ss) [] f = ⊥
ParametersBreach (s ∷ ss) (v ∷ vs) f = Unmet (goes_to Uniform (rate_held v.holds)) (fault BadExport s) f ⊎ ParametersBreach ss vs f

-- nor is its result; the fault stands at the function's name
abbrev pub ResultBreach : Span → Ty → Fault → Type 0
ResultBreach s t = Unmet (goes_to Uniform t.rate) (fault BadExport s)

abbrev pub ExportBreach : TFunction → Fault → Type 0
ExportBreach g f = (g.exported ≡ true) × (ParametersBreach g.params g.variables f ⊎ OfAny (ResultBreach g.span) g.answer f)

abbrev pub FunctionBreach : List TFunction → TFunction → Fault → Type 0
FunctionBreach fs g f = ExportBreach g f ⊎ BlockBreach fs g.answer at_start g.body f

abbrev pub ProgramBreach : Program → Fault → Type 0
ProgramBreach p = OfEach (FunctionBreach p.functions) p.functions
