-- What the instances of an entry come to one by one, and when that is refused.
use Rattle.std.specs.Prelude.{◌≡◌, ℕ, zero, suc, ◌<◌, ◌≤◌, ◌⊎◌, List, [], ◌∷◌, ◌++◌, Option}
use Rattle.isp_base.specs.Arguments.{rows, rows_now}
use Rattle.isp_base.specs.Rows.{Row}
use Rattle.isp_base.specs.Types.{gang_width}
use Rattle.isp_base.specs.declared.types.Elem.{Elem}
use Rattle.isp_base.specs.declared.signature.Argument.{Argument}
use Rattle.isp_typed.specs.Typed.{Program, TFunction}
use Rattle.isp_independence.specs.Dependences.{IsFirst}
use Rattle.isp_independence.specs.Independent.{Depends, IsIndependent}
use Rattle.isp_meaning.specs.Entries.{IsEntry}
use Rattle.isp_meaning.specs.Payloads.{One}
use Rattle.isp_meaning.specs.Runs.{answer_as}
use Rattle.isp_solo_meaning.specs.Alone.{Alone}
use Rattle.isp_solo_meaning.specs.Answers.{Answer, Bad, Long}
use Rattle.isp_solo_meaning.specs.OneByOne.{one_by_one}
use Rattle.isp_solo_meaning.specs.Runs.{solo_run, bound, IsEnded, value_of}
use Rattle.isp_solo_meaning.specs.Touched.{Clash, AreApart}
use Rattle.isp_entry.specs.Entered.{Begins, NoneBegins}
use Rattle.isp_entry.specs.declared.fault.EvalFault.{EvalFault}
use Rattle.isp_entry.specs.declared.fault.EvalFault.TheVariants.{Memory, NoEntry, NotIndependent}
use Rattle.isp_type_laws.specs.Fits.{BitsFit}
use Rattle.isp_solo.specs.Places.{array_place}
use Rattle.isp_solo.specs.declared.report.SoloReport.{SoloReport}
use Rattle.isp_solo.specs.declared.report.SoloReport.TheVariants as report

-- the instances below n, from 0 up
abbrev pub upward : ℕ → List ℕ
upward zero = []
upward (suc n) = upward n ++ n ∷ []

-- ---- the runs of the instances, each alone from the bound arrays

-- all below n end
abbrev pub AllEnd : (ℕ → Answer ℕ) → ℕ → Type 0
AllEnd run n = (p : ℕ) → p < n → IsEnded (run p)

-- the first that does not end is p, whose run comes to this
pub record FirstStop (gang : ℕ) (run : ℕ → Answer ℕ) (p : ℕ) (is : Alone → Answer ℕ) : Type 0 where
  pub below : p < gang
  pub before : AllEnd run p
  pub state : Alone
  pub came : run p ≡ is state

-- two clash at element e of the b-th array, and at none before it, by array and element
pub record FirstClash (gang : ℕ) (run : ℕ → Answer ℕ) (b e : ℕ) : Type 0 where
  pub clash : Clash gang run b e
  pub first : (c i : ℕ) → Clash gang run c i → (b < c) ⊎ ((b ≡ c) × (e ≤ i))

-- ---- the report

-- Of the runs of a gang's instances from arguments xs: the first that traps or is cut; else the first clash; else the rows that they
-- leave one after the other, and what instance 0 gives, which is of this type.
module _ (gang : ℕ) (run : ℕ → Answer ℕ) (xs : List Argument) (left : List Row) (gives : Option Elem) where
  abbrev pub Says : SoloReport → Type 0
  Says (report.Trapped t) = (p : ℕ) × FirstStop gang run p (Bad t)
  Says (report.Cut p) = FirstStop gang run p Long
  Says (report.Clash k e) = AllEnd run gang × ((b : ℕ) × FirstClash gang run b e × (k ≡ array_place xs b))
  Says (report.Ended arrays result) = AllEnd run gang × AreApart gang run × (arrays.items ≡ left) × (result ≡ answer_as gives (One (value_of (run 0))))

-- the rows that the instances leave one after the other, from 0 up
abbrev pub left_upward : Program → ℕ → ℕ → List Argument → List Row
left_upward program f n xs = rows_now (rows xs) (one_by_one program f n xs (upward (gang_width program.gang)) (bound xs))

-- the report of a function f, which is h, with n turns
abbrev pub ReportOf : Program → ℕ → TFunction → List Argument → ℕ → SoloReport → Type 0
ReportOf program f h xs n = Says (gang_width program.gang) (solo_run program f n xs (bound xs)) xs (left_upward program f n xs) h.gives

-- of one with which a run can begin, and which is independent
abbrev pub IsSoloReport : Program → List ℕ → List Argument → ℕ → SoloReport → Type 0
IsSoloReport program name xs n r = (f : ℕ) × (h : TFunction) × IsEntry program name xs f h × IsIndependent program f × ReportOf program f h xs n r

-- what was given back fits its type
abbrev pub ReportFits : SoloReport → Type 0
ReportFits (report.Trapped t) = Unit {0}
ReportFits (report.Cut p) = Unit {0}
ReportFits (report.Clash k e) = Unit {0}
ReportFits (report.Ended arrays result) = BitsFit result

-- Memory may be refused at any time. Else there is no report exactly where no run can begin, and where the function with which one
-- can is not independent: then it is the first breach.
abbrev pub IsRefused : EvalFault → Program → List ℕ → List Argument → Type 0
IsRefused Memory program name xs = Unit {0}
IsRefused NoEntry program name xs = NoneBegins program name xs
IsRefused (NotIndependent d) program name xs = (f : ℕ) × Begins program name xs f × IsFirst d (Depends program f)
