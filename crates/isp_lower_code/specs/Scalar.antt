-- The code of a steady or a linear expression as one scalar: that of its scalar expression (isp_steady), in which each variable that is known
-- stands in the scalar register of its own number.
use Rattle.std.specs.Prelude.{◌≡◌, ℕ, List, Bool, true, false, ◌||◌, ◌+◌, length}
use Rattle.isp_base.specs.Sets.{Mask}
use Rattle.isp_base.specs.declared.types.Elem.{Elem}
use Rattle.isp_base.specs.declared.types.Rate.TheVariants.{Uniform}
use Rattle.isp_code.specs.Conf.{Conf}
use Rattle.isp_typed.specs.Fine.{FineExpr}
use Rattle.isp_typed.specs.Typed.{TExpr, elem_of}
use Rattle.isp_typed.specs.declared.variable.Variable.{Variable}
use Rattle.isp_meaning.specs.Expressions.{value}
use Rattle.isp_meaning.specs.Payloads.{Payload}
use Rattle.isp_meaning.specs.State.{State}
use Rattle.isp_steady.specs.Known.{Known, is_known, AreAsKnown}
use Rattle.isp_steady.specs.Steady.{steady}
use Rattle.isp_steady.specs.Linear.{linear}
use Rattle.isp_steady.specs.Alone.{alone}
use Rattle.isp_steady.specs.Values.{IsOne, IsCounted}
use Rattle.isp_lower_code.specs.Asks.{expr_asks}
use Rattle.isp_lower_code.specs.Code.{expr_code}
use Rattle.isp_lower_code.specs.Fits.{InTable}
use Rattle.isp_lower_code.specs.Found.{found}
use Rattle.isp_lower_code.specs.Layout.{HasNoRows, KnowsNothing, Layout}
use Rattle.isp_lower_code.specs.Runs.{Enters, Runs}
use Rattle.isp_lower_code.specs.Setting.{Setting, IsSettled, IsVarying, AreAt, calls_of, gang_of}
use Rattle.isp_lower_code.specs.Spans.{expr_places}

-- only varying variables are known
abbrev pub AreVarying : List Variable → (ℕ → Known) → Type 0
AreVarying vars known = (v : ℕ) → is_known (known v) ≡ true → IsVarying vars v

-- the scalar of each is in the scalar register of its number
abbrev pub ScalarsHold : Layout → (ℕ → Known) → (ℕ → ℕ) → Conf → Type 0
ScalarsHold l known scalars c = (v : ℕ) → is_known (known v) ≡ true → c.scalars (l.variable Uniform v) ≡ scalars v

-- each member of a set has the value u of type t, or that of u + p in member p
abbrev pub IsBy : (is_steady : Bool) → Elem → Mask → ℕ → Payload → Type 0
IsBy true t a u m = IsOne a u m
IsBy false t a u m = IsCounted t a u m

-- In a layout without rows, that knows nothing itself, where registers have the scalars by which variables are known, the code of the scalar expression traps as the expression traps for the
-- members of the mask, and else leaves the scalar of its value in a register.
abbrev pub ScalarRuns : Type 0
ScalarRuns =
    (w : Setting) → IsSettled w → HasNoRows w.layout → KnowsNothing w.layout → (known : ℕ → Known) (scalars : ℕ → ℕ) (x : TExpr) (pc p k n q : ℕ) (a : Mask) (s : State) (c : Conf)
    → FineExpr w.program.functions w.function.variables x → (steady known x || linear known x) ≡ true → AreVarying w.function.variables known
    → InTable w (expr_asks (alone x) n)
    → AreAt w.routine.code pc (expr_code w.layout (alone x) pc p k n) → AreAt w.code.places p (expr_places w.layout (alone x))
    → AreAsKnown w.function.variables known scalars a s → ScalarsHold w.layout known scalars c → Enters w pc k n a s c q
    → Runs w c (pc + length (expr_code w.layout (alone x) pc p k n)) n (4 + q)
    (λ m c'. IsBy (steady known x) (elem_of x) a (c'.scalars (found w.layout (alone x) n)) m × ScalarsHold w.layout known scalars c')
    (value (gang_of w) w.frame (calls_of w) x a s)

-- Such code names the places of the source that the expression's own code names.
abbrev pub ScalarPlaces : Type 0
ScalarPlaces =
    (l : Layout) (known : ℕ → Known) (x : TExpr) → (steady known x || linear known x) ≡ true → expr_places l (alone x) ≡ expr_places l x
