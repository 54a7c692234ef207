-- What is known of a declared variable: what is known of its value, where the code after it does not set it again.
--     ItemIsKnown     it is so after its declaration
--     BehindIsKnown   and after each statement of a list what was known and what is learned there
use Rattle.std.specs.Prelude.{◌≡◌, ℕ, Option, List, [], ◌∷◌, Bool, true, false, if◌then◌else◌}
use Rattle.isp_base.specs.Maps.{put}
use Rattle.isp_base.specs.Sets.{Mask, any}
use Rattle.isp_base.specs.declared.types.Rate.{Rate}
use Rattle.isp_base.specs.declared.types.Rate.TheVariants.{Uniform, Varying}
use Rattle.isp_base.specs.declared.types.Ty.{Ty}
use Rattle.isp_typed.specs.Fine.{FineItem, FineStmt}
use Rattle.isp_typed.specs.Typed.{TExpr, TItem, t_plain, t_with_value, t_with_size, TStmt, t_declare, TStmts, t_stmt_then}
use Rattle.isp_typed.specs.declared.variable.Variable.{Variable}
use Rattle.isp_meaning.specs.State.{State, tick}
use Rattle.isp_meaning.specs.Payloads.{One}
use Rattle.isp_meaning.specs.Outcomes.{Val, Gives, Fails, Stops, Done}
use Rattle.isp_steady.specs.Known.{Known, Unknown, Steady, Linear, is_known, IsInside, AreAsKnown}
use Rattle.isp_steady.specs.Steady.{steady}
use Rattle.isp_steady.specs.Linear.{linear}
use Rattle.isp_steady.specs.Alone.{alone, lent}
use Rattle.isp_steady.specs.Code.{Where, gang_of, value_of, item_of, run_of}
use Rattle.isp_steady.specs.Assigns.{item_sets, items_set, all_assign}
use Rattle.isp_steady.specs.Kept.{AreUnset, KnownBy}
use Rattle.isp_meaning.specs.Loads.{either}

abbrev pub known_value : (is_steady is_linear : Bool) → Known
known_value true l = Steady
known_value false true = Linear
known_value false false = Unknown

-- a uniform variable needs nothing known
abbrev pub known_at : Rate → (ℕ → Known) → TExpr → Known
known_at Uniform known x = Unknown
known_at Varying known x = known_value (steady known x) (linear known x)

-- What is known after an item, where the code after it sets these variables.
abbrev pub learned : (ℕ → Bool) → (ℕ → Known) → TItem → ℕ → Known
learned sets known (t_with_value v t x sp) = put known v (if sets v then Unknown else known_at t.rate known x)
learned sets known (t_plain v t sp) = put known v Unknown
learned sets known (t_with_size b sp) = known

-- with the scalar of what it declares
abbrev pub with_scalar : TItem → ℕ → (ℕ → ℕ) → ℕ → ℕ
with_scalar (t_with_value v t x sp) u scalars = put scalars v u
with_scalar (t_plain v t sp) u scalars = scalars
with_scalar (t_with_size b sp) u scalars = scalars

-- Where something is known of it then, that scalar is what the scalar expression gives.
abbrev pub IsItsScalar : Where → (ℕ → Bool) → (ℕ → Known) → (ℕ → ℕ) → TItem → ℕ → Mask → State → Type 0
IsItsScalar w sets known scalars (t_with_value v t x sp) u a s =
    is_known (if sets v then Unknown else known_at t.rate known x) ≡ true
    → (s1 : State) × (value_of w (alone x) a (lent known scalars (tick s)) ≡ Gives (One u) s1)
IsItsScalar w sets known scalars (t_plain v t sp) u a s = Unit {0}
IsItsScalar w sets known scalars (t_with_size b sp) u a s = Unit {0}

-- where the item does not trap
abbrev pub LearnsBy : (ℕ → State → Type 0) → Val Done → Type 0
LearnsBy P (Gives d s1) = (u : ℕ) × P u s1
LearnsBy P (Fails trap s1) = Unit {0}
LearnsBy P (Stops s1) = Unit {0}

-- somebody is there, and all are instances of the gang
abbrev pub AreThere : Where → Mask → Type 0
AreThere w a = (any (gang_of w) a ≡ true) × IsInside (gang_of w) a

-- In a program that names and types accept, where the item sets no variable that is known already.
abbrev pub ItemIsKnown : Type 0
ItemIsKnown =
    (w : Where) (vars : List Variable) (known : ℕ → Known) (scalars : ℕ → ℕ) (sets : ℕ → Bool) (x : TItem) (a : Mask) (s : State)
    → FineItem w.program.functions vars x
    → AreThere w a
    → AreUnset known (item_sets x)
    → AreAsKnown vars known scalars a s
    → LearnsBy (λ u s1. AreAsKnown vars (learned sets known x) (with_scalar x u scalars) a s1 × IsItsScalar w sets known scalars x u a s) (item_of w x a s)

-- ---- statements of a list

-- after some items
abbrev pub items_learned : (ℕ → Bool) → (ℕ → Known) → List TItem → ℕ → Known
items_learned sets known [] = known
items_learned sets known (x ∷ xs) = items_learned sets (learned (either (items_set xs) sets) known x) xs

-- after a statement, where the rest of its list sets these
abbrev pub behind : (ℕ → Bool) → (ℕ → Known) → TStmt → ℕ → Known
behind sets known (t_declare xs sp) = items_learned sets known xs
behind sets known x = known

-- there are scalars by which all is as known
abbrev pub AreKnown : List Variable → (ℕ → Known) → Mask → State → Type 0
AreKnown vars known a s = (scalars : ℕ → ℕ) × AreAsKnown vars known scalars a s

-- Where neither the statement nor the rest of its list sets a variable that is known before, this is so of what is known after it too.
pub record BehindIsKnown : Type 0 where
  pub known : (w : Where) (vars : List Variable) (answer : Option Ty) (known : ℕ → Known) (x : TStmt) (rest : TStmts) (a : Mask) (s : State)
      → FineStmt w.program.functions vars answer x
      → AreThere w a
      → AreUnset known (all_assign (t_stmt_then x rest))
      → AreKnown vars known a s
      → KnownBy (AreKnown vars (behind (all_assign rest) known x) a) (run_of w x a s)
  pub unset : (known : ℕ → Known) (x : TStmt) (rest : TStmts)
      → AreUnset known (all_assign (t_stmt_then x rest)) → AreUnset (behind (all_assign rest) known x) (all_assign rest)
