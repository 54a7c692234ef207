-- What holds of the code of every expression and assignment.
use Rattle.std.specs.Prelude.{ℕ, List, ◌≡◌, ◌+◌, length}
use Rattle.isp_base.specs.Sets.{Mask}
use Rattle.isp_code.specs.Conf.{Conf}
use Rattle.std.specs.List.{All}
use Rattle.isp_typed.specs.Fine.{FineExpr, FineSimple, FineItem}
use Rattle.isp_typed.specs.Typed.{TExpr, TSimple, TItem, TFunction, type_of}
use Rattle.isp_typed.specs.declared.variable.Variable.{Variable}
use Rattle.isp_meaning.specs.Outcomes.{Stops}
use Rattle.isp_meaning.specs.State.{State}
use Rattle.isp_meaning.specs.Expressions.{value}
use Rattle.isp_meaning.specs.Simple.{simple, items}
use Rattle.isp_code.specs.Listing.{Listing, Routine}
use Rattle.isp_lower_code.specs.Layout.{Layout, IsApart}
use Rattle.isp_lower_code.specs.Rows.{Rows, layout_of}
use Rattle.isp_lower_code.specs.Rated.{IsRated, SimpleRated, ItemsRated}
use Rattle.isp_base.specs.declared.types.Rate.{Rate}
use Rattle.isp_lower_code.specs.Sound.{HasKept, Links, PartSound, IsRegister, ExprPresent, SimplePresent, ItemsPresent}
use Rattle.isp_lower_code.specs.Items.{items_code, items_places}
use Rattle.isp_lower_code.specs.Simple.{simple_code, simple_places}
use Rattle.isp_lower_code.specs.Setting.{Setting, IsSettled, with_turns, gang_of, calls_of, AreAt, Holds}
use Rattle.isp_lower_code.specs.Runs.{Enters, Runs, DoneRuns}
use Rattle.isp_lower_code.specs.Steps.{GoesOn}
use Rattle.isp_lower_code.specs.Fits.{ExprFits, SimpleFits, ItemsFit}
use Rattle.isp_lower_code.specs.Code.{expr_code}
use Rattle.isp_lower_code.specs.Found.{found}
use Rattle.isp_lower_code.specs.Spans.{expr_places}

-- From registers that stand for a state and a mask that stands for a set with members, the code of an expression gives
-- its value and its state, traps as it traps, or goes on where it is cut. It leaves four steps: an expression of work w
-- comes to its value, its trap or its cut after at most 32 w - 4.
abbrev pub ExprRuns : Type 0
ExprRuns =
    (w : Setting) → IsSettled w → (x : TExpr) (pc p k n q : ℕ) (a : Mask) (s : State) (c : Conf) → ExprFits w x n
    → AreAt w.routine.code pc (expr_code w.layout x pc p k n) → AreAt w.code.places p (expr_places w.layout x) → Enters w pc k n a s c q
    → Runs w c (pc + length (expr_code w.layout x pc p k n)) n (4 + q) (Holds (type_of x).rate a (found w.layout x n))
    (value (gang_of w) w.frame (calls_of w) x a s)

-- The code of what stands before a semicolon leaves registers that stand for the state after it: a place is written for
-- the members of the set alone, after its index and the right side, and the highest instance wins in one element; an
-- operator reads its place after the right side. It takes at most 32 steps for each unit of work.
abbrev pub SimpleRuns : Type 0
SimpleRuns =
    (w : Setting) → IsSettled w → (x : TSimple) (pc p k n q : ℕ) (a : Mask) (s : State) (c : Conf) → SimpleFits w x n
    → AreAt w.routine.code pc (simple_code w.layout x pc p k n) → AreAt w.code.places p (simple_places w.layout x) → Enters w pc k n a s c q
    → DoneRuns w c (pc + length (simple_code w.layout x pc p k n)) n q (simple (gang_of w) w.frame (calls_of w) x a s)

-- The same of declared variables, which begin with their value or with 0, and of arrays, which begin with zeros.
abbrev pub ItemsRun : Type 0
ItemsRun =
    (w : Setting) → IsSettled w → (xs : List TItem) (pc p k n q : ℕ) (a : Mask) (s : State) (c : Conf) → ItemsFit w n xs
    → AreAt w.routine.code pc (items_code w.layout xs pc p k n) → AreAt w.code.places p (items_places w.layout xs) → Enters w pc k n a s c q
    → DoneRuns w c (pc + length (items_code w.layout xs pc p k n)) n q (items (gang_of w) w.frame (calls_of w) xs a s)

-- Where the meaning of an expression is cut for each number of turns that a loop may make, its code goes on without end, and
-- the two outputs are beginnings of each other's.
abbrev pub ExprGoesOn : Type 0
ExprGoesOn =
    (w : Setting) → ((m : ℕ) → IsSettled (with_turns w m)) → (x : TExpr) (pc p k n q : ℕ) (a : Mask) (s : State) (c : Conf) (cuts : ℕ → State)
    → ExprFits w x n → AreAt w.routine.code pc (expr_code w.layout x pc p k n) → AreAt w.code.places p (expr_places w.layout x)
    → Enters w pc k n a s c q → ((m : ℕ) → value (gang_of w) w.frame (calls_of (with_turns w m)) x a s ≡ Stops (cuts m)) → GoesOn w.code c cuts

-- The same of what stands before a semicolon.
abbrev pub SimpleGoesOn : Type 0
SimpleGoesOn =
    (w : Setting) → ((m : ℕ) → IsSettled (with_turns w m)) → (x : TSimple) (pc p k n q : ℕ) (a : Mask) (s : State) (c : Conf) (cuts : ℕ → State)
    → SimpleFits w x n → AreAt w.routine.code pc (simple_code w.layout x pc p k n) → AreAt w.code.places p (simple_places w.layout x)
    → Enters w pc k n a s c q → ((m : ℕ) → simple (gang_of w) w.frame (calls_of (with_turns w m)) x a s ≡ Stops (cuts m)) → GoesOn w.code c cuts

-- A layout from rows gives each name a register of its own.
abbrev pub LayoutsAreApart : Type 0
LayoutsAreApart = (rates : ℕ → List Rate) (rows : Rows) → IsApart (layout_of rates rows)

-- The code of a tree has its operands, where names, types and rates accept it, the registers that it asks for are there, and the functions that it calls
-- have routines with their headers; and so
-- is the register in which the value of an expression is found, with the expression's type.
pub record ExprSound : Type 0 where
  pub part : (fs : List TFunction) (vars : List Variable) (code : Listing) (h : Routine) (l : Layout) (x : TExpr) (n : ℕ) → Links fs code h l
      → FineExpr fs vars x → IsRated fs x → ExprPresent h l x n → PartSound code h (expr_places l x) (λ pc p k. expr_code l x pc p k n)
  pub there : (fs : List TFunction) (vars : List Variable) (h : Routine) (l : Layout) (x : TExpr) (n : ℕ) → HasKept h l → FineExpr fs vars x → IsRated fs x → ExprPresent h l x n → IsRegister h (type_of x).rate (found l x n) (type_of x).elem

abbrev pub SimpleSound : Type 0
SimpleSound =
    (fs : List TFunction) (vars : List Variable) (code : Listing) (h : Routine) (l : Layout) (x : TSimple) (n : ℕ) → Links fs code h l
    → FineSimple fs vars x → SimpleRated fs x → SimplePresent h l x n → PartSound code h (simple_places l x) (λ pc p k. simple_code l x pc p k n)

abbrev pub ItemsSound : Type 0
ItemsSound =
    (fs : List TFunction) (vars : List Variable) (code : Listing) (h : Routine) (l : Layout) (xs : List TItem) (n : ℕ) → Links fs code h l
    → All (FineItem fs vars) xs → ItemsRated fs xs → ItemsPresent h l n xs
    → PartSound code h (items_places l xs) (λ pc p k. items_code l xs pc p k n)
