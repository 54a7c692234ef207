-- In each call of a function of some code its first instructions do what a tree means.
use Rattle.std.specs.Prelude.{◌≡◌, ◌+◌, ℕ}
use Rattle.isp_base.specs.Sets.{Mask}
use Rattle.isp_base.specs.declared.types.Rate.TheVariants.{Uniform}
use Rattle.isp_code.specs.Conf.{Conf}
use Rattle.isp_code.specs.Listing.{Listing}
use Rattle.isp_lower_code.specs.Rows.{Rows, layout_of}
use Rattle.isp_lower_code.specs.Runs.{DoneRuns, Enters, Runs}
use Rattle.isp_lower_code.specs.Setting.{Holds, IsSettled, Setting, calls_of, gang_of}
use Rattle.isp_meaning.specs.Expressions.{value}
use Rattle.isp_meaning.specs.Simple.{simple}
use Rattle.isp_meaning.specs.State.{State}
use Rattle.isp_tests_lower.specs.Trees.{assignment, sum}
use Rattle.isp_typed.specs.Typed.{Program, TFunction}

-- a call of the code's first function, which is that of a program, where registers lie as some rows say
pub record IsCallOf (p : Program) (f : TFunction) (code : Listing) (rows : Rows) (w : Setting) : Type 0 where
  pub program : w.program ≡ p
  pub function : w.function ≡ f
  pub given : w.code ≡ code
  pub first : w.home.fn ≡ 0
  pub layout : w.layout ≡ layout_of w.layout.rates rows
  pub settled : IsSettled w

-- the instructions before some number give the value in some register
pub record SumRuns (p : Program) (f : TFunction) (code : Listing) : Type 0 where
  pub rows : Rows
  pub register : ℕ
  pub end : ℕ
  pub runs : (w : Setting) → IsCallOf p f code rows w → (q : ℕ) (a : Mask) (s : State) (c : Conf) → Enters w 0 0 3 a s c q
      → Runs w c end 3 (4 + q) (Holds Uniform a register) (value (gang_of w) w.frame (calls_of w) sum a s)

-- or leave the state after the assignment
pub record AssignmentRuns (p : Program) (f : TFunction) (code : Listing) : Type 0 where
  pub rows : Rows
  pub end : ℕ
  pub runs : (w : Setting) → IsCallOf p f code rows w → (q : ℕ) (a : Mask) (s : State) (c : Conf) → Enters w 0 0 3 a s c q
      → DoneRuns w c end 3 q (simple (gang_of w) w.frame (calls_of w) assignment a s)
