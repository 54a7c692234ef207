-- Code in which varying variables are known (isp_steady): an index that counts on from a scalar is taken as a row, where its registers are there.
--     KnownRows     such code does what it means, has its operands, and is short
use Rattle.std.specs.Prelude.{◌≡◌, ◌≤◌, ℕ, ◌+◌, ◌*◌, List, length, Bool, true, false, not, ◌&&◌}
use Rattle.isp_base.specs.declared.types.Elem.{Elem}
use Rattle.isp_base.specs.declared.types.Elem.TheVariants.{Bool as Truth, U64}
use Rattle.isp_base.specs.declared.types.Rate.TheVariants.{Uniform}
use Rattle.isp_code.specs.Conf.{Conf}
use Rattle.isp_code.specs.Listing.{Listing, Routine}
use Rattle.isp_typed.specs.Nodes.{typed_nodes}
use Rattle.isp_typed.specs.Typed.{TExpr, TFunction, type_of}
use Rattle.isp_meaning.specs.State.{State}
use Rattle.isp_steady.specs.Alone.{alone}
use Rattle.isp_steady.specs.Known.{AreAsKnown, Known, is_known}
use Rattle.isp_steady.specs.Linear.{linear}
use Rattle.isp_lower_code.specs.Code.{expr_code}
use Rattle.isp_lower_code.specs.Elements.{counts}
use Rattle.isp_lower_code.specs.Fits.{InTable}
use Rattle.isp_lower_code.specs.Found.{found}
use Rattle.isp_lower_code.specs.Layout.{HasNoRows, KnowsNothing, Layout}
pub use Rattle.isp_lower_code.specs.RowCode.{row_index_asks}
use Rattle.isp_lower_code.specs.Setting.{IsKnownIn, IsSettled, Setting, Stands}
use Rattle.isp_lower_code.specs.Sound.{Granted, Links}

-- an index of this type may be one: not of uint64, since that may be no number of int64
abbrev pub is_row_type : Elem → Bool
is_row_type Truth = false
is_row_type U64 = false
is_row_type t = true

-- The layout where these variables are known. It is said of which indices the registers are there, at which slots; one that is a run as it stands
-- is taken as such. The code of the scalar is that of the layout without.
abbrev pub with_known : (ℕ → Known) → (TExpr → ℕ → Bool) → Layout → Layout
with_known known there l =
    record l {
      known = known;
      is_row = λ i n. linear known i && (is_row_type (type_of i).elem && (not (counts l i) && there i n));
      row = λ i pc p k n. expr_code l (alone i) pc p k n;
      row_at = λ i n. found l (alone i) n;
    }

-- the same call by this layout
abbrev pub knowing : Setting → (ℕ → Known) → (TExpr → ℕ → Bool) → Setting
knowing w known there = record w { layout = with_known known there w.layout }

-- Code is for the members of a run alone, by a layout that knows nothing; what is known is of constants that no packed load writes; and the registers are there.
pub record MayKnow (w : Setting) (known : ℕ → Known) (there : TExpr → ℕ → Bool) : Type 0 where
  pub rows : HasNoRows w.layout
  pub nothing : KnowsNothing w.layout
  pub inside : w.layout.in_run ≡ true
  pub variables : (v : ℕ) → is_known (known v) ≡ true → IsKnownIn w v
  pub registers : (i : TExpr) (n : ℕ) → there i n ≡ true → InTable w (row_index_asks i n)

-- the code of an index that is taken as a row is as short as that of the index
abbrev pub RowsShort : Layout → Type 0
RowsShort l = (i : TExpr) (pc p k n : ℕ) → l.is_row i n ≡ true → length (l.row i pc p k n) + 8 ≤ 32 * typed_nodes i

pub record KnownRows : Type 0 where
  -- the call is as the laws ask
  pub settled : (w : Setting) (known : ℕ → Known) (there : TExpr → ℕ → Bool) → IsSettled w → MayKnow w known there → IsSettled (knowing w known there)
  -- the machine stands for a state where scalar registers have the scalars by which the members are as known
  pub stands : (w : Setting) (known : ℕ → Known) (there : TExpr → ℕ → Bool) (s : State) (c : Conf) → Stands w s c
      → AreAsKnown w.function.variables known (λ v. c.scalars (w.layout.variable Uniform v)) w.members s → Stands (knowing w known there) s c
  pub back : (w : Setting) (known : ℕ → Known) (there : TExpr → ℕ → Bool) (s : State) (c : Conf) → KnowsNothing w.layout → Stands (knowing w known there) s c → Stands w s c
  -- instructions have their operands
  pub linked : (fs : List TFunction) (code : Listing) (h : Routine) (l : Layout) (known : ℕ → Known) (there : TExpr → ℕ → Bool) → Links fs code h l
      → ((i : TExpr) (n : ℕ) → there i n ≡ true → Granted h l (row_index_asks i n)) → Links fs code h (with_known known there l)
  pub short : (l : Layout) (known : ℕ → Known) (there : TExpr → ℕ → Bool) → HasNoRows l → RowsShort (with_known known there l)
