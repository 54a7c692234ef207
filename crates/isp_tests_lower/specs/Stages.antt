-- What an emitter has while the two functions of Trees are written.
use Rattle.std.specs.Prelude.{◌≡◌, ◌≤◌, ℕ, List, [], ◌∷◌, length, Some, None, true, false}
use Rattle.std.specs.List.{list_all}
use Rattle.isp_base.specs.declared.types.Elem.TheVariants.{I32, I64}
use Rattle.isp_base.specs.declared.types.Rate.TheVariants.{Uniform}
use Rattle.isp_base.specs.declared.types.Span.{Span}
use Rattle.isp_code.specs.Writable.{constant_in, place_fits}
use Rattle.isp_code.specs.declared.instr.Instr.{Instr}
use Rattle.isp_code.specs.declared.instr.Instr.TheVariants as instr
use Rattle.isp_typed.specs.Typed.{Program, TFunction}
use Rattle.isp_lower.specs.Drafts.{Draft, begun, first_draft, with_instr, with_place, with_register, with_text}
use Rattle.isp_lower_code.specs.FirstRows.{Begins, array_rows}
use Rattle.isp_lower_code.specs.Header.{heading_of}
use Rattle.isp_lower_code.specs.Lines.{has_small_number}
use Rattle.isp_lower_code.specs.Rows.{Rows, keeps}

abbrev pub place : Span
place = record { start = 3; end = 5 }

-- the bytes of `hi`
abbrev pub hi : List ℕ
hi = 104 ∷ 105 ∷ []

module _ (f : TFunction) (p : Program) where
  -- the first function is at work, with one register more and a return, beside a place and a text
  abbrev pub first_written : Draft
  first_written = with_instr (instr.Return None) (with_register Uniform I64 (with_text hi (with_place place (begun f (first_draft p)))))

-- then the second, with one register more and a jump
abbrev pub with_jump : TFunction → TFunction → Program → Draft
with_jump f g p = with_instr (instr.Jump 0) (with_register Uniform I64 (begun g (first_written f p)))

-- nothing is written
pub record IsNew (d : Draft) : Type 0 where
  pub program : Program
  pub is : d ≡ first_draft program

-- the first function is written
pub record HasFirst (f : TFunction) (d : Draft) : Type 0 where
  pub program : Program
  pub is : d ≡ first_written f program

-- the second function has its jump, and nothing else
pub record HasJump (f g : TFunction) (d : Draft) : Type 0 where
  pub program : Program
  pub is : d ≡ with_jump f g program

-- 1 and 2 have code wherever they stand
abbrev pub NoneKept : Rows → Type 0
NoneKept rows =
    (keeps rows.scalars I32 1 ≡ false) × (keeps rows.scalars I32 2 ≡ false) × (keeps rows.vectors I32 1 ≡ false) × (keeps rows.vectors I32 2 ≡ false)

-- at most so many instructions, places, registers of each class, and arrays
pub record HasFew (n : ℕ) (d : Draft) : Type 0 where
  pub code : length d.code ≤ n
  pub places : length d.places ≤ n
  pub scalars : length d.rows.scalars ≤ n
  pub vectors : length d.rows.vectors ≤ n
  pub arrays : length d.rows.arrays ≤ n

-- the second function has its jump, then code that a text can have, and not more than that much of anything; the first is closed
pub record HasCode (f g : TFunction) (n : ℕ) (d : Draft) : Type 0 where
  pub program : Program
  pub heading : d.heading ≡ Some (heading_of g)
  pub texts : d.texts ≡ hi ∷ []
  pub routines : d.routines ≡ (with_jump f g program).routines
  pub places : list_all place_fits d.places ≡ true
  pub rest : List Instr
  pub code : d.code ≡ instr.Jump 0 ∷ rest
  pub constants : list_all constant_in rest ≡ true
  pub numbers : list_all has_small_number rest ≡ true
  pub arrays : Begins (array_rows 0 g.variables) d.rows.arrays
  pub kept : NoneKept d.rows
  pub masks : 3 ≤ d.masks
  pub few : HasFew n d
