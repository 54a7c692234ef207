-- How an instruction is written, and when a form other than Kept is right.
--     Kept     as it stands: lanes that are off are kept
--     Free     with an F in front of its word: it writes lanes that are off too, and nobody reads those again
--     Useless  as a line that does nothing: nobody reads what it writes
use Rattle.std.specs.Prelude.{◌≡◌, ℕ, List, ◌++◌, Option, Some, None, Bool, true, false, if◌then◌else◌, codes, slice_get}
use Rattle.isp_base.specs.Arguments.{rows as stores}
use Rattle.isp_base.specs.Maps.{Lanes, put}
use Rattle.isp_base.specs.declared.signature.Argument.{Argument}
use Rattle.isp_code.specs.Conf.{Conf, Go, State, Runs}
use Rattle.isp_code.specs.Lines.{act, next}
use Rattle.isp_code.specs.Listing.{Listing, Routine}
use Rattle.isp_code.specs.Machine.{after, first_conf, outcome, outcome_after}
use Rattle.isp_code.specs.declared.instr.Instr.{Instr}
use Rattle.isp_code.specs.declared.instr.Instr.TheVariants as instr
use Rattle.isp_lanes_read.specs.Lanes.{sets}
use Rattle.isp_lanes_read.specs.Reads.{is_pure, written}
use Rattle.isp_lanes_read.specs.Rows.{Rows}
use Rattle.isp_lanes_read.specs.Standing.{Alike, Forgetful, Holds, StateHolds}
use Rattle.isp_lanes_read.specs.declared.table.Reading.{Reading}
use Rattle.isp_native.specs.Lines.{instr_line}
use Rattle.isp_native.specs.declared.form.Form.{Form}
use Rattle.isp_native.specs.declared.form.Form.TheVariants.{Kept, Free, Useless}

-- the form of instruction pc of function f
abbrev pub Forms : Type 0
Forms = ℕ → ℕ → Instr → Form

abbrev pub all_kept : Forms
all_kept f pc i = Kept

abbrev pub form_line : Form → Instr → List ℕ
form_line Kept i = instr_line i
form_line Free i = codes "F" ++ instr_line i
form_line Useless i = codes "SKIP();"

-- the lanes that a line with a free word writes; a call has none
abbrev pub freed : Instr → Option Reading
freed (instr.Call c) = None
freed i = written i

-- it writes a vector, and never traps
abbrev pub is_pure_write : Instr → Bool
is_pure_write (instr.Vector d i) = is_pure i
is_pure_write i = false

module _ (code : Listing) (rows : Rows) (c : Conf) (h : Routine) (i : Instr) where
  -- after a step lanes that are off may have become anything
  abbrev pub MayForget : Reading → Type 0
  MayForget w =
      (a : Conf) → act code h c i ≡ Go a → (old : Lanes) → Alike code rows a (record a { vectors = put a.vectors w.vector (λ p. if sets code c w.lanes p then a.vectors w.vector p else old p) })

  -- a step may as well do nothing
  abbrev pub MaySkip : Type 0
  MaySkip = (a : Conf) → act code h c i ≡ Go a → Alike code rows a (next c)

  abbrev pub IsRightAt : Form → Type 0
  IsRightAt Kept = Unit {0}
  IsRightAt Free = (w : Reading) × (freed i ≡ Some w) × MayForget w
  IsRightAt Useless = (is_pure_write i ≡ true) × MaySkip

-- Forms are right for code, by rows that tell which lanes may still be read (isp_lanes_read): what they tell is so wherever a run
-- stands; a run in which other lanes become anything has the outcome of the machine; and before each instruction its form is right.
pub record AreRight (code : Listing) (forms : Forms) : Type 0 where
  pub rows : Rows
  pub always : (f : ℕ) (h : Routine) (xs : List Argument) → slice_get code.routines f ≡ Some h → (m : ℕ) → StateHolds code rows (after code m (Runs (first_conf code f h xs)))
  pub outcomes : (f : ℕ) (h : Routine) (xs : List Argument) → slice_get code.routines f ≡ Some h → (m : ℕ) (t : State)
      → Forgetful code rows m (Runs (first_conf code f h xs)) t → outcome (stores xs) t ≡ outcome_after code f h xs m
  pub right : (c : Conf) → Holds code rows c → (h : Routine) → slice_get code.routines c.home.fn ≡ Some h → (i : Instr) → slice_get h.code c.pc ≡ Some i
      → IsRightAt code rows c h i (forms c.home.fn c.pc i)
