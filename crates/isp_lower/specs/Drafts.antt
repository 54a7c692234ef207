-- A program's code while it is written: what an emitter has, as lists.
use Rattle.std.specs.Prelude.{◌≡◌, ℕ, ◌+◌, ◌≤◌, List, [], ◌∷◌, ◌++◌, length, map, max, true, Option, Some, None, IsSome, option_map}
use Rattle.std.specs.List.{list_all}
use Rattle.isp_base.specs.declared.types.Elem.{Elem}
use Rattle.isp_base.specs.declared.types.Gang.{Gang}
use Rattle.isp_base.specs.declared.types.Rate.{Rate}
use Rattle.isp_base.specs.declared.types.Span.{Span}
use Rattle.isp_code.specs.Listing.{Listing, Routine, routine_of}
use Rattle.isp_code.specs.Writable.{has_byte, parts_fit, place_fits}
use Rattle.isp_code.specs.declared.instr.Instr.{Instr}
use Rattle.isp_code.specs.declared.register.Class.TheVariants.{Mask}
use Rattle.isp_typed.specs.Typed.{Program, TFunction}
use Rattle.isp_typed.specs.Views.{functions_of}
use Rattle.isp_lower_code.specs.FirstRows.{first_rows}
use Rattle.isp_registers.specs.Growth.{rows_of}
use Rattle.isp_lower.specs.Emitted.{texts_of}
use Rattle.isp_lower_code.specs.Header.{Heading, heading_of, routine_with}
pub use Rattle.isp_lower.specs.Headings.{heading_in}
use Rattle.isp_lower_code.specs.Lines.{has_small_numbers}
use Rattle.isp_lower_code.specs.Layout.{class_at}
use Rattle.isp_lower_code.specs.Named.{InCode, InInstr, IsOf, behind_named}
use Rattle.isp_lower_code.specs.Patched.{patched}
use Rattle.isp_lower_code.specs.Rows.{Rows, rows_at, with_fresh_from_at}
use Rattle.isp_lower.specs.declared.closing.Closed.{Closed}
use Rattle.isp_lower.specs.declared.types.Emitter.{Emitter}

-- The functions that code may call, the places and texts of all functions, the routines of those that are closed, and of the function at work its heading, if
-- there is one, its registers, how many masks it has, and its code.
pub record Draft : Type 0 where
  pub gang : Gang
  pub callees : List TFunction
  pub places : List Span
  pub texts : List (List ℕ)
  pub routines : List Routine
  pub heading : Option Heading
  pub rows : Rows
  pub masks : ℕ
  pub code : List Instr

-- of a function that is closed
abbrev pub routine_in : Closed → Routine
routine_in c = record (routine_of c.routine) { code = c.lines.items }

abbrev pub draft_of : Emitter → Draft
draft_of e =
    record {
      gang = e.gang;
      callees = functions_of e.callees.now;
      places = e.body.places.items;
      texts = texts_of e.body;
      routines = map routine_in e.functions.items;
      heading = option_map heading_in e.heading;
      rows = rows_of e.reserved.registers;
      masks = e.reserved.masks;
      code =
          e.body.code.items;
    }

-- ---- from one to the next

abbrev pub first_draft : Program → Draft
first_draft p =
    record { gang = p.gang; callees = p.functions; places = []; texts = []; routines = []; heading = None; rows = record { scalars = []; vectors = []; arrays = []; loaded = [] }; masks = 0; code = [] }

-- the routine of the function at work, if there is one
abbrev pub routine_at_work : Option Heading → Rows → ℕ → List Instr → List Routine
routine_at_work None rows masks code = []
routine_at_work (Some h) rows masks code = routine_with h rows masks code ∷ []

-- its code is put away
abbrev pub code_left : Option Heading → List Instr → List Instr
code_left None code = code
code_left (Some h) code = []

abbrev pub all_routines : Draft → List Routine
all_routines d = d.routines ++ routine_at_work d.heading d.rows d.masks d.code

-- the function at work is closed
abbrev pub closed : Draft → Draft
closed d = record d { routines = all_routines d; heading = None; code = code_left d.heading d.code }

abbrev pub with_heading : Heading → Draft → Draft
with_heading h d = record d { heading = Some h }

-- the function at work is closed, and the next one begins
abbrev pub begun : TFunction → Draft → Draft
begun h d =
    record d { routines = all_routines d; heading = Some (heading_of h); rows = first_rows h.variables h.answer; masks = 3; code = [] }

abbrev pub finished : Draft → Listing
finished d = record { gang = d.gang; places = d.places; texts = d.texts; routines = all_routines d }

abbrev pub with_place : Span → Draft → Draft
with_place s d = record d { places = d.places ++ s ∷ [] }

abbrev pub with_text : List ℕ → Draft → Draft
with_text t d = record d { texts = d.texts ++ t ∷ [] }

abbrev pub with_instr : Instr → Draft → Draft
with_instr i d = record d { code = d.code ++ i ∷ [] }

-- the next register is after those that are there and those that the code names; so is the next mask
abbrev pub next_register : Rate → Draft → ℕ
next_register r d = max (length (rows_at d.rows r)) (behind_named (class_at r) d.code)

abbrev pub next_mask : Draft → ℕ
next_mask d = max d.masks (behind_named Mask d.code)

abbrev pub with_register : Rate → Elem → Draft → Draft
with_register r t d = record d { rows = with_fresh_from_at (behind_named (class_at r) d.code) r t d.rows }

abbrev pub with_mask : Draft → Draft
with_mask d = record d { masks = next_mask d + 1 }

abbrev pub with_target : ℕ → ℕ → Draft → Draft
with_target at to d = record d { code = patched d.code at to }

-- ---- what is asked of a draft

-- the text of code can have its places and its texts, each by a number
pub record TablesCanBeWritten (d : Draft) : Type 0 where
  pub places : list_all place_fits d.places ≡ true
  pub few_places : length d.places ≤ 4294967296
  pub texts : list_all has_byte d.texts ≡ true
  pub few_texts : length d.texts ≤ 4294967296

-- and of each function the names, the local arrays, the constants and the numbers
pub record CanBeWritten (d : Draft) : Type 0 where
  pub tables : TablesCanBeWritten d
  pub routines : list_all parts_fit (all_routines d) ≡ true
  pub numbers : list_all has_small_numbers (all_routines d) ≡ true

abbrev pub IsBegun : Draft → Type 0
IsBegun d = IsSome d.heading

-- the function at work has each register that an instruction names
abbrev pub HasNamed : Draft → Instr → Type 0
HasNamed d i = InInstr (IsOf d.rows d.masks) i

-- and that its code names
abbrev pub HasAllNamed : Draft → Type 0
HasAllNamed d = InCode (IsOf d.rows d.masks) d.code
