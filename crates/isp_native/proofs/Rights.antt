-- The forms that rows tell are right, where the laws of isp_lanes_read hold of the rows.
use Rattle.std.proofs.Common.{◌≡◌, ℕ, ◌+◌, Some, None, Option, Bool, true, false, not, ◌&&◌, List, inr, refl, sym, subst, ◌∙◌}
use Rattle.std.proofs.lemmas.Bool.{and_parts, not-true, false≢true}
use Rattle.std.specs.Prelude.{if◌then◌else◌, option_map}
use Rattle.isp_code.specs.Conf.{Conf}
use Rattle.isp_code.specs.Listing.{Listing, Routine}
use Rattle.isp_code.specs.declared.instr.Instr.{Instr}
use Rattle.isp_code.specs.declared.instr.Instr.TheVariants as instr
use Rattle.isp_lanes_read.specs.Free.{is_call, is_free, is_free_write, is_unread, is_useless}
use Rattle.isp_lanes_read.specs.Laws.{WritesFree}
use Rattle.isp_lanes_read.specs.Reads.{is_pure, written}
use Rattle.isp_lanes_read.specs.Rows.{Row, Rows, row_at, rows_of}
use Rattle.isp_lanes_read.specs.declared.table.Reading.{Reading}
use Rattle.isp_lanes_read.specs.declared.table.Tables.{Tables}
use Rattle.isp_native.specs.Forms.{AreRight, IsRightAt, freed, is_pure_write}
use Rattle.isp_native.specs.Text.{IsCText, c_text}
use Rattle.isp_native.specs.declared.form.Form.{Form}
use Rattle.isp_native.specs.declared.form.Form.TheVariants.{Kept, Free, Useless}
use Rattle.isp_native.specs.reader.Forms.{HaveLaws, HaveLawsIfAny, form_at, form_by}

-- what holds of each form that is told holds of the one that is found
module _ (P : Form → Type 0) where
  by_form : (useless free : Bool) → (useless ≡ true → P Useless) → (free ≡ true → P Free) → P Kept → P (if useless then Useless else (if free then Free else Kept))
  by_form true free u f k = u refl
  by_form false true u f k = f refl
  by_form false false u f k = k

pure_of : (next : Row) (i : Instr) → is_useless next i ≡ true → is_pure_write i ≡ true
pure_of next (instr.Vector d i) e = (and_parts (is_pure i) (is_unread next d.number) e).0
pure_of next i e = absurd (false≢true e)

some_written : (row next : Row) (w : Option Reading) → is_free_write row next w ≡ true → (r : Reading) × (w ≡ Some r)
some_written row next None e = absurd (false≢true e)
some_written row next (Some r) e = (r, refl)

not_called : (i : Instr) → is_call i ≡ false → freed i ≡ written i
not_called (instr.Call c) e = absurd (false≢true (sym e))
not_called i e = refl

module _ (code : Listing) (rows : Rows) (laws : HaveLaws code rows) where
  module _ (c : Conf) (h : Routine) (i : Instr) (here : WritesFree code rows c h i) where
    abbrev row : Row
    row = row_at rows c.home.fn c.pc

    abbrev behind : Row
    behind = row_at rows c.home.fn (c.pc + 1)

    free_right : (is_free row behind i && not (is_call i)) ≡ true → IsRightAt code rows c h i Free
    free_right e =
        let both = and_parts (is_free row behind i) (not (is_call i)) e in
        let inner : is_call i ≡ false = not-true (is_call i) both.1 in
        let w = some_written row behind (written i) both.0 in
        (w.0, not_called i inner ∙ w.1, here.forgets w.0 w.1 inner both.0)

    form_right : IsRightAt code rows c h i (form_by row behind i)
    form_right = by_form (IsRightAt code rows c h i) (is_useless behind i) (is_free row behind i && not (is_call i)) (λ e. (pure_of behind i e, here.skips e)) free_right tt

  pub forms_right : AreRight code (form_at (Some rows))
  forms_right = record {
    rows = rows;
    always = laws.masks.always;
    outcomes = laws.runs.outcomes;
    right = λ c holds h at i there. form_right c h i (laws.writes c holds h at i there);
  }

-- ---- the file

pub laws_of : (code : Listing) (tables : Tables) (found : Option Tables) → found ≡ Some tables → HaveLawsIfAny code (option_map rows_of found) → HaveLaws code (rows_of tables)
laws_of code tables found e laws = subst (λ t. HaveLawsIfAny code (option_map rows_of t)) e laws

pub text_right : (code : Listing) (rows : Rows) (text : List ℕ) → HaveLaws code rows → text ≡ c_text code (form_at (Some rows)) → IsCText code text
text_right code rows text laws e = inr (form_at (Some rows), forms_right code rows laws, e)
