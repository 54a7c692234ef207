-- Elements in a row, as the code names them.
use Rattle.std.specs.Prelude.{ℕ, ◌*◌}
use Rattle.isp_code.specs.declared.register.Register.{Register}
use Rattle.isp_forms.specs.declared.form.Form.{Form}
use Rattle.isp_wasm_meaning.specs.Syntax.{Code, Load, If, Then}
use Rattle.isp_wasm.specs.Places.{Setting, Fresh}
use Rattle.isp_wasm.specs.Templates as templates
use Rattle.isp_wasm.specs.Templates.{address_at, scalar_local, run_index, run_is_there, store_part}
use Rattle.isp_wasm_vectors.specs.declared.loops.Index.TheVariants as index
use Rattle.isp_wasm_vectors.specs.declared.loops.Elements.{Elements}
use Rattle.isp_wasm_vectors.specs.declared.runs.Run.{Run}

-- lane by lane
abbrev pub elements_of : Run → Elements
elements_of r = record { array = r.array; index = index.Run r.index; mask = r.mask; place = r.place }

module _ (w : Setting) where
  abbrev pub part_load : Run → ℕ → Code
  part_load r j = Load 16 (w.local (Fresh j)) (address_at w r.array (scalar_local w r.index)) (j * 16)

  abbrev pub part_store : Run → Register → ℕ → Code
  part_store r y j = store_part w r.array r.index y r.mask j

  abbrev pub load_row : Form → Register → Run → Code
  load_row form d r = templates.load_row w form d r.array r.index r.mask

  abbrev pub load_lanes : Register → Run → Code
  load_lanes d r = templates.lane_loads w d r.array (run_index w r.index) r.mask r.place

  abbrev pub load_at_once : Form → Register → Run → Code
  load_at_once form d r = If (run_is_there w r.array r.index) (load_row form d r) (load_lanes d r)

  abbrev pub store_row : Run → Register → Code
  store_row r y = templates.store_row w r.array r.index y r.mask

  abbrev pub store_lanes : Run → Register → Code
  store_lanes r y = Then (templates.lane_checks w r.array (run_index w r.index) r.mask r.place) (templates.lane_stores w r.array (run_index w r.index) y r.mask)

  abbrev pub store_at_once : Run → Register → Code
  store_at_once r y = If (run_is_there w r.array r.index) (store_row r y) (store_lanes r y)
