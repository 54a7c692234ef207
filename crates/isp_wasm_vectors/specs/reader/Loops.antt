-- Lanes one after the other, as the code names them.
use Rattle.std.specs.Prelude.{ℕ, List, ◌++◌}
use Rattle.isp_code.specs.declared.register.Register.{Register}
use Rattle.isp_wasm_meaning.specs.Syntax.{Expr, Const32, Local, Code, Skip, Then, Load, Store, If}
use Rattle.isp_wasm.specs.Places as places
use Rattle.isp_wasm.specs.Places.{Setting, bytes_of, elem}
use Rattle.isp_wasm.specs.Rows.{lane_at}
use Rattle.isp_wasm.specs.Templates as templates
use Rattle.isp_wasm.specs.Templates.{vector_local, is_member, lowest_of, fault, spare, set_lane, own_index, run_index, packed_index}
use Rattle.isp_wasm_binary.specs.Instructions.{If_word, expr_bytes, word_bytes}
use Rattle.isp_wasm_vectors.specs.declared.loops.Index.{Index}
use Rattle.isp_wasm_vectors.specs.declared.loops.Index.TheVariants.{Own, Run, Packed}
use Rattle.isp_wasm_vectors.specs.declared.loops.Elements.{Elements}
use Rattle.isp_wasm_vectors.specs.declared.loops.Who.{Who}
use Rattle.isp_wasm_vectors.specs.declared.loops.Who.TheVariants.{Lane, Lowest}

module _ (w : Setting) where
  -- the lane that a trap tells of
  abbrev pub who_expr : Who → Expr
  who_expr (Lane p) = Const32 p
  who_expr (Lowest k) = lowest_of w k

  abbrev pub fault_of : ℕ → ℕ → Who → Code
  fault_of kind q who = fault w kind q (who_expr who)

  -- before what is done of a lane
  abbrev pub member_head : Register → ℕ → List ℕ
  member_head k p = expr_bytes (is_member w k p) ++ word_bytes If_word

  abbrev pub index_of : Index → Register → ℕ → Expr
  index_of (Own i) k = own_index w i
  index_of (Run i) k = run_index w i
  index_of (Packed i) k = packed_index w i k

  abbrev pub index_expr : Elements → ℕ → Expr
  index_expr e = index_of e.index e.mask

  abbrev pub address : Elements → ℕ → Expr
  address e p = templates.lane_address w e.array p (index_expr e p)

  abbrev pub is_there : Elements → ℕ → Expr
  is_there e p = templates.is_there w e.array (index_expr e p)

  -- ---- of one lane

  abbrev pub lane_set : Register → ℕ → places.Place → Code
  lane_set d p from = set_lane w d p (Local (w.local from))

  abbrev pub loaded : Register → Elements → ℕ → Code
  loaded d e p =
      Then (Load (bytes_of (elem w e.array)) (spare w (elem w e.array)) (address e p) 0) (set_lane w d p (Local (spare w (elem w e.array))))

  -- or a trap, where there is no element
  abbrev pub checked_load : Register → Elements → ℕ → Code
  checked_load d e p = If (is_there e p) (loaded d e p) (fault w 1 e.place (Const32 p))

  abbrev pub check : Elements → ℕ → Code
  check e p = If (is_there e p) Skip (fault w 1 e.place (Const32 p))

  abbrev pub lane_load : Register → Elements → ℕ → Code
  lane_load d e p = If (is_member w e.mask p) (checked_load d e p) Skip

  abbrev pub lane_check : Elements → ℕ → Code
  lane_check e p = If (is_member w e.mask p) (check e p) Skip

  abbrev pub lane_store : Elements → Register → ℕ → Code
  lane_store e y p =
      If (is_member w e.mask p) (Store (bytes_of (elem w e.array)) (address e p) 0 (lane_at (elem w e.array) (vector_local w y) p)) Skip

  -- ---- of all

  abbrev pub loads : Register → Elements → Code
  loads d e = templates.lane_loads w d e.array (index_expr e) e.mask e.place

  abbrev pub checks : Elements → Code
  checks e = templates.lane_checks w e.array (index_expr e) e.mask e.place

  abbrev pub stores : Elements → Register → Code
  stores e y = templates.lane_stores w e.array (index_expr e) y e.mask

  abbrev pub checked_stores : Elements → Register → Code
  checked_stores e y = Then (checks e) (stores e y)
