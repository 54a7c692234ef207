-- What an instruction makes of a part, and of a lane, of the vector that it writes.
use Rattle.std.specs.Prelude.{ℕ, List, ◌+◌, ◌*◌, ◌++◌, Bool, true, false}
use Rattle.isp_code.specs.declared.instr.Exchange.{Exchange}
use Rattle.isp_code.specs.declared.instr.Exchange.TheVariants as exchange
use Rattle.isp_code.specs.declared.instr.VectorInstr.{VectorInstr}
use Rattle.isp_code.specs.declared.instr.VectorInstr.TheVariants as vector
use Rattle.isp_code.specs.declared.register.Register.{Register}
use Rattle.isp_forms.specs.Writes.{mask_under}
use Rattle.isp_forms.specs.declared.form.Form.{Form}
use Rattle.isp_wasm_meaning.specs.Syntax as wasm
use Rattle.isp_wasm_meaning.specs.Syntax.{Replace, Splat, Eq, Expr, Const32, Local, One, Two, Select, Bitselect, Code, Set, Skip}
use Rattle.isp_wasm.specs.Places.{Setting, Fresh, Vector, gang, elem, shape, size_of}
use Rattle.isp_wasm.specs.Words.{plain_expr}
use Rattle.isp_wasm.specs.Rows.{lane_at, built, as_cell, by_lane, convert_row, widened}
use Rattle.isp_wasm.specs.Templates.{scalar_local, vector_local, mask_local, set_lanes, vector_of, known_code}
use Rattle.isp_wasm.specs.Templates.{lane_or_zero, modulo, picked, of_both, scan_expr, exchange_expr}
use Rattle.isp_wasm_binary.specs.Operators.{binary_bytes}
use Rattle.isp_wasm_binary.specs.Instructions.{expr_bytes}
use Rattle.isp_wasm_vectors.specs.declared.lane_values.At.{At}
use Rattle.isp_wasm_vectors.specs.declared.picks.Which.{Which}
use Rattle.isp_wasm_vectors.specs.declared.picks.Which.TheVariants.{Same, Around, Above}
use Rattle.isp_wasm_vectors.specs.reader.Tails.{cell_head, cell_tail}

-- what looks at other lanes
abbrev pub is_across : VectorInstr → Bool
is_across (vector.Scan o x k) = true
is_across (vector.Exchange e x i k) = true
is_across (vector.Shuffle x i k) = true
is_across (vector.ShuffleTwo x y i k) = true
is_across (vector.Insert x i y k) = true
is_across i = false

-- what can be made lane by lane
abbrev pub is_laned : VectorInstr → Bool
is_laned (vector.Binary o x y k) = true
is_laned i = is_across i

abbrev pub is_binary : VectorInstr → Bool
is_binary (vector.Binary o x y k) = true
is_binary i = false

-- what is made part by part, and then chosen under the mask
abbrev pub has_parts : VectorInstr → Bool
has_parts (vector.Gather a i k q) = false
has_parts (vector.LoadRun a i k q) = false
has_parts i = true

abbrev pub which_of : Exchange → Register → Which
which_of exchange.Broadcast i = Same i
which_of exchange.Rotate i = Around i
which_of exchange.Shift i = Above i

module _ (w : Setting) where
  abbrev pub inserted : Register → Register → Register → Register → ℕ → Expr
  inserted x i y k p =
      Select (Two (wasm.Compare wasm.I32 Eq) (modulo w (gang w) (scalar_local w i)) (Const32 p)) (scalar_local w y) (lane_or_zero w x k p)

  abbrev pub inserted_at : At → Register → Register → Expr
  inserted_at a i y = inserted a.vector i y a.mask a.lane

  -- what lane p gets
  abbrev pub lane_of : Register → VectorInstr → ℕ → Expr
  lane_of d (vector.Binary o x y k) p =
      plain_expr o (elem w d) (lane_at (elem w d) (vector_local w x) p) (lane_at (elem w d) (vector_local w y) p)
  lane_of d (vector.Scan o x k) p = scan_expr w o x k p
  lane_of d (vector.Exchange e x i k) p = exchange_expr w e x i k p
  lane_of d (vector.Shuffle x i k) p =
      picked w (size_of (elem w x)) (modulo w (gang w) (lane_or_zero w i k p)) (lane_or_zero w x k) (gang w)
  lane_of d (vector.ShuffleTwo x y i k) p =
      picked w (size_of (elem w x)) (modulo w (2 * gang w) (lane_or_zero w i k p)) (of_both w x y k) (2 * gang w)
  lane_of d (vector.Insert x i y k) p = inserted x i y k p
  lane_of d i p = Const32 0

  -- lane i of a part whose first lane is one of the gang's, and the first n of them
  abbrev pub cell_of : Register → VectorInstr → ℕ → ℕ → Expr
  cell_of d is first i = as_cell (elem w d) (lane_of d is (first + i))

  abbrev pub laned_to : Register → VectorInstr → ℕ → ℕ → Expr
  laned_to d is first n = built (shape w d) n (cell_of d is first)

  abbrev pub laned : Register → VectorInstr → ℕ → Expr
  laned d is = by_lane w (elem w d) (lane_of d is)

  -- what is after the lanes before it
  abbrev pub placed_tail : Register → VectorInstr → ℕ → ℕ → List ℕ
  placed_tail d is first n =
      cell_head (elem w d) ++ (expr_bytes (lane_of d is (first + n)) ++ (cell_tail (elem w d) ++ binary_bytes (Replace (shape w d) n)))

  -- ---- part by part

  abbrev pub splat : Register → Register → Expr
  splat d x = One (Splat (shape w d)) (as_cell (elem w d) (scalar_local w x))

  abbrev pub converted : Register → Register → ℕ → Expr
  converted d x = convert_row w (elem w x) (elem w d) (vector_local w x)

  abbrev pub chosen : Register → Register → Register × Register → ℕ → Expr
  chosen d t xs j = Bitselect (vector_local w xs.0 j) (vector_local w xs.1 j) (widened (shape w d) (vector_local w t) j)

  -- a part is worked out, and those lanes of a register are set to it that the mask has
  abbrev pub worked_part : Register → VectorInstr → ℕ → Code
  worked_part d is j = Set (w.local (Fresh j)) (vector_of w d is j)

  abbrev pub set_part : Register → Register → ℕ → Code
  set_part d k j =
      Set (w.local (Vector d.number j)) (Bitselect (Local (w.local (Fresh j))) (vector_local w d j) (widened (shape w d) (mask_local w k) j))

  -- or it is set to it in all lanes
  abbrev pub put_part : Register → ℕ → Code
  put_part d j = Set (w.local (Vector d.number j)) (Local (w.local (Fresh j)))

  -- an operator whose right operand is a number in each lane
  abbrev pub known : Form → ℕ → Register → VectorInstr → Code
  known form b d (vector.Binary o x y k) = known_code w form b d o x y k
  known form b d i = Skip

  abbrev pub lanes_set : Form → Register → VectorInstr → Code
  lanes_set form d is = set_lanes w form d (mask_under is) (vector_of w d is)
