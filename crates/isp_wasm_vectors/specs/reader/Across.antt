-- Values across lanes, as the code names them.
use Rattle.std.specs.Prelude.{ℕ, ◌-◌, ◌*◌, ◌^◌}
use Rattle.isp_base.specs.Values.{width}
use Rattle.isp_base.specs.declared.types.Elem.{Elem}
use Rattle.isp_base.specs.declared.types.Elem.TheVariants.{Bool as Truth}
use Rattle.isp_code.specs.declared.instr.Plain.{Plain}
use Rattle.isp_code.specs.declared.instr.Plain.TheVariants as plain
use Rattle.isp_code.specs.declared.instr.Reduction.{Reduction}
use Rattle.isp_code.specs.declared.instr.ScalarInstr.TheVariants as scalar
use Rattle.isp_code.specs.declared.instr.Scan.{Scan}
use Rattle.isp_code.specs.declared.instr.Scan.TheVariants as scan
use Rattle.isp_code.specs.declared.register.Register.{Register}
use Rattle.isp_wasm_meaning.specs.Syntax as wasm
use Rattle.isp_wasm_meaning.specs.Syntax.{Eq, Or, BitsOf, Expr, Local, Two, Select, Code, Set}
use Rattle.isp_wasm.specs.Places.{Setting, Scalar, Spare, gang, elem, size_of}
use Rattle.isp_wasm.specs.Words.{constant, plain_expr, convert_expr}
use Rattle.isp_wasm.specs.Rows.{lane_at}
use Rattle.isp_wasm.specs.Templates as templates
use Rattle.isp_wasm.specs.Templates.{each, scalar_local, vector_local, is_member, lane_or_zero}
use Rattle.isp_wasm.specs.Templates.{modulo, plus, picked, of_both, folded, first_value}
use Rattle.isp_wasm_vectors.specs.declared.across.Best.{Best}
use Rattle.isp_wasm_vectors.specs.declared.folds.Fold.{Fold}
use Rattle.isp_wasm_vectors.specs.declared.folds.Item.{Item}
use Rattle.isp_wasm_vectors.specs.declared.folds.Item.TheVariants.{Lane, Converted, IsFirst}
use Rattle.isp_wasm_vectors.specs.declared.picks.Pick.{Pick}
use Rattle.isp_wasm_vectors.specs.declared.picks.Source.{Source}
use Rattle.isp_wasm_vectors.specs.declared.picks.Source.TheVariants.{Vector, Both}
use Rattle.isp_wasm_vectors.specs.declared.picks.Which.{Which}
use Rattle.isp_wasm_vectors.specs.declared.picks.Which.TheVariants.{Same, Around, Above, OfLane, OfBoth}

-- the operator of a scan, and what it makes of no value
abbrev pub plain_of : Scan → Plain
plain_of scan.Add = plain.Add
plain_of scan.And = plain.And
plain_of scan.Or = plain.Or

abbrev pub unit_of : Scan → Elem → ℕ
unit_of scan.And t = 2 ^ width t - 1
unit_of o t = 0

abbrev pub unit_expr : Fold → Expr
unit_expr f = constant (size_of f.elem) (unit_of f.op f.elem)

-- the operator of a scan over lanes of a type
abbrev pub scan_fold : Scan → Elem → Register → Register → Fold
scan_fold o t x k = record { op = o; elem = t; item = Lane; vector = x; mask = k }

-- an operator on bools
abbrev pub of_bools : Scan → Item → Register → Register → Fold
of_bools o i x k = record { op = o; elem = Truth; item = i; vector = x; mask = k }

module _ (w : Setting) where
  -- a scalar register's value, modulo the gang, and with a number added
  abbrev pub scalar_modulo : Register → Expr
  scalar_modulo i = modulo w (gang w) (scalar_local w i)

  abbrev pub scalar_plus : Register → ℕ → Expr
  scalar_plus i p = plus w (scalar_local w i) p

  -- the number that says which value is taken
  abbrev pub which_expr : Which → Register → ℕ → Expr
  which_expr (Same i) k p = scalar_modulo i
  which_expr (Around i) k p = modulo w (gang w) (scalar_plus i p)
  which_expr (Above i) k p = scalar_plus i p
  which_expr (OfLane i) k p = modulo w (gang w) (lane_or_zero w i k p)
  which_expr (OfBoth i) k p = modulo w (2 * gang w) (lane_or_zero w i k p)

  -- those of which one is taken, and their type
  abbrev pub source_expr : Source → Register → ℕ → Expr
  source_expr (Vector x) k = lane_or_zero w x k
  source_expr (Both x y) k = of_both w x y k

  abbrev pub source_elem : Source → Elem
  source_elem (Vector x) = elem w x
  source_elem (Both x y) = elem w x

  abbrev pub number_of : Pick → Expr
  number_of c = which_expr c.which c.mask c.lane

  abbrev pub value_of : Pick → ℕ → Expr
  value_of c = source_expr c.source c.mask

  -- of the first n
  abbrev pub pick_expr : Pick → ℕ → Expr
  pick_expr c = picked w (size_of (source_elem c.source)) (number_of c) (value_of c)

  -- what an operator takes of a lane that the mask has, and of a lane that it has not
  abbrev pub lane_value : Register → ℕ → Expr
  lane_value x p = lane_at (elem w x) (vector_local w x) p

  abbrev pub taken_of : Item → Elem → Register → Register → ℕ → Expr
  taken_of Lane t x k p = lane_value x p
  taken_of Converted t x k p = convert_expr (elem w x) t (lane_value x p)
  taken_of IsFirst t x k p = Two (wasm.Compare (size_of (elem w x)) Eq) (lane_value x p) (first_value w x k (gang w) 0)

  abbrev pub item_expr : Fold → ℕ → Expr
  item_expr f = taken_of f.item f.elem f.vector f.mask

  abbrev pub taken_expr : Fold → ℕ → Expr
  taken_expr f p = Select (is_member w f.mask p) (item_expr f p) (unit_expr f)

  -- of the first n lanes
  abbrev pub fold_expr : Fold → ℕ → Expr
  fold_expr f = folded w (plain_expr (plain_of f.op) f.elem) (unit_expr f) (taken_expr f)

  -- ---- scalars

  -- the best so far, and whether a lane was there
  abbrev pub better_kept : Best → ℕ → Code
  better_kept b p =
      let t = elem w b.vector in
      let best = Local (w.local (Spare (size_of t) 0)) in
      let here = lane_at t (vector_local w b.vector) p in
      Set (w.local (Spare (size_of t) 0))
      (Select (is_member w b.mask p) (Select (Local (w.local (Spare wasm.I32 1))) (plain_expr b.better t best here) here) best)

  abbrev pub some_kept : Register → ℕ → Code
  some_kept k p = Set (w.local (Spare wasm.I32 1)) (Two (BitsOf wasm.I32 Or) (Local (w.local (Spare wasm.I32 1))) (is_member w k p))

  abbrev pub best_step : Best → ℕ → Code
  best_step b = templates.best_step w (elem w b.vector) (plain_expr b.better (elem w b.vector)) b.vector b.mask

  abbrev pub best_steps : Best → Code
  best_steps b = each (gang w) (best_step b)

  abbrev pub best_of : Register → Best → Code
  best_of d b = templates.best_of w d (plain_expr b.better (elem w b.vector)) b.vector b.mask

  abbrev pub folded_to : Register → Fold → Code
  folded_to d f = Set (w.local (Scalar d.number)) (fold_expr f (gang w))

  abbrev pub reduced : Register → Reduction → Register → Register → Code
  reduced d o x k = templates.scalar_code w d (scalar.Reduce o x k)
