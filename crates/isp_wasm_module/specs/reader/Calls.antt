-- Calls, some of their parts at a time.
use Rattle.std.specs.Prelude.{ℕ, suc, List, ◌-◌}
use Rattle.isp_base.specs.Depths.{most_calls}
use Rattle.isp_code.specs.declared.register.Register.{Register}
use Rattle.isp_wasm_meaning.specs.Syntax as wasm
use Rattle.isp_wasm_meaning.specs.Syntax.{Code, Expr, Skip, Then, If, GetGlobal, LtU, Two, Const32}
use Rattle.isp_wasm.specs.Places.{Setting, Fresh, shape, parts}
use Rattle.isp_wasm.specs.Templates.{each, listed, part_under, select_lanes, waiting_calls, fault, lowest_of}

module _ (w : Setting) where
  -- whether one more may run, with a trap of these bytes of the source, or of a place
  abbrev pub guarded : Register → ℕ → ℕ → Code
  guarded k a b = If (Two (wasm.Compare wasm.I32 LtU) (waiting_calls w) (Const32 255)) Skip (wasm.Fail 3 a b (lowest_of w k))

  abbrev pub checked : Register → ℕ → Code
  checked k q = If (Two (wasm.Compare wasm.I32 LtU) (waiting_calls w) (Const32 (most_calls - 1))) Skip (fault w 3 q (lowest_of w k))

  abbrev pub vector_under : Register → Register → List Expr
  vector_under k x = listed w (parts w (shape w x)) (part_under w k x)

  abbrev pub vector_taken : Register → Register → Code
  vector_taken d k = Then (each (parts w (shape w d)) (λ j. GetGlobal (w.local (Fresh j)) (suc j))) (select_lanes w d k)
