-- What stands before and after a value that becomes a lane, or that an operator takes.
use Rattle.std.specs.Prelude.{ℕ, List, [], ◌++◌, ◌-◌, ◌/◌, ◌%◌, ◌^◌, if◌then◌else◌, nat_lt}
use Rattle.isp_base.specs.Values.{width}
use Rattle.isp_base.specs.declared.types.Elem.{Elem}
use Rattle.isp_base.specs.declared.types.Elem.TheVariants.{Bool as Truth, I8, I16, I32, I64}
use Rattle.isp_code.specs.declared.instr.Scan.{Scan}
use Rattle.isp_code.specs.declared.instr.Scan.TheVariants as scan
use Rattle.isp_code.specs.declared.register.Register.{Register}
use Rattle.isp_wasm_meaning.specs.Meaning.{count, of_lanes}
use Rattle.isp_wasm_meaning.specs.Syntax.{Add, Sub, And, Or, Of, BitsOf, Bits, Replace, Const32, Const128}
use Rattle.isp_wasm_meaning.specs.Syntax as wasm
use Rattle.isp_wasm.specs.Places.{Setting, Vector, elem, shape, shape_of, size_of}
use Rattle.isp_wasm.specs.Templates.{vector_local}
use Rattle.isp_wasm_binary.specs.Operators.{binary_bytes}
use Rattle.isp_wasm_binary.specs.Instructions.{Set_word, expr_bytes, word_bytes}
use Rattle.isp_wasm_write.specs.reader.Tails.{cut_tail}

abbrev pub cell_head : Elem → List ℕ
cell_head Truth = expr_bytes (Const32 0)
cell_head t = []

abbrev pub cell_tail : Elem → List ℕ
cell_tail Truth = binary_bytes (Of wasm.I32 Sub)
cell_tail t = []

-- after lanes of a type that are made those of another
abbrev pub masked_tail : Elem → Elem → List ℕ
masked_tail t u = if nat_lt (width t) (width u) then expr_bytes (Const128 (of_lanes (shape_of u) (λ i. 2 ^ width t - 1))) ++ binary_bytes (Bits And) else []

abbrev pub unsigned_tail : Elem → Elem → List ℕ
unsigned_tail I8 u = []
unsigned_tail I16 u = []
unsigned_tail I32 u = []
unsigned_tail I64 u = []
unsigned_tail t u = masked_tail t u

module _ (w : Setting) where
  -- of what lane p of a register is set to
  abbrev pub lane_head : Register → ℕ → List ℕ
  lane_head d p = expr_bytes (vector_local w d (p / count (shape w d))) ++ cell_head (elem w d)

  abbrev pub lane_tail : Register → ℕ → List ℕ
  lane_tail d p =
      let n = count (shape w d) in
      cell_tail (elem w d) ++ (binary_bytes (Replace (shape w d) (p % n)) ++ word_bytes (Set_word (w.local (Vector d.number (p / n)))))

-- an operator of scans after two values
abbrev pub join_tail : Scan → Elem → List ℕ
join_tail scan.Add t = binary_bytes (Of (size_of t) Add) ++ cut_tail t
join_tail scan.And t = binary_bytes (BitsOf (size_of t) And)
join_tail scan.Or t = binary_bytes (BitsOf (size_of t) Or)
