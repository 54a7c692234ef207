-- Quotients, as the code names them.
use Rattle.std.specs.Prelude.{ℕ, List, []}
use Rattle.isp_code.specs.declared.register.Class.TheVariants as class
use Rattle.isp_code.specs.declared.register.Register.{Register}
use Rattle.isp_wasm_meaning.specs.Syntax.{Sub, Eqz, Expr, Const32, Local, One, Select, Code, Skip, Then, Set, Divide, If}
use Rattle.isp_wasm.specs.Places.{Setting, Scalar, elem, size_of}
use Rattle.isp_wasm.specs.Words.{constant, whole_expr}
use Rattle.isp_wasm.specs.Rows.{lane_at}
use Rattle.isp_wasm.specs.Templates as templates
use Rattle.isp_wasm.specs.Templates.{each, scalar_local, vector_local, is_member, lowest_of, spare, set_lane, magnitude_expr, division_of}
use Rattle.isp_wasm_binary.specs.Instructions.{Set_word, word_bytes}
use Rattle.isp_wasm_write.specs.Operands.{operand_expr}
use Rattle.isp_wasm_vectors.specs.declared.loops.Who.{Who}
use Rattle.isp_wasm_vectors.specs.declared.quotients.Quotient.{Quotient}
use Rattle.isp_wasm_vectors.specs.declared.quotients.Quotients.{Quotients}
use Rattle.isp_wasm_vectors.specs.declared.quotients.Target.{Target}
use Rattle.isp_wasm_vectors.specs.declared.quotients.Target.TheVariants as target
use Rattle.isp_wasm_vectors.specs.reader.Loops.{who_expr}
use Rattle.isp_wasm_vectors.specs.reader.Tails.{lane_head, lane_tail}

abbrev pub by_nought : Quotient → Expr
by_nought o = One (Eqz (size_of o.elem)) (operand_expr o.divisor)

module _ (w : Setting) where
  -- that of the magnitudes, whether it has the other sign, and the quotient with its sign
  abbrev pub divided : Quotient → Code
  divided o =
      Divide (size_of o.elem) (division_of w o.op) (spare w o.elem) (magnitude_expr w o.elem (operand_expr o.dividend))
      (magnitude_expr w o.elem (operand_expr o.divisor))

  abbrev pub turns_sign : Quotient → Expr
  turns_sign o = templates.turns_sign w o.op o.elem (operand_expr o.dividend) (operand_expr o.divisor)

  abbrev pub signed : Quotient → Expr
  signed o =
      let got = Local (spare w o.elem) in Select (turns_sign o) (whole_expr o.elem Sub (constant (size_of o.elem) 0) got) got

  -- a target gets a value
  abbrev pub put : Target → Expr → Code
  put (target.Scalar d) = Set (w.local (Scalar d.number))
  put (target.Lane d p) = set_lane w d p

  abbrev pub put_signed : Quotient → Target → Code
  put_signed o to = put to (signed o)

  abbrev pub whole : Quotient → Target → Code
  whole o to = Then (divided o) (put_signed o to)

  abbrev pub put_head : Target → List ℕ
  put_head (target.Scalar d) = []
  put_head (target.Lane d p) = lane_head w d p

  abbrev pub put_tail : Target → List ℕ
  put_tail (target.Scalar d) = word_bytes (Set_word (w.local (Scalar d.number)))
  put_tail (target.Lane d p) = lane_tail w d p

  abbrev pub quotient_to : Quotient → Target → Who → Code
  quotient_to o to who =
      templates.quotient_to w o.op o.elem (operand_expr o.dividend) (operand_expr o.divisor) (put to) o.place (who_expr w who)

  -- ---- of registers

  abbrev pub scalar_quotient : Quotients → Code
  scalar_quotient o = templates.quotients w class.Scalar o.op o.result o.dividend o.divisor o.mask o.place

  abbrev pub lane_quotient : Quotients → ℕ → Code
  lane_quotient o p =
      let lane : Register → Expr = λ x. lane_at (elem w o.result) (vector_local w x) p in
      If (is_member w o.mask p)
      (templates.quotient_to w o.op (elem w o.result) (lane o.dividend) (lane o.divisor) (set_lane w o.result p) o.place (Const32 p)) Skip

  abbrev pub lane_quotients : Quotients → Code
  lane_quotients o = templates.quotients w class.Vector o.op o.result o.dividend o.divisor o.mask o.place

  abbrev pub division : Quotients → Code
  division o = templates.quotients w o.result.class o.op o.result o.dividend o.divisor o.mask o.place
