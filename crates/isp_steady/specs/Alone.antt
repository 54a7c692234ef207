-- The scalar expression of a steady or linear one: the same, with every type uniform, a known variable read as a uniform
-- one that has its scalar, and 0 for programIndex.
use Rattle.std.specs.Prelude.{ℕ, if◌then◌else◌}
use Rattle.isp_base.specs.declared.types.Elem.TheVariants.{I32}
use Rattle.isp_base.specs.declared.types.Rate.TheVariants.{Uniform}
use Rattle.isp_base.specs.declared.types.Ty.{Ty}
use Rattle.isp_typed.specs.Typed.{TExpr, t_constant, t_program_index, t_place, t_convert, t_cast, t_unary, t_binary, t_compare, t_logic, t_choose, t_call, t_library}
use Rattle.isp_typed.specs.Typed.{t_packed_store, t_packed_load, TPlace, t_variable, t_element, TExprs, t_no_exprs, t_expr_then, ty_of}
use Rattle.isp_meaning.specs.State.{State}
use Rattle.isp_steady.specs.Known.{Known, is_known}

abbrev pub single : Ty → Ty
single t = ty_of Uniform t.elem

abbrev mutual
  pub alone : TExpr → TExpr
  alone (t_constant v sp) = t_constant v sp
  alone (t_program_index sp) = t_constant (record { elem = I32; bits = 0 }) sp
  alone (t_place q) = t_place (alone_place q)
  alone (t_convert e x) = t_convert e (alone x)
  alone (t_cast x t sp) = t_cast (alone x) (single t) sp
  alone (t_unary op x t sp) = t_unary op (alone x) (single t) sp
  alone (t_binary op x y t sp) = t_binary op (alone x) (alone y) (single t) sp
  alone (t_compare c x y r sp) = t_compare c (alone x) (alone y) Uniform sp
  alone (t_logic l x y r sp) = t_logic l (alone x) (alone y) Uniform sp
  alone (t_choose c x y t sp) = t_choose (alone c) (alone x) (alone y) (single t) sp
  alone (t_library f e xs t sp) = t_library f e (all_alone xs) (single t) sp
  -- no part of a steady or a linear expression
  alone (t_call c t) = t_call c t
  alone (t_packed_store b x sp) = t_packed_store b x sp
  alone (t_packed_load b v sp) = t_packed_load b v sp

  pub alone_place : TPlace → TPlace
  alone_place (t_variable v t sp) = t_variable v (single t) sp
  alone_place (t_element b i t sp) = t_element b (alone i) (single t) sp

  pub all_alone : TExprs → TExprs
  all_alone t_no_exprs = t_no_exprs
  all_alone (t_expr_then x xs) = t_expr_then (alone x) (all_alone xs)

-- the state in which it is read: each known variable is uniform, and has its scalar
abbrev pub lent : (ℕ → Known) → (ℕ → ℕ) → State → State
lent known scalars s = record s { uniforms = λ v. if is_known (known v) then scalars v else s.uniforms v }
