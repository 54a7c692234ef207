-- How many instructions small forms have.
use Rattle.std.proofs.Common.{◌≡◌, ℕ, [], ◌∷◌, length, false, refl, sym}
use Rattle.std.proofs.lemmas.Bool.{ne_eqb}
use Rattle.isp_base.specs.declared.operators.BinOp.TheVariants.{Add, Mul}
use Rattle.isp_base.specs.declared.operators.Compare.TheVariants.{Less}
use Rattle.isp_base.specs.declared.operators.UnaryOp.TheVariants.{Negate}
use Rattle.isp_base.specs.declared.types.Elem.{Elem}
use Rattle.isp_base.specs.declared.types.Elem.TheVariants.{Bool as Truth, I8, I32, I64}
use Rattle.isp_base.specs.declared.types.Rate.{Rate}
use Rattle.isp_base.specs.declared.types.Rate.TheVariants.{Uniform, Varying}
use Rattle.isp_base.specs.declared.types.Span.{Span}
use Rattle.isp_typed.specs.Typed.{TExpr, t_constant, t_program_index, t_place, t_convert, t_cast, t_unary, t_binary, t_compare, t_logic, t_choose, TPlace, t_variable}
use Rattle.isp_typed.specs.Typed.{t_element, TItem, t_plain, t_with_value, t_with_size, TSimple, t_assign, t_update, t_step, ty_of}
use Rattle.isp_typed.specs.declared.variable.ArrayVariable.{ArrayVariable}
use Rattle.isp_typed.specs.declared.variable.Logic.TheVariants.{And}
use Rattle.isp_lower_code.specs.Layout.{Layout, IsApart, no_rows}
use Rattle.isp_lower_code.specs.Simple.{simple_code}
use Rattle.isp_lower_code.specs.Items.{items_code}

-- variables v, y, z of each type, an array a and an index i of type int64, in a function with any registers and without packed loads,
-- outside the body of a `foreach`, where no constant is kept and no index is taken as a row
module _ (any : Layout) (a : ArrayVariable) (v y z i : ℕ) (sp : Span) where
  abbrev l : Layout
  l = record any { loaded = λ x. false; in_run = false; kept = λ r t b. false; is_row = no_rows }

  abbrev at : Rate → Elem → ℕ → TPlace
  at r t x = t_variable x (ty_of r t) sp

  abbrev of : Rate → Elem → ℕ → TExpr
  of r t x = t_place (at r t x)

  abbrev number : ℕ → TExpr
  number n = t_constant (record { elem = I32; bits = n }) sp

  -- a[i] with i varying, of an array that is shared by the lanes
  abbrev element : Elem → TPlace
  element t = t_element (record a { ty = ty_of Uniform t }) (of Varying I64 i) (ty_of Varying t) sp

  -- a[programIndex]
  abbrev run : Elem → TPlace
  run t = t_element (record a { ty = ty_of Uniform t }) (t_program_index sp) (ty_of Varying t) sp

  abbrev double : Rate → Elem → TExpr → TExpr → TExpr → TExpr
  double r t x two one = t_binary Add (t_binary Mul x two (ty_of r t) sp) one (ty_of r t) sp

  abbrev count : TSimple → ℕ
  count s = length (simple_code l s 0 0 1 2)

  abbrev declared : TItem → ℕ
  declared x = length (items_code l (x ∷ []) 0 0 1 2)

  -- ---- variables: v = 0, v = y, v = -y, v = y + z, v = y * 2 + 1, v = (int8) y

  pub zero_one : count (t_assign (at Uniform I32 v) (number 0) sp) ≡ 1
  zero_one = refl

  pub zero_each : count (t_assign (at Varying I32 v) (number 0) sp) ≡ 2
  zero_each = refl

  pub copied : count (t_assign (at Varying I32 v) (of Varying I32 y) sp) ≡ 1
  copied = refl

  pub negated : count (t_assign (at Varying I32 v) (t_unary Negate (of Varying I32 y) (ty_of Varying I32) sp) sp) ≡ 1
  negated = refl

  pub added : count (t_assign (at Varying I32 v) (t_binary Add (of Varying I32 y) (of Varying I32 z) (ty_of Varying I32) sp) sp) ≡ 1
  added = refl

  pub doubled_one : count (t_assign (at Uniform I32 v) (double Uniform I32 (of Uniform I32 y) (number 2) (number 1)) sp) ≡ 4
  doubled_one = refl

  pub doubled_each : count (t_assign (at Varying I32 v) (double Varying I32 (of Varying I32 y) (number 2) (number 1)) sp) ≡ 6
  doubled_each = refl

  pub narrowed : count (t_assign (at Varying I8 v) (t_cast (t_convert I8 (of Varying I32 y)) (ty_of Varying I8) sp) sp) ≡ 1
  narrowed = refl

  -- ---- tests and choices: v = y < z, v = y && z, v = y ? x : z, v = y < z ? y : z

  pub compared : count (t_assign (at Varying Truth v) (t_compare Less (of Varying I32 y) (of Varying I32 z) Varying sp) sp) ≡ 1
  compared = refl

  pub both : IsApart l → count (t_assign (at Varying Truth v) (t_logic And (of Varying Truth y) (of Varying Truth z) Varying sp) sp) ≡ 5
  both apart = rw (ne_eqb (l.spare Varying Truth 2) (l.variable Varying y) (λ e. apart.variable_spare Varying Truth y 2 (sym e))) refl

  pub chosen_one : count (t_assign (at Uniform I32 v) (t_choose (of Uniform Truth y) (of Uniform I32 y) (of Uniform I32 z) (ty_of Uniform I32) sp) sp) ≡ 1
  chosen_one = refl

  pub chosen_each : count (t_assign (at Varying I32 v) (t_choose (of Varying Truth y) (of Varying I32 y) (of Varying I32 z) (ty_of Varying I32) sp) sp) ≡ 1
  chosen_each = refl

  pub least : count (t_assign (at Varying I32 v) (t_choose (t_compare Less (of Varying I32 y) (of Varying I32 z) Varying sp) (of Varying I32 y) (of Varying I32 z) (ty_of Varying I32) sp) sp) ≡ 2
  least = refl

  pub chosen_number : count (t_assign (at Varying I32 v) (t_choose (of Varying Truth y) (number 1) (of Varying I32 z) (ty_of Varying I32) sp) sp) ≡ 8
  chosen_number = refl

  -- ---- v += y, v++, of int32 and of int8

  pub increased : count (t_update Add I32 (at Varying I32 v) (of Varying I32 y) sp) ≡ 1
  increased = refl

  pub increased_narrow : count (t_update Add I32 (at Varying I8 v) (of Varying I32 y) sp) ≡ 3
  increased_narrow = refl

  pub stepped_one : count (t_step Add I32 (at Uniform I32 v) sp) ≡ 2
  stepped_one = refl

  pub stepped_each : count (t_step Add I32 (at Varying I32 v) sp) ≡ 3
  stepped_each = refl

  -- ---- elements: v = a[i], a[i] = y, a[i] += y, a[i]++, a[i] = a[i] * 2 + 1 of int32 and of int64

  pub read_each : count (t_assign (at Varying I32 v) (t_place (element I32)) sp) ≡ 1
  read_each = refl

  pub stored_each : count (t_assign (element I32) (of Varying I32 y) sp) ≡ 1
  stored_each = refl

  pub increased_element : count (t_update Add I32 (element I32) (of Varying I32 y) sp) ≡ 3
  increased_element = refl

  pub stepped_element : count (t_step Add I32 (element I32) sp) ≡ 5
  stepped_element = refl

  pub doubled_element : count (t_assign (element I32) (double Varying I32 (t_place (element I32)) (number 2) (number 1)) sp) ≡ 8
  doubled_element = refl

  pub doubled_wide : count (t_assign (element I64) (double Varying I64 (t_place (element I64)) (t_convert I64 (number 2)) (t_convert I64 (number 1))) sp) ≡ 8
  doubled_wide = refl

  -- ---- runs: v = a[programIndex], a[programIndex] = y

  pub read_run : count (t_assign (at Varying I32 v) (t_place (run I32)) sp) ≡ 2
  read_run = refl

  pub stored_run : count (t_assign (run I32) (of Varying I32 y) sp) ≡ 2
  stored_run = refl

  -- ---- declared: int v, uniform int v, int v = y + z, int a[n]

  pub declared_each : declared (t_plain v (ty_of Varying I32) sp) ≡ 2
  declared_each = refl

  pub declared_one : declared (t_plain v (ty_of Uniform I32) sp) ≡ 1
  declared_one = refl

  pub declared_sum : declared (t_with_value v (ty_of Varying I32) (t_binary Add (of Varying I32 y) (of Varying I32 z) (ty_of Varying I32) sp) sp) ≡ 1
  declared_sum = refl

  pub declared_array : declared (t_with_size a sp) ≡ 1
  declared_array = refl
