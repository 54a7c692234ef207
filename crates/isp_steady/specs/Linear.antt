-- Which expressions are linear: their values count on from member to member, so that member p has the value of u + p for one u.
use Rattle.std.specs.Prelude.{ℕ, Bool, true, false, not, ◌&&◌, ◌||◌, nat_lt}
use Rattle.isp_base.specs.Values.{width}
use Rattle.isp_base.specs.declared.operators.BinOp.{BinOp}
use Rattle.isp_base.specs.declared.operators.BinOp.TheVariants.{Add, Sub}
use Rattle.isp_base.specs.declared.types.Elem.{Elem}
use Rattle.isp_base.specs.declared.types.Elem.TheVariants.{Bool as Truth}
use Rattle.isp_base.specs.declared.types.Rate.{Rate}
use Rattle.isp_base.specs.declared.types.Rate.TheVariants.{Varying}
use Rattle.isp_typed.specs.Typed.{TExpr, t_constant, t_program_index, t_place, t_convert, t_cast, t_unary, t_binary, t_compare, t_logic, t_choose, t_call, t_library}
use Rattle.isp_typed.specs.Typed.{t_packed_store, t_packed_load, TPlace, t_variable, t_element, elem_of}
use Rattle.isp_steady.specs.Known.{Known, Linear}
use Rattle.isp_steady.specs.Steady.{steady}

abbrev pub linear_read : Rate → Known → Bool
linear_read Varying Linear = true
linear_read r k = false

-- A conversion to whole numbers of no more bits goes on counting, also where it cuts. One to more bits does so only where
-- no member passes the type's greatest value, and one to bool does not.
abbrev pub cuts : Elem → Elem → Bool
cuts from Truth = false
cuts from to = not (nat_lt (width from) (width to))

-- one operand counts on, and the other is steady
abbrev pub one_counts : BinOp → (first_counts first_steady second_counts second_steady : Bool) → Bool
one_counts Add c k d l = (c && l) || (k && d)
one_counts Sub c k d l = c && l
one_counts op c k d l = false

module _ (known : ℕ → Known) where
  abbrev mutual
    pub linear : TExpr → Bool
    linear (t_program_index sp) = true
    linear (t_place q) = linear_place q
    linear (t_convert e x) = linear x && cuts (elem_of x) e
    linear (t_cast x t sp) = linear x
    linear (t_binary op x y t sp) = one_counts op (linear x) (steady known x) (linear y) (steady known y)
    linear (t_constant v sp) = false
    linear (t_unary op x t sp) = false
    linear (t_compare c x y r sp) = false
    linear (t_logic l x y r sp) = false
    linear (t_choose c x y t sp) = false
    linear (t_call c t) = false
    linear (t_library f e xs t sp) = false
    linear (t_packed_store b x sp) = false
    linear (t_packed_load b v sp) = false

    pub linear_place : TPlace → Bool
    linear_place (t_variable v t sp) = linear_read t.rate (known v)
    linear_place (t_element b i t sp) = false
