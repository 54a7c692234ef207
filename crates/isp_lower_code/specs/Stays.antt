-- Which expressions stay in place, so that they have no code, and of which the last instruction writes the value.
use Rattle.std.specs.Prelude.{Bool, true, false, not, ◌&&◌}
use Rattle.isp_base.specs.declared.types.Rate.{Rate}
use Rattle.isp_base.specs.declared.types.Rate.TheVariants.{Uniform, Varying}
use Rattle.isp_typed.specs.Typed.{TExpr, t_constant, t_place, t_convert, t_cast, t_logic, t_choose, t_variable, type_of}
use Rattle.isp_meaning.specs.Calls.{same_rate}
use Rattle.isp_lower_code.specs.Layout.{Layout}
use Rattle.isp_lower_code.specs.Found.{is_copied, is_kept}
use Rattle.isp_lower_code.specs.Known.{constant_of}

module _ (l : Layout) where
  -- a variable that stays in place, in brackets or not, and a constant that is kept: it has no code where its own rate is wanted
  abbrev pub stays : TExpr → Bool
  stays (t_constant v sp) = l.kept Uniform v.elem v.bits
  stays (t_place (t_variable v t sp)) = not (is_copied l t.rate v)
  stays (t_convert e x) = is_kept l (constant_of x) (type_of x).rate e
  stays (t_cast x t sp) = same_rate t.rate (type_of x).rate && stays x
  stays x = false

  abbrev pub stays_at : Rate → TExpr → Bool
  stays_at r x = same_rate r (type_of x).rate && stays x

  -- a choice between two of these by a test of their rate is one instruction
  abbrev pub is_short : Rate → TExpr → TExpr → TExpr → Bool
  is_short r c x y = same_rate r (type_of c).rate && (stays_at r x && stays_at r y)

  -- whether the last instruction writes the value, where one of another rate may be wanted
  abbrev pub writes_part : Rate → Rate → Bool → Bool
  writes_part Uniform given b = b
  writes_part Varying Uniform b = true
  writes_part Varying Varying b = b

  abbrev pub writes_last : TExpr → Bool
  writes_last (t_constant v sp) = not (l.kept Uniform v.elem v.bits)
  writes_last (t_place (t_variable v t sp)) = is_copied l t.rate v
  writes_last (t_convert e x) = not (is_kept l (constant_of x) (type_of x).rate e)
  writes_last (t_cast x t sp) = writes_part t.rate (type_of x).rate (writes_last x)
  writes_last (t_logic g x y r sp) = false
  writes_last (t_choose c x y t sp) = is_short t.rate c x y
  writes_last x = true
