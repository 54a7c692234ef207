-- Calls of the library on values: the element type in which each works, and what each is.
use Rattle.std.specs.Prelude.{List, [], ◌∷◌, map}
use Rattle.isp_base.specs.declared.types.Elem.{Elem}
use Rattle.isp_base.specs.declared.types.Elem.TheVariants.{Bool as Truth, I32}
use Rattle.isp_base.specs.declared.types.Rate.{Rate}
use Rattle.isp_base.specs.declared.types.Rate.TheVariants.{Uniform}
use Rattle.isp_base.specs.declared.types.Span.{Span}
use Rattle.isp_base.specs.Ranks.{operand, common, chosen}
use Rattle.isp_typed.specs.declared.library.Library.{Library}
use Rattle.isp_typed.specs.declared.library.Library.TheVariants as the
use Rattle.isp_typed.specs.declared.library.Part.{Part}
use Rattle.isp_typed.specs.Library.{parts, part_elem, library_type}
use Rattle.isp_typed.specs.Typed.{TExpr, t_library, TExprs, t_no_exprs, t_expr_then, elem_of, rate_of, rate_or}
use Rattle.isp_exprs.specs.Values.{converted}
use Rattle.isp_exprs.specs.Passing.{Passed, p_value}

-- the values among what is passed
abbrev pub values_among : List Passed → List TExpr
values_among [] = []
values_among (p_value x ∷ ps) = x ∷ values_among ps
values_among (p ∷ ps) = values_among ps

-- by the element types of its values: that of the first, or the common one of those that are `Own` parts
abbrev pub worked_in : Library → List Elem → Elem
worked_in the.Any es = Truth
worked_in the.All es = Truth
worked_in the.None es = Truth
worked_in the.ShuffleTwo (a ∷ b ∷ es) = common a b
worked_in the.Min (a ∷ b ∷ es) = common a b
worked_in the.Max (a ∷ b ∷ es) = common a b
worked_in the.Clamp (a ∷ b ∷ c ∷ es) = common (common a b) c
worked_in the.Select (t ∷ a ∷ b ∷ es) = chosen a b
worked_in f (a ∷ es) = operand a
-- no call is without a value
worked_in f [] = I32

-- varying where one of the values is
abbrev pub rate_all : List TExpr → Rate
rate_all [] = Uniform
rate_all (x ∷ xs) = rate_or (rate_of x) (rate_all xs)

-- each value as its place asks
abbrev pub as_parts : Elem → List Part → List TExpr → TExprs
as_parts t [] xs = t_no_exprs
as_parts t (p ∷ ps) [] = t_no_exprs
as_parts t (p ∷ ps) (x ∷ xs) = t_expr_then (converted (part_elem t p) x) (as_parts t ps xs)

abbrev pub library_call : Library → Span → List TExpr → TExpr
library_call f s xs =
    let t = worked_in f (map elem_of xs) in
    t_library f t (as_parts t (parts f) xs) (library_type f t (rate_all xs)) s
