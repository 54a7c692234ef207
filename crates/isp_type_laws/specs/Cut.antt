-- Arrays whose elements are cut to the width of their type.
use Rattle.std.specs.Prelude.{ℕ, suc, ◌^◌, ◌%◌, List, [], ◌∷◌, length}
use Rattle.isp_base.specs.Arguments.{tabulate}
use Rattle.isp_base.specs.Maps.{Lanes}
use Rattle.isp_base.specs.Rows.{Row}
use Rattle.isp_base.specs.Values.{width}
use Rattle.isp_base.specs.declared.signature.Argument.{Argument}
use Rattle.isp_base.specs.declared.signature.Argument.TheVariants.{Value as AValue, Array as AnArray}

-- a row with the elements that a function gives
abbrev pub cut : Row → Lanes → Row
cut r f = record { elem = r.elem; bits = tabulate (length r.bits) (λ i. f i % 2 ^ width r.elem) }

abbrev pub one_cut : Argument → Lanes → List Row
one_cut (AValue v) f = []
one_cut (AnArray r) f = cut r f ∷ []

abbrev pub rows_cut : List Row → (ℕ → Lanes) → List Row
rows_cut [] f = []
rows_cut (r ∷ rs) f = cut r (f 0) ∷ rows_cut rs (λ b. f (suc b))
