-- When arguments belong to a signature.
use Rattle.std.specs.Prelude.{◌≡◌, ◌<◌, ◌^◌, List, true}
use Rattle.std.specs.List.{AllByRecursion}
use Rattle.isp_base.specs.Binding.{has_signature}
use Rattle.isp_base.specs.Rows.{Fit}
use Rattle.isp_base.specs.Values.{width}
use Rattle.isp_base.specs.declared.signature.Parameter.{Parameter}
use Rattle.isp_base.specs.declared.signature.Argument.{Argument}
use Rattle.isp_base.specs.declared.signature.Argument.TheVariants.{Value, Array}

-- its bits are those of values of its type
abbrev pub HasValues : Argument → Type 0
HasValues (Value v) = v.bits < 2 ^ width v.elem
HasValues (Array a) = Fit a.elem a.bits

-- one argument for each parameter, in order, of its kind and element type
pub record AreBound (params : List Parameter) (xs : List Argument) : Type 0 where
  pub kinds : has_signature params xs ≡ true
  pub values : AllByRecursion HasValues xs
