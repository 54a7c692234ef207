-- When a list of arguments has a signature.
use Rattle.std.specs.Prelude.{List, [], ◌∷◌, Bool, true, false, not, ◌&&◌}
use Rattle.isp_base.specs.declared.signature.Parameter.{Parameter}
use Rattle.isp_base.specs.declared.signature.Argument.{Argument}
use Rattle.isp_base.specs.declared.signature.Argument.TheVariants.{Value, Array}
use Rattle.isp_base.specs.Ranks.{same_elem}

-- an argument has the kind and the element type of a parameter
abbrev pub is_for : Parameter → Argument → Bool
is_for p (Value v) = not p.is_array && same_elem v.elem p.elem
is_for p (Array a) = p.is_array && same_elem a.elem p.elem

-- one for each parameter, in order
abbrev pub has_signature : List Parameter → List Argument → Bool
has_signature [] [] = true
has_signature [] (a ∷ as') = false
has_signature (p ∷ ps) [] = false
has_signature (p ∷ ps) (a ∷ as') = is_for p a && has_signature ps as'
