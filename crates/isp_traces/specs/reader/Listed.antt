-- The masks that are handed over in two places, as a list.
use Rattle.std.specs.Prelude.{List, [], ◌∷◌, ◌++◌, Option, Some, None}
use Rattle.isp_code.specs.declared.register.Register.{Register}
use Rattle.isp_traces.specs.declared.masks.ReadMasks.{ReadMasks}

abbrev pub or_none : Option Register → List Register
or_none None = []
or_none (Some k) = k ∷ []

abbrev pub listed : ReadMasks → List Register
listed r = or_none r.first ++ or_none r.second
