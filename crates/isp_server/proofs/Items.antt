-- A list of values, as the items of an array.
use Rattle.std.proofs.Common.{◌≡◌, List, [], ◌∷◌, ap, map, refl}
use Rattle.serde_json.specs.Data.{item}
use Rattle.serde_json.specs.View.{view, items_view}
use Rattle.serde_json.specs.declared.value.Value.{Value}
use Rattle.isp_server.specs.Told.{items_of}

pub items_are : (vs : List Value) → items_view vs ≡ items_of (map view vs)
items_are [] = refl
items_are (v ∷ vs) = ap (item (view v)) (items_are vs)
