-- The last of a list, as values and as data.
use Rattle.std.proofs.Common.{◌≡◌, ◌-◌, suc, List, [], ◌∷◌, length, refl, arith}
use Rattle.std.specs.Prelude.{Some, option_map, slice_get}
use Rattle.serde_json.specs.View.{view, items_view}
use Rattle.serde_json.specs.declared.value.Value.{Value}
use Rattle.isp_server.specs.Deeds.{last_behind, last_item}

behind : (v : Value) (vs : List Value) → last_behind (Some (view v)) (items_view vs) ≡ option_map view (slice_get (v ∷ vs) (length vs))
behind v [] = refl
behind v (u ∷ us) = behind u us

pub last_is : (vs : List Value) → last_item (items_view vs) ≡ option_map view (slice_get vs (length vs - 1))
last_is [] = refl
last_is (v ∷ vs) = let one : suc (length vs) - 1 ≡ length vs = omega arith in rw one (behind v vs)
