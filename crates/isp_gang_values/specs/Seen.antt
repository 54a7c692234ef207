-- How the evaluator's rows are the partial maps of the definitions: none past a row's end.
use Rattle.std.specs.Prelude.{ℕ, List, get_or, Option, None, Bool, true, false}
use Rattle.isp_base.specs.Maps.{Map}
use Rattle.isp_meaning.specs.Payloads.{Payload, One, Each, is_true, is_false}
use Rattle.isp_gang_values.specs.declared.computed.Computed.{Computed}
use Rattle.isp_gang_values.specs.declared.computed.Computed.TheVariants as computed

-- a row's values by instance
abbrev pub map_of : List (Option ℕ) → Map
map_of xs p = get_or xs p None

-- the values that are true, or those that are false
abbrev pub is_bool : Bool → ℕ → Bool
is_bool true = is_true
is_bool false = is_false

abbrev pub payload_of : Computed → Payload
payload_of (computed.One x) = One x
payload_of (computed.Each row) = Each (map_of row)
