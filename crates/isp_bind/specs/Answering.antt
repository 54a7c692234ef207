-- The text of an answer.
use Rattle.std.specs.Prelude.{ℕ, List, [], ◌∷◌, map, not, ◌==◌, Option, Some, None, codes, if◌then◌else◌}
use Rattle.serde_json.specs.Data.{Data, null, boolean, number as numeral, array, object, Members, no_members, member, put}
use Rattle.serde_json.specs.Find.{of_integer}
use Rattle.serde_json.specs.View.{items_of}
use Rattle.serde_json.specs.Written.{compact_text}
use Rattle.isp_base.specs.Rows.{Row}
use Rattle.isp_base.specs.Values.{number}
use Rattle.isp_base.specs.declared.types.Elem.{Elem}
use Rattle.isp_base.specs.declared.types.Value.{Value}
use Rattle.isp_base.specs.declared.signature.Parameter.{Parameter}
use Rattle.isp_bind.specs.Binding.{is_bool}

-- true, false, or the number that the bits stand for
abbrev pub shown_bits : Elem → ℕ → Data
shown_bits t b = if is_bool t then boolean (not (b == 0)) else numeral (of_integer (number t b))

abbrev pub shown_array : Row → Data
shown_array a = array (items_of (map (shown_bits a.elem) a.bits))

-- the arrays under the names of the array parameters, by name in byte order
abbrev pub named_arrays : List Parameter → List Row → Members → Members
named_arrays [] arrays found = found
named_arrays (p ∷ ps) [] found = found
named_arrays (p ∷ ps) (a ∷ arrays) found = if p.is_array then named_arrays ps arrays (put p.name (shown_array a) found) else named_arrays ps (a ∷ arrays) found

abbrev pub shown_result : Option Value → Data
shown_result None = null
shown_result (Some v) = shown_bits v.elem v.bits

abbrev pub answer_data : List Parameter → List Row → Option Value → Data
answer_data ps arrays result = object (member (codes "arrays") (object (named_arrays ps arrays no_members)) (member (codes "result") (shown_result result) no_members))

-- the text without blanks: `{"arrays":{..},"result":..}`
abbrev pub answer_text : List Parameter → List Row → Option Value → List ℕ
answer_text ps arrays result = compact_text (answer_data ps arrays result)
