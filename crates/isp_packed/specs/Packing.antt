-- Arguments and answers as bytes.
--     packed_of xs          the bytes of a list of arguments
--     packed_answer rs r    the bytes of an answer: its arrays, then its result
use Rattle.std.specs.Prelude.{◌≡◌, ℕ, ◌-◌, ◌/◌, ◌%◌, ◌^◌, ◌<◌, ◌≤◌, List, [], ◌++◌, length, true, Option, Some, None}
use Rattle.std.specs.List.{AllByRecursion, flat_map}
use Rattle.byteorder.specs.Endian.{little_bytes}
use Rattle.isp_base.specs.Binding.{has_signature}
use Rattle.isp_base.specs.Cells.{cell_width}
use Rattle.isp_base.specs.Rows.{Row, Fit}
use Rattle.isp_base.specs.Values.{width}
use Rattle.isp_base.specs.declared.types.Elem.{Elem}
use Rattle.isp_base.specs.declared.types.Value.{Value}
use Rattle.isp_base.specs.declared.signature.Parameter.{Parameter}
use Rattle.isp_base.specs.declared.signature.Argument.{Argument}
use Rattle.isp_base.specs.declared.signature.Argument.TheVariants.{Value as AValue, Array as AnArray}

-- how many bytes an element takes in an array; a bool takes one
abbrev pub size : Elem → ℕ
size t = cell_width t / 8

-- a number in 8 bytes
abbrev pub word : ℕ → List ℕ
word n = little_bytes 8 n

-- the number of elements, then the elements
abbrev pub packed_array : Row → List ℕ
packed_array a = word (length a.bits) ++ flat_map (little_bytes (size a.elem)) a.bits

-- the bits that count, zero above the width
abbrev pub packed_value : Value → List ℕ
packed_value v = word (v.bits % 2 ^ width v.elem)

abbrev pub packed_argument : Argument → List ℕ
packed_argument (AValue v) = packed_value v
packed_argument (AnArray a) = packed_array a

-- one argument after the other
abbrev pub packed_of : List Argument → List ℕ
packed_of xs = flat_map packed_argument xs

abbrev pub packed_result : Option Value → List ℕ
packed_result None = []
packed_result (Some v) = packed_value v

-- the arrays in their order, then the result where there is one
abbrev pub packed_answer : List Row → Option Value → List ℕ
packed_answer arrays result = flat_map packed_array arrays ++ packed_result result

-- ---- which arguments can be packed for a signature

-- the elements that an array may have: as many as one of the machine can
abbrev pub longest : ℕ
longest = 2 ^ 63 - 1

-- its bits are those of values of its type, and an array is not too long
abbrev pub IsPackable : Argument → Type 0
IsPackable (AValue v) = v.bits < 2 ^ width v.elem
IsPackable (AnArray a) = Fit a.elem a.bits × (length a.bits ≤ longest)

-- one argument for each parameter, in order, of its kind and element type
pub record ArePackable (params : List Parameter) (xs : List Argument) : Type 0 where
  pub kinds : has_signature params xs ≡ true
  pub each : AllByRecursion IsPackable xs
