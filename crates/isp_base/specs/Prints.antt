-- What is printed of a value, of the values of a set of instances, and by a `print`.
use Rattle.std.specs.Prelude.{ℕ, zero, suc, ◌==◌, List, [], ◌∷◌, ◌++◌, codes, Option, Some, None, if◌then◌else◌}
use Rattle.std.specs.Fmt.{signed_decimal}
use Rattle.isp_base.specs.Values.{number}
use Rattle.isp_base.specs.Maps.{Map}
use Rattle.isp_base.specs.declared.types.Elem.{Elem}
use Rattle.isp_base.specs.declared.types.Elem.TheVariants.{Bool as Truth}

abbrev pub truth_text : ℕ → List ℕ
truth_text zero = codes "false"
truth_text (suc b) = codes "true"

-- a whole number in decimal, a bool by its word
abbrev pub value_text : Elem → ℕ → List ℕ
value_text Truth bits = truth_text bits
value_text t bits = signed_decimal (number t bits)

-- `_` stands for an instance without a value
abbrev pub item_text : Elem → Option ℕ → List ℕ
item_text t None = codes "_"
item_text t (Some bits) = value_text t bits

-- a comma stands before each item but the first
abbrev pub comma : ℕ → List ℕ
comma zero = []
comma (suc n) = codes ","

abbrev pub items_text : Elem → ℕ → Map → List ℕ
items_text t zero x = []
items_text t (suc n) x = items_text t n x ++ (comma n ++ item_text t (x n))

-- the values of the first n instances, in brackets
abbrev pub list_text : Elem → ℕ → Map → List ℕ
list_text t n x = codes "[" ++ (items_text t n x ++ codes "]")

-- ---- the text of a `print`, where each `%` stands for a value

abbrev pub first_text : List (List ℕ) → List ℕ
first_text [] = []
first_text (x ∷ xs) = x

abbrev pub later_texts : List (List ℕ) → List (List ℕ)
later_texts [] = []
later_texts (x ∷ xs) = xs

-- the byte of `%`
abbrev pub percent : ℕ
percent = 37

-- the text, with the values, as they are printed, in the places of its `%`
abbrev pub print_text : List ℕ → List (List ℕ) → List ℕ
print_text [] xs = []
print_text (b ∷ bs) xs = if b == percent then first_text xs ++ print_text bs (later_texts xs) else b ∷ print_text bs xs
