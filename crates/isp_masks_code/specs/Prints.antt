-- `print`: the values from left to right, each in a register of its own rate; then what it writes, in order.
use Rattle.std.specs.Prelude.{ℕ, ◌+◌, ◌==◌, List, [], ◌∷◌, ◌++◌, if◌then◌else◌}
use Rattle.isp_base.specs.Prints.{percent}
use Rattle.isp_base.specs.declared.types.Rate.{Rate}
use Rattle.isp_base.specs.declared.types.Rate.TheVariants.{Uniform, Varying}
use Rattle.isp_base.specs.declared.types.Span.{Span}
use Rattle.isp_code.specs.declared.instr.Instr.{Instr}
use Rattle.isp_code.specs.declared.instr.Instr.TheVariants as instr
use Rattle.isp_typed.specs.Typed.{TExpr, t_exprs, type_of}
use Rattle.isp_lower_code.specs.Callees.{next_rate, later}
use Rattle.isp_lower_code.specs.Code.{value_registers, values_code}
use Rattle.isp_lower_code.specs.Spans.{values_places}
use Rattle.isp_lower_code.specs.Layout.{Layout, mask_register, register}

-- ---- the parts of a text: its pieces that are not empty, and a value for each `%`

pub data Part : Type 0 where
  Words : (text : List ℕ) → Part
  Value : Part

-- a byte before some parts
abbrev pub before : ℕ → List Part → List Part
before b [] = Words (b ∷ []) ∷ []
before b (Words t ∷ xs) = Words (b ∷ t) ∷ xs
before b (Value ∷ xs) = Words (b ∷ []) ∷ (Value ∷ xs)

-- an example: "x = %, %" has the words "x = ", a value, the words ", " and a value
abbrev pub parts : List ℕ → List Part
parts [] = []
parts (b ∷ bs) = if b == percent then Value ∷ parts bs else before b (parts bs)

-- ---- the texts that are named, in order

abbrev pub words_of : List Part → List (List ℕ)
words_of [] = []
words_of (Words t ∷ xs) = t ∷ words_of xs
words_of (Value ∷ xs) = words_of xs

abbrev pub print_texts : List ℕ → List (List ℕ)
print_texts text = words_of (parts text)

-- ---- the code

-- a value in a register: one, or those of mask k
abbrev pub show : Rate → ℕ → ℕ → Instr
show Uniform x k = instr.PrintScalar (register Uniform x)
show Varying x k = instr.PrintVector (register Varying x) (mask_register k)

-- the rates of some values
abbrev pub own_rates : List TExpr → List Rate
own_rates [] = []
own_rates (x ∷ xs) = (type_of x).rate ∷ own_rates xs

-- the parts from text number t on, with the registers of the values that are left
abbrev pub parts_code : List Part → List Rate → List ℕ → ℕ → ℕ → List Instr
parts_code [] rs xs t k = []
parts_code (Words u ∷ ps) rs xs t k = instr.Say t ∷ parts_code ps rs xs (t + 1) k
parts_code (Value ∷ ps) rs [] t k = parts_code ps rs [] t k
parts_code (Value ∷ ps) rs (x ∷ xs) t k = show (next_rate rs) x k ∷ parts_code ps (later rs) xs t k

module _ (l : Layout) where
  abbrev pub print_places : List TExpr → List Span
  print_places xs = values_places l (t_exprs xs)

  abbrev pub print_code : List ℕ → List TExpr → ℕ → ℕ → ℕ → ℕ → ℕ → List Instr
  print_code text xs pc p t k n =
      values_code l (own_rates xs) (t_exprs xs) pc p k n ++ parts_code (parts text) (own_rates xs) (value_registers l (own_rates xs) (t_exprs xs) n) t k
