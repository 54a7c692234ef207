-- The code of declared variables and arrays, as a function of their trees, and what is demanded of these.
use Rattle.std.specs.Prelude.{Bool, true, false, ℕ, ◌+◌, ◌∷◌, [], ◌++◌, List, length}
use Rattle.isp_base.specs.declared.types.Rate.{Rate}
use Rattle.isp_base.specs.declared.types.Rate.TheVariants.{Uniform, Varying}
use Rattle.isp_base.specs.declared.types.Elem.{Elem}
use Rattle.isp_base.specs.declared.types.Span.{Span}
use Rattle.isp_code.specs.declared.instr.Instr.{Instr}
use Rattle.isp_code.specs.declared.instr.Instr.TheVariants as instr
use Rattle.isp_typed.specs.Typed.{TItem, t_plain, t_with_value, t_with_size}
use Rattle.isp_lower_code.specs.Layout.{Layout, mask_register, array_register}
use Rattle.isp_lower_code.specs.Code.{variable_code}
use Rattle.isp_lower_code.specs.Instructions.{constant, copy, splat}
use Rattle.isp_lower_code.specs.Pieces.{two}
use Rattle.isp_lower_code.specs.Spans.{expr_places}

module _ (l : Layout) where
  -- a varying variable begins with 0: by a copy where a vector keeps it
  abbrev pub zero_each : Bool → Elem → ℕ → ℕ → ℕ → List Instr
  zero_each true t v k n = copy Varying (l.variable Varying v) (l.constant Varying t 0) k ∷ []
  zero_each false t v k n = constant (l.spare Uniform t n) t 0 ∷ splat (l.variable Varying v) (l.spare Uniform t n) k ∷ []

  abbrev pub zero_code : Rate → Elem → ℕ → ℕ → ℕ → List Instr
  zero_code Uniform t v k n = constant (l.variable Uniform v) t 0 ∷ []
  zero_code Varying t v k n = zero_each (l.kept Varying t 0) t v k n

  abbrev pub item_code : TItem → ℕ → ℕ → ℕ → ℕ → List Instr
  item_code (t_plain v t sp) pc p k n = zero_code t.rate t.elem v k n
  item_code (t_with_value v t x sp) pc p k n = variable_code l t.rate v x pc p k n
  item_code (t_with_size b sp) pc p k n = instr.Clear (array_register (l.array b.number)) (mask_register k) ∷ []

  abbrev pub item_places : TItem → List Span
  item_places (t_plain v t sp) = []
  item_places (t_with_value v t x sp) = expr_places l x
  item_places (t_with_size b sp) = []

  abbrev pub items_code : List TItem → ℕ → ℕ → ℕ → ℕ → List Instr
  items_code [] pc p k n = []
  items_code (x ∷ xs) pc p k n = two pc (item_code x pc p k n) (λ pc1. items_code xs pc1 (p + length (item_places x)) k n)

  abbrev pub items_places : List TItem → List Span
  items_places [] = []
  items_places (x ∷ xs) = item_places x ++ items_places xs
