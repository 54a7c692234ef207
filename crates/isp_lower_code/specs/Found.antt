-- Where the value of an expression is found, and how it comes to be of the rate or the type that is wanted. Slots from n on are free; code
-- works for the lanes of mask register k.
use Rattle.std.specs.Prelude.{ℕ, ◌∷◌, [], ◌++◌, List, Option, Some, None, Bool, true, false}
use Rattle.isp_base.specs.declared.types.Elem.{Elem}
use Rattle.isp_base.specs.declared.types.Elem.TheVariants.{Bool as Truth, I32, I64}
use Rattle.isp_base.specs.declared.types.Rate.{Rate}
use Rattle.isp_base.specs.declared.types.Rate.TheVariants.{Uniform, Varying}
use Rattle.isp_base.specs.declared.types.Ty.{Ty}
use Rattle.isp_base.specs.declared.types.Value.{Value}
use Rattle.isp_code.specs.declared.instr.Instr.{Instr}
use Rattle.isp_typed.specs.Typed.{TExpr, t_constant, t_program_index, t_place, t_convert, t_cast, t_unary, t_binary, t_compare, t_logic, t_choose, t_call, t_library, t_packed_store, t_packed_load, TPlace, t_variable, t_element, type_of}
use Rattle.isp_meaning.specs.Payloads.{converted}
use Rattle.isp_lower_code.specs.Layout.{Layout}
use Rattle.isp_lower_code.specs.Instructions.{convert, constant, splat}
use Rattle.isp_lower_code.specs.Known.{constant_of, known, bits_as, unless_kept}

-- the type in which code has an index
abbrev pub is_whole : Elem → Bool
is_whole I64 = true
is_whole e = false

module _ (l : Layout) where
  -- ---- a value of one rate where another is wanted

  abbrev pub lifted : Rate → Rate → Elem → ℕ → ℕ → ℕ
  lifted Uniform given t x n = x
  lifted Varying Uniform t x n = l.spare Varying t n
  lifted Varying Varying t x n = x

  abbrev pub lift_code : Rate → Rate → Elem → ℕ → ℕ → ℕ → List Instr
  lift_code Uniform given t x k n = []
  lift_code Varying Uniform t x k n = splat (l.spare Varying t n) x k ∷ []
  lift_code Varying Varying t x k n = []

  -- The same where register d is to have the value: a splat writes it there, or the part itself does.
  abbrev pub part_to : Rate → Rate → ℕ → ℕ → ℕ
  part_to Uniform given d x = d
  part_to Varying Uniform d x = x
  part_to Varying Varying d x = d

  abbrev pub lift_to : Rate → Rate → ℕ → ℕ → ℕ → List Instr
  lift_to Uniform given d x k = []
  lift_to Varying Uniform d x k = splat d x k ∷ []
  lift_to Varying Varying d x k = []

  -- ---- a value of one type where another is wanted: a constant is loaded as one of that type

  abbrev pub convert_to : Option Value → Elem → Rate → ℕ → ℕ → ℕ → List Instr → List Instr
  convert_to None e r d x k code = code ++ convert r d x k ∷ []
  convert_to (Some v) e r d x k code = constant d e (converted v.elem e v.bits) ∷ []

  -- ---- where an expression's value is found: a variable in place, a constant that is kept in its register, all else in slot n; and a
  -- varying variable that a packed load of the function writes is copied to slot n where it is read

  abbrev pub is_copied : Rate → ℕ → Bool
  is_copied Uniform v = false
  is_copied Varying v = l.loaded v

  abbrev pub variable_found : Bool → Ty → ℕ → ℕ → ℕ
  variable_found true t v n = l.spare t.rate t.elem n
  variable_found false t v n = l.variable t.rate v

  -- a constant that may be kept
  abbrev pub is_kept : Option Value → Rate → Elem → Bool
  is_kept None r e = false
  is_kept (Some v) r e = l.kept r e (converted v.elem e v.bits)

  abbrev pub kept_found : Bool → Rate → Elem → ℕ → ℕ → ℕ
  kept_found true r t bits n = l.constant r t bits
  kept_found false r t bits n = l.spare r t n

  abbrev pub place_found : TPlace → ℕ → ℕ
  place_found (t_variable v t sp) n = variable_found (is_copied t.rate v) t v n
  place_found (t_element b i t sp) n = l.spare t.rate t.elem n

  abbrev pub found : TExpr → ℕ → ℕ
  found (t_constant v sp) n = kept_found (l.kept Uniform v.elem v.bits) Uniform v.elem v.bits n
  found (t_program_index sp) n = l.spare Varying I32 n
  found (t_place p) n = place_found p n
  found (t_convert e x) n = kept_found (is_kept (constant_of x) (type_of x).rate e) (type_of x).rate e (bits_as (constant_of x) e) n
  found (t_cast x t sp) n = lifted t.rate (type_of x).rate (type_of x).elem (found x n) n
  found (t_unary o x t sp) n = l.spare t.rate t.elem n
  found (t_binary o x y t sp) n = l.spare t.rate t.elem n
  found (t_compare c x y r sp) n = l.spare r Truth n
  found (t_logic g x y r sp) n = l.spare r Truth n
  found (t_choose c x y t sp) n = l.spare t.rate t.elem n
  found (t_call c t) n = l.spare t.rate t.elem n
  found (t_library f e xs t sp) n = l.spare t.rate t.elem n
  found (t_packed_store b x sp) n = l.spare Uniform I32 n
  found (t_packed_load b v sp) n = l.spare Uniform I32 n

  -- The same where a rate is wanted. A constant that is kept in a vector is found there, and needs no code.
  abbrev pub in_vector : Rate → Option Value → Bool
  in_vector Uniform o = false
  in_vector Varying None = false
  in_vector Varying (Some v) = l.kept Varying v.elem v.bits

  abbrev pub vector_of : Option Value → ℕ
  vector_of None = 0
  vector_of (Some v) = l.constant Varying v.elem v.bits

  abbrev pub operand_by : Bool → Rate → TExpr → ℕ → ℕ
  operand_by true r x n = vector_of (known x)
  operand_by false r x n = lifted r (type_of x).rate (type_of x).elem (found x n) n

  abbrev pub operand : Rate → TExpr → ℕ → ℕ
  operand r x n = operand_by (in_vector r (known x)) r x n

  abbrev pub operand_of : Rate → TExpr → ℕ → ℕ → List Instr → List Instr
  operand_of r x k n code = unless_kept (in_vector r (known x)) (code ++ lift_code r (type_of x).rate (type_of x).elem (found x n) k n)

  -- an index as int64
  abbrev pub whole : Bool → TExpr → ℕ → ℕ
  whole true i n = found i n
  whole false i n = l.spare (type_of i).rate I64 n

  abbrev pub whole_of : Bool → TExpr → ℕ → ℕ → List Instr → List Instr
  whole_of true i k n code = code
  whole_of false i k n code = convert_to (constant_of i) I64 (type_of i).rate (l.spare (type_of i).rate I64 n) (found i n) k code

  abbrev pub index : Rate → TExpr → ℕ → ℕ
  index r i n = lifted r (type_of i).rate I64 (whole (is_whole (type_of i).elem) i n) n

  abbrev pub index_of : Rate → TExpr → ℕ → ℕ → List Instr → List Instr
  index_of r i k n code = whole_of (is_whole (type_of i).elem) i k n code ++ lift_code r (type_of i).rate I64 (whole (is_whole (type_of i).elem) i n) k n
