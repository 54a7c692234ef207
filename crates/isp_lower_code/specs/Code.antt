-- The code of expressions and of assignments, as a function of their trees. Code begins at instruction pc; the first
-- place in the source that it names has number p; it works for the lanes of mask register k; slots from n on are free.
use Rattle.std.specs.Prelude.{ℕ, ◌+◌, ◌∷◌, [], ◌++◌, List, length, Option, Some, Bool, true, false}
use Rattle.isp_base.specs.declared.types.Elem.{Elem}
use Rattle.isp_base.specs.declared.types.Elem.TheVariants.{Bool as Truth, I64}
use Rattle.isp_base.specs.declared.types.Rate.{Rate}
use Rattle.isp_base.specs.declared.types.Rate.TheVariants.{Uniform, Varying}
use Rattle.isp_base.specs.declared.types.Ty.{Ty}
use Rattle.isp_code.specs.declared.instr.Instr.{Instr}
use Rattle.isp_code.specs.declared.instr.Instr.TheVariants as instr
use Rattle.isp_code.specs.declared.instr.JumpTest.TheVariants as jump
use Rattle.isp_code.specs.declared.instr.VectorInstr.TheVariants as vector
use Rattle.isp_code.specs.declared.register.Register.{Register}
use Rattle.isp_typed.specs.Typed.{TExpr, t_constant, t_program_index, t_place, t_convert, t_cast, t_unary, t_binary, t_compare, t_logic, t_choose, t_call, t_library}
use Rattle.isp_typed.specs.Typed.{t_packed_store, t_packed_load, TPlace, t_variable, t_element, TBase, t_whole, t_from, base_array, TArgument, t_by_value, t_by_name, TCall}
use Rattle.isp_typed.specs.Typed.{t_called, TArguments, t_no_arguments, t_argument_then, TExprs, t_no_exprs, t_expr_then, type_of}
use Rattle.isp_lower_code.specs.Callees.{next_rate, later}
use Rattle.isp_lower_code.specs.Layout.{Layout, register, mask_register, array_register}
use Rattle.isp_lower_code.specs.Library.{library_code, library_rates}
use Rattle.isp_lower_code.specs.Elements.{access, reached, reached_of, read_from}
use Rattle.isp_lower_code.specs.Found.{part_to, lift_to, convert_to, is_copied, is_kept, found, operand, operand_of, index, index_of}
use Rattle.isp_lower_code.specs.Instructions.{copy, unary, compare, operate, constant, select, packed_store, packed_load, jump_on}
use Rattle.isp_lower_code.specs.Known.{constant_of, unless_kept}
use Rattle.isp_lower_code.specs.Pieces.{two, choice, move_code, pair_code, logic_code, choose_rest}
use Rattle.isp_lower_code.specs.Spans.{expr_places, index_places, base_places, arguments_places, argument_places}
use Rattle.isp_lower_code.specs.Stays.{is_short, writes_part, writes_last}

module _ (l : Layout) where
  -- ---- expressions

  abbrev pub variable_read : Bool → ℕ → Rate → ℕ → ℕ → List Instr
  variable_read true d r v k = copy r d (l.variable r v) k ∷ []
  variable_read false d r v k = []

  abbrev pub read_code : ℕ → TPlace → ℕ → ℕ → ℕ → ℕ → List Instr
  read_code d (t_variable v t sp) pc p k n = variable_read (is_copied l t.rate v) d t.rate v k
  read_code d (t_element b i t sp) pc p k n =
      let z = access l b.ty.rate t.rate i n in
      read_from l z (type_of i).elem t.rate d (l.array b.number) (reached l z t.rate i n) p pc k (n + 1)

  abbrev pub choose_code : Rate → Rate → Elem → TExpr → TExpr → ℕ → ℕ → ℕ → ℕ → List Instr → (ℕ → ℕ → ℕ → List Instr) → (ℕ → ℕ → ℕ → List Instr) → List Instr
  choose_code Uniform r t x y c pc k n test a b =
      two pc test (λ pc1. choice (jump_on jump.False c) pc1 (λ pc2. a pc2 k n ++ move_code r (l.spare r t n) (operand l r x n) k) (λ pc2. b pc2 k n ++ move_code r (l.spare r t n) (operand l r y n) k))
  choose_code Varying r t x y c pc k n test a b =
      two pc test (λ pc1. choose_rest (l.spare r t n) c (operand l r x (n + 1)) (operand l r y (n + 2)) pc1 k n a b)

  abbrev pub choose_to : Bool → ℕ → TExpr → TExpr → TExpr → Ty → ℕ → ℕ → ℕ → List Instr → (ℕ → ℕ → ℕ → List Instr) → (ℕ → ℕ → ℕ → List Instr) → List Instr
  choose_to true d c x y t pc k n test a b = test ++ select t.rate d (found l c n) (found l x n) (found l y n) k ∷ []
  choose_to false d c x y t pc k n test a b = choose_code (type_of c).rate t.rate t.elem x y (found l c n) pc k n test a b

  -- ---- values in a row: value j stands at slot n + j, in a register of the rate at which it is wanted

  abbrev pub value_registers : List Rate → TExprs → ℕ → List ℕ
  value_registers rs t_no_exprs n = []
  value_registers rs (t_expr_then x xs) n = operand l (next_rate rs) x n ∷ value_registers (later rs) xs (n + 1)

  -- ---- calls: argument j stands at slot n + j, in a register of its parameter's rate; an array is as it is

  abbrev pub argument_register : Rate → TArgument → ℕ → Register
  argument_register r (t_by_value x) n = register r (operand l r x n)
  argument_register r (t_by_name b sp) n = array_register (l.array b.number)

  abbrev pub argument_registers : List Rate → TArguments → ℕ → List Register
  argument_registers rs t_no_arguments n = []
  argument_registers rs (t_argument_then x xs) n = argument_register (next_rate rs) x n ∷ argument_registers (later rs) xs (n + 1)

  abbrev pub calling : Option Register → ℕ → TArguments → ℕ → ℕ → ℕ → Instr
  calling d f xs p k n =
      instr.Call (record { function = f; result = d; mask = mask_register k; place = p; arguments = argument_registers (l.rates f) xs n })

  -- ---- packed calls: the register that has the number of the first element, as one of int64

  abbrev pub base_register : TBase → ℕ → ℕ
  base_register (t_whole b sp) n = l.spare Uniform I64 n
  base_register (t_from b i sp) n = index l Uniform i n

  -- ---- the code of a tree

  -- The last instruction writes register d, but for variables that stay in place, constants that are kept, `&&`, `||`, a `?:` that is
  -- not short, and what a cast leaves as it is of these.
  abbrev mutual
    pub expr_to : ℕ → TExpr → ℕ → ℕ → ℕ → ℕ → List Instr
    expr_to d (t_constant v sp) pc p k n = unless_kept (l.kept Uniform v.elem v.bits) (constant d v.elem v.bits ∷ [])
    expr_to d (t_program_index sp) pc p k n = instr.Vector (register Varying d) (vector.Index (mask_register k)) ∷ []
    expr_to d (t_place q) pc p k n = two pc (index_code q pc p k n) (λ pc1. read_code d q pc1 (p + length (index_places l q)) k n)
    expr_to d (t_convert e x) pc p k n =
        unless_kept (is_kept l (constant_of x) (type_of x).rate e) (convert_to l (constant_of x) e (type_of x).rate d (found l x n) k (expr_to (found l x n) x pc p k n))
    expr_to d (t_cast x t sp) pc p k n =
        expr_to (part_to l t.rate (type_of x).rate d (found l x n)) x pc p k n ++ lift_to l t.rate (type_of x).rate d (found l x n) k
    expr_to d (t_unary o x t sp) pc p k n =
        operand_of l t.rate x k n (expr_to (found l x n) x pc p k n) ++ unary t.rate o d (operand l t.rate x n) k ∷ []
    expr_to d (t_binary o x y t sp) pc p k n =
        pair_code pc (operand_of l t.rate x k n (expr_to (found l x n) x pc p k n))
        (λ pc1. operand_of l t.rate y k (n + 1) (expr_to (found l y (n + 1)) y pc1 (p + length (expr_places l x)) k (n + 1)))
        (operate t.rate o d (operand l t.rate x n) (operand l t.rate y (n + 1)) k (p + length (expr_places l x) + length (expr_places l y)))
    expr_to d (t_compare c x y r sp) pc p k n =
        pair_code pc (operand_of l r x k n (expr_to (found l x n) x pc p k n))
        (λ pc1. operand_of l r y k (n + 1) (expr_to (found l y (n + 1)) y pc1 (p + length (expr_places l x)) k (n + 1)))
        (compare r c d (operand l r x n) (operand l r y (n + 1)) k)
    expr_to d (t_logic g x y r sp) pc p k n =
        logic_code r g (l.spare r Truth n) (operand l r x n) (operand l r y (n + 1)) pc k n (operand_of l r x k n (expr_to (found l x n) x pc p k n))
        (λ pc1 m. operand_of l r y m (n + 1) (expr_to (found l y (n + 1)) y pc1 (p + length (expr_places l x)) m (n + 1)))
    expr_to d (t_choose c x y t sp) pc p k n =
        choose_to (is_short l t.rate c x y) d c x y t pc k n (expr_to (found l c n) c pc p k n)
        (λ pc1 m i. operand_of l t.rate x m i (expr_to (found l x i) x pc1 (p + length (expr_places l c)) m i))
        (λ pc1 m i. operand_of l t.rate y m i (expr_to (found l y i) y pc1 (p + length (expr_places l c) + length (expr_places l x)) m i))
    expr_to d (t_call c t) pc p k n = call_code (Some (register t.rate d)) c pc p k n
    expr_to d (t_library f e xs t sp) pc p k n =
        let rs = library_rates f t.rate in
        values_code rs xs pc p k n ++ library_code f t.rate d (l.spare t.rate t.elem n) (value_registers rs xs n) k
    -- the number of the first element, the value in each lane, then one instruction
    expr_to d (t_packed_store b x sp) pc p k n =
        pair_code pc (base_code b pc p k n) (λ pc1. operand_of l Varying x k (n + 1)
        (expr_to (found l x (n + 1)) x pc1 (p + length (base_places l b)) k (n + 1)))
        (packed_store d (l.array (base_array b).number) (base_register b n) (operand l Varying x (n + 1)) k
        (p + length (base_places l b) + length (expr_places l x)))
    expr_to d (t_packed_load b v sp) pc p k n =
        base_code b pc p k n ++ packed_load d (l.array (base_array b).number) (base_register b n) (l.variable Varying v) k (p + length (base_places l b)) ∷ []

    -- the index of a place
    pub index_code : TPlace → ℕ → ℕ → ℕ → ℕ → List Instr
    index_code (t_variable v t sp) pc p k n = []
    index_code (t_element b i t sp) pc p k n = reached_of l (access l b.ty.rate t.rate i n) t.rate i pc p k n (expr_to (found l i n) i pc p k n)

    pub base_code : TBase → ℕ → ℕ → ℕ → ℕ → List Instr
    base_code (t_whole b sp) pc p k n = constant (l.spare Uniform I64 n) I64 0 ∷ []
    base_code (t_from b i sp) pc p k n = index_of l Uniform i k n (expr_to (found l i n) i pc p k n)

    -- the values from left to right
    pub values_code : List Rate → TExprs → ℕ → ℕ → ℕ → ℕ → List Instr
    values_code rs t_no_exprs pc p k n = []
    values_code rs (t_expr_then x xs) pc p k n =
        two pc (operand_of l (next_rate rs) x k n (expr_to (found l x n) x pc p k n)) (λ pc1. values_code (later rs) xs pc1 (p + length (expr_places l x)) k (n + 1))

    -- the arguments from left to right, then the call, which leaves what is given back in a register
    pub call_code : Option Register → TCall → ℕ → ℕ → ℕ → ℕ → List Instr
    call_code d (t_called f xs sp) pc p k n =
        arguments_code (l.rates f) xs pc p k n ++ calling d f xs (p + length (arguments_places l xs)) k n ∷ []

    pub arguments_code : List Rate → TArguments → ℕ → ℕ → ℕ → ℕ → List Instr
    arguments_code rs t_no_arguments pc p k n = []
    arguments_code rs (t_argument_then x xs) pc p k n =
        two pc (argument_code (next_rate rs) x pc p k n) (λ pc1. arguments_code (later rs) xs pc1 (p + length (argument_places l x)) k (n + 1))

    pub argument_code : Rate → TArgument → ℕ → ℕ → ℕ → ℕ → List Instr
    argument_code r (t_by_value x) pc p k n = operand_of l r x k n (expr_to (found l x n) x pc p k n)
    argument_code r (t_by_name b sp) pc p k n = []

  -- the value is left in slot n or in place
  abbrev pub expr_code : TExpr → ℕ → ℕ → ℕ → ℕ → List Instr
  expr_code x pc p k n = expr_to (found l x n) x pc p k n

  -- a variable gets a value: its last instruction writes the variable, or a copy does
  abbrev pub variable_from : Bool → Rate → ℕ → TExpr → ℕ → ℕ → ℕ → ℕ → List Instr
  variable_from true r d x pc p k n =
      expr_to (part_to l r (type_of x).rate d (found l x n)) x pc p k n ++ lift_to l r (type_of x).rate d (found l x n) k
  variable_from false r d x pc p k n = operand_of l r x k n (expr_code x pc p k n) ++ copy r d (operand l r x n) k ∷ []

  abbrev pub variable_code : Rate → ℕ → TExpr → ℕ → ℕ → ℕ → ℕ → List Instr
  variable_code r v x pc p k n = variable_from (writes_part l r (type_of x).rate (writes_last l x)) r (l.variable r v) x pc p k n
