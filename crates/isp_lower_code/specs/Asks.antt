-- What code asks for, as data: registers of a rate, a name and a type, arrays, masks, numbers of slots that fit, and that a variable is
-- known as one that a packed load writes. It is told in the order in which it is reserved, so that what a part asks for is a part of what
-- the whole asks for.
use Rattle.std.specs.Prelude.{ℕ, ◌+◌, ◌<◌, List, [], ◌∷◌, Bool, true, false}
use Rattle.isp_base.specs.Ranks.{same_elem}
use Rattle.isp_base.specs.declared.types.Elem.{Elem}
use Rattle.isp_base.specs.declared.types.Elem.TheVariants.{Bool as Truth, I32, I64}
use Rattle.isp_base.specs.declared.types.Rate.{Rate}
use Rattle.isp_base.specs.declared.types.Rate.TheVariants.{Uniform, Varying}
use Rattle.isp_typed.specs.Typed.{TExpr, t_constant, t_program_index, t_place, t_convert, t_cast, t_unary, t_binary, t_compare, t_logic, t_choose, t_call, t_library, t_packed_store, t_packed_load, TPlace}
use Rattle.isp_typed.specs.Typed.{t_variable, t_element, TBase, t_whole, t_from, base_array, TArgument, t_by_value, t_by_name, TCall, t_called, TArguments, t_no_arguments, t_argument_then, TExprs, t_no_exprs}
use Rattle.isp_typed.specs.Typed.{t_expr_then, TItem, t_plain, t_with_value, t_with_size, TSimple, t_value, t_run, t_assign, t_update, t_step, place_type, type_of}
use Rattle.isp_typed.specs.declared.variable.ArrayVariable.{ArrayVariable}
use Rattle.isp_lower_code.specs.Callees.{next_rate, later}
use Rattle.isp_lower_code.specs.Library.{library_rates}
use Rattle.isp_lower_code.specs.Rows.{Name, Variable, Spare, Place}

pub data Ask : Type 0 where
  Nothing : Ask
  Both : Ask → Ask → Ask
  Register : Rate → Name → Elem → Ask
  ArrayOf : ArrayVariable → Ask
  LocalOf : ArrayVariable → Ask
  MaskOf : ℕ → Ask
  Number : ℕ → Ask
  Loads : ℕ → Ask

-- all of it is there, given by what it is to have a register, an array that is read or written, one that is declared, a mask, and a variable
-- that is known as loaded
abbrev pub All : (Rate → Name → Elem → Type 0) → (ArrayVariable → Type 0) → (ArrayVariable → Type 0) → (ℕ → Type 0) → (ℕ → Type 0) → Ask → Type 0
All H A L M W Nothing = Unit {0}
All H A L M W (Both x y) = All H A L M W x × All H A L M W y
All H A L M W (Register r x t) = H r x t
All H A L M W (ArrayOf b) = A b
All H A L M W (LocalOf b) = L b
All H A L M W (MaskOf k) = M k
All H A L M W (Number k) = k < 4294967296
All H A L M W (Loads v) = W v

-- ---- slots

-- the slots of the two sides of a choice: after a varying test its value stays
abbrev pub first_slot : Rate → ℕ → ℕ
first_slot Uniform n = n
first_slot Varying n = n + 1

abbrev pub second_slot : Rate → ℕ → ℕ
second_slot Uniform n = n
second_slot Varying n = n + 2

-- the slot after that of a place's index
abbrev pub beyond : TPlace → ℕ → ℕ
beyond (t_variable v t sp) n = n
beyond (t_element b i t sp) n = n + 1

-- ---- parts

abbrev pub spare_ask : Rate → Elem → ℕ → Ask
spare_ask r t n = Register r (Spare t n) t

-- a value of slot n, of the second rate, is wanted at the first: a uniform one is made a varying one there
abbrev pub lift_asks : Rate → Rate → Elem → ℕ → Ask
lift_asks Uniform given t n = Nothing
lift_asks Varying Uniform t n = spare_ask Varying t n
lift_asks Varying Varying t n = Nothing

-- an expression in slot n, that asks for a, is wanted at a rate
abbrev pub taken : Rate → TExpr → ℕ → Ask → Ask
taken r x n a = Both (lift_asks r (type_of x).rate (type_of x).elem n) a

-- two of them, the second one slot on
abbrev pub pair_asks : Rate → TExpr → TExpr → ℕ → Ask → Ask → Ask
pair_asks r x y n a b = Both (Number (n + 1)) (Both (taken r x n a) (taken r y (n + 1) b))

-- an index that asks for a, as int64, then at a rate
abbrev pub whole_asks : TExpr → ℕ → Ask → Ask
whole_asks i n a = Both (spare_ask (type_of i).rate I64 n) a

abbrev pub index_asks : Rate → TExpr → ℕ → Ask → Ask
index_asks r i n a = Both (lift_asks r (type_of i).rate I64 n) (whole_asks i n a)

-- The lanes' elements of an array stand in a row where all share it and the index is the number of the lane, with nothing around it; then
-- a scalar of slot n has the number of the first one.
abbrev pub is_lane : TExpr → Bool
is_lane (t_program_index sp) = true
is_lane x = false

-- or where it is a variable that counts the lanes of a run, whose place has a register; whether it does is not asked here
abbrev pub place_asks : Rate → Ask
place_asks Uniform = Nothing
place_asks Varying = Register Uniform Place I64

abbrev pub counter_asks : TPlace → Ask
counter_asks (t_variable v t sp) = place_asks t.rate
counter_asks (t_element b i t sp) = Nothing

abbrev pub start_asks : TExpr → ℕ → Ask
start_asks (t_program_index sp) n = spare_ask Uniform I64 n
start_asks (t_place q) n = counter_asks q
start_asks x n = Nothing

abbrev pub run_asks : Rate → TExpr → ℕ → Ask
run_asks Uniform i n = start_asks i n
run_asks Varying i n = Nothing

-- the index of an element of an array of the first rate, that asks for a, at the second
abbrev pub element_asks : Rate → Rate → TExpr → ℕ → Ask → Ask
element_asks g r i n a = Both (run_asks g i n) (index_asks r i n a)

-- the right side of `&&` and `||` has a mask where it is asked lane by lane; so has a part after a varying test
abbrev pub test_asks : Rate → ℕ → Ask
test_asks Uniform n = Nothing
test_asks Varying n = MaskOf n

-- the sides of a varying test have slots and masks of their own
abbrev pub sides_ask : Rate → ℕ → Ask
sides_ask Uniform n = Nothing
sides_ask Varying n = Both (Number (n + 2)) (Both (MaskOf n) (MaskOf (n + 1)))

-- an element is read into slot n
abbrev pub read_asks : TPlace → ℕ → Ask
read_asks (t_variable v t sp) n = Nothing
read_asks (t_element b i t sp) n = spare_ask t.rate t.elem n

-- so is a varying variable, where a packed load of the function writes it; whether one does is not asked here
abbrev pub copy_asks : Rate → Elem → ℕ → Ask
copy_asks Uniform t n = Nothing
copy_asks Varying t n = spare_ask Varying t n

abbrev pub value_asks : TPlace → ℕ → Ask
value_asks (t_variable v t sp) n = copy_asks t.rate t.elem n
value_asks (t_element b i t sp) n = spare_ask t.rate t.elem n

-- ---- expressions

abbrev mutual
  pub expr_asks : TExpr → ℕ → Ask
  expr_asks (t_constant v sp) n = spare_ask Uniform v.elem n
  expr_asks (t_program_index sp) n = spare_ask Varying I32 n
  expr_asks (t_place q) n = Both (target_asks q n) (value_asks q n)
  expr_asks (t_convert e x) n = Both (spare_ask (type_of x).rate e n) (expr_asks x n)
  expr_asks (t_cast x t sp) n = taken t.rate x n (expr_asks x n)
  expr_asks (t_unary o x t sp) n = Both (spare_ask t.rate t.elem n) (taken t.rate x n (expr_asks x n))
  expr_asks (t_binary o x y t sp) n =
      Both (spare_ask t.rate t.elem n) (pair_asks t.rate x y n (expr_asks x n) (expr_asks y (n + 1)))
  expr_asks (t_compare c x y r sp) n =
      Both (spare_ask r Truth n) (pair_asks r x y n (expr_asks x n) (expr_asks y (n + 1)))
  expr_asks (t_logic g x y r sp) n =
      Both (spare_ask r Truth n) (Both (test_asks r n) (pair_asks r x y n (expr_asks x n) (expr_asks y (n + 1))))
  expr_asks (t_choose c x y t sp) n =
      let i = first_slot (type_of c).rate n in
      let j = second_slot (type_of c).rate n in
      Both (spare_ask t.rate t.elem n) (Both (expr_asks c n) (Both (taken t.rate x i (expr_asks x i)) (Both (taken t.rate y j (expr_asks y j)) (sides_ask (type_of c).rate n))))
  expr_asks (t_call c t) n = Both (spare_ask t.rate t.elem n) (call_asks c n)
  expr_asks (t_library f e xs t sp) n = Both (spare_ask t.rate t.elem n) (values_asks (library_rates f t.rate) xs n)
  expr_asks (t_packed_store b x sp) n =
      Both (spare_ask Uniform I32 n) (Both (Both (ArrayOf (base_array b)) (first_asks b n)) (Both (Number (n + 1)) (taken Varying x (n + 1) (expr_asks x (n + 1)))))
  expr_asks (t_packed_load b v sp) n =
      Both (spare_ask Uniform I32 n) (Both (Both (ArrayOf (base_array b)) (first_asks b n)) (Both (Register Varying (Variable v) (base_array b).ty.elem) (Loads v)))

  -- a place whose index is taken at slot n
  pub target_asks : TPlace → ℕ → Ask
  target_asks (t_variable v t sp) n = Register t.rate (Variable v) t.elem
  target_asks (t_element b i t sp) n = Both (ArrayOf b) (element_asks b.ty.rate t.rate i n (expr_asks i n))

  -- the number of the first element, which is taken at slot n as one of int64
  pub first_asks : TBase → ℕ → Ask
  first_asks (t_whole b sp) n = spare_ask Uniform I64 n
  first_asks (t_from b i sp) n = index_asks Uniform i n (expr_asks i n)

  -- value j at slot n + j, at the next of these rates
  pub values_asks : List Rate → TExprs → ℕ → Ask
  values_asks rs t_no_exprs n = Nothing
  values_asks rs (t_expr_then x xs) n =
      Both (Number (n + 1)) (Both (taken (next_rate rs) x n (expr_asks x n)) (values_asks (later rs) xs (n + 1)))

  -- a call names its function by a number that fits, and takes argument j at slot n + j: a uniform one may be handed over as a
  -- varying one
  pub call_asks : TCall → ℕ → Ask
  call_asks (t_called f xs sp) n = Both (Number f) (arguments_asks xs n)

  pub arguments_asks : TArguments → ℕ → Ask
  arguments_asks t_no_arguments n = Nothing
  arguments_asks (t_argument_then x xs) n = Both (Number (n + 1)) (Both (argument_asks x n) (arguments_asks xs (n + 1)))

  pub argument_asks : TArgument → ℕ → Ask
  argument_asks (t_by_value x) n = taken Varying x n (expr_asks x n)
  argument_asks (t_by_name b sp) n = ArrayOf b

-- an array from its first element or from an index on
abbrev pub base_asks : TBase → ℕ → Ask
base_asks b n = Both (ArrayOf (base_array b)) (first_asks b n)

abbrev pub operand_asks : Rate → TExpr → ℕ → Ask
operand_asks r x n = taken r x n (expr_asks x n)

abbrev pub operands_asks : Rate → TExpr → TExpr → ℕ → Ask
operands_asks r x y n = pair_asks r x y n (expr_asks x n) (expr_asks y (n + 1))

-- ---- what stands before a semicolon

-- an operator works in slot i where its type is not that of the place
abbrev pub work_asks : Bool → Rate → Elem → ℕ → Ask
work_asks true r t i = Nothing
work_asks false r t i = spare_ask r t i

-- an operator of a type changes a place, in slot i
abbrev pub change_asks : Elem → TPlace → ℕ → Ask
change_asks t z i = Both (work_asks (same_elem (place_type z).elem t) (place_type z).rate t i) (read_asks z i)

-- the number 1 at a rate
abbrev pub one_asks : Rate → Elem → ℕ → Ask
one_asks r t m = Both (spare_ask Uniform t m) (lift_asks r Uniform t m)

abbrev pub assign_asks : TPlace → TExpr → ℕ → Ask
assign_asks z x n = Both (target_asks z n) (Both (Number (beyond z n)) (operand_asks (place_type z).rate x (beyond z n)))

abbrev pub update_asks : Elem → TPlace → TExpr → ℕ → Ask
update_asks t z x n =
    Both (target_asks z n) (Both (Number (beyond z n + 1)) (Both (operand_asks (place_type z).rate x (beyond z n)) (change_asks t z (beyond z n + 1))))

abbrev pub step_asks : Elem → TPlace → ℕ → Ask
step_asks t z n =
    Both (target_asks z n) (Both (Number (beyond z n + 1)) (Both (one_asks (place_type z).rate t (beyond z n)) (change_asks t z (beyond z n + 1))))

abbrev pub simple_asks : TSimple → ℕ → Ask
simple_asks (t_value x) n = expr_asks x n
simple_asks (t_run c) n = call_asks c n
simple_asks (t_assign z x sp) n = assign_asks z x n
simple_asks (t_update o t z x sp) n = update_asks t z x n
simple_asks (t_step o t z sp) n = step_asks t z n

-- ---- declared variables and arrays

-- a variable begins with 0: a varying one gets it from slot n
abbrev pub zero_asks : Rate → Elem → ℕ → ℕ → Ask
zero_asks Uniform t v n = Register Uniform (Variable v) t
zero_asks Varying t v n = Both (spare_ask Uniform t n) (Register Varying (Variable v) t)

-- a variable gets a value
abbrev pub variable_asks : Rate → Elem → ℕ → TExpr → ℕ → Ask
variable_asks r t v x n = Both (Register r (Variable v) t) (operand_asks r x n)

abbrev pub item_asks : ℕ → TItem → Ask
item_asks n (t_plain v t sp) = zero_asks t.rate t.elem v n
item_asks n (t_with_value v t x sp) = variable_asks t.rate t.elem v x n
item_asks n (t_with_size b sp) = LocalOf b

abbrev pub items_asks : ℕ → List TItem → Ask
items_asks n [] = Nothing
items_asks n (x ∷ xs) = Both (item_asks n x) (items_asks n xs)
