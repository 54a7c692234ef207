-- The code of expressions, assignments and declarations is short: at most 32 instructions for each node of an expression, or of
-- what is declared. An assignment has at most 64 for each, since the number 1 of `++` and `--` is no node.
use Rattle.std.proofs.Common.{ℕ, ◌+◌, ◌*◌, ◌≤◌, List, [], ◌∷◌, ◌++◌, length, Option, Some, None, Bool, true, false, arith, length-append}
use Rattle.isp_base.specs.Ranks.{same_elem}
use Rattle.isp_base.specs.declared.operators.BinOp.{BinOp}
use Rattle.isp_base.specs.declared.types.Elem.{Elem}
use Rattle.isp_base.specs.declared.types.Elem.TheVariants.{Bool as Truth}
use Rattle.isp_base.specs.declared.types.Rate.{Rate}
use Rattle.isp_base.specs.declared.types.Rate.TheVariants.{Uniform, Varying}
use Rattle.isp_code.specs.declared.register.Register.{Register}
use Rattle.isp_tree.specs.Nodes.{nodes_of_all}
use Rattle.isp_typed.specs.Nodes.{typed_nodes, place_nodes, base_nodes, call_nodes, argument_nodes, arguments_nodes, exprs_nodes, item_nodes, simple_nodes}
use Rattle.isp_typed.specs.Typed.{TExpr, t_constant, t_program_index, t_place, t_convert, t_cast, t_unary, t_binary, t_compare, t_logic, t_choose, t_call, t_library, t_packed_store, t_packed_load}
use Rattle.isp_typed.specs.Typed.{TPlace, t_variable, t_element, place_type, TBase, t_whole, t_from, base_array, TArgument, t_by_value, t_by_name, TCall, t_called, TArguments, t_no_arguments, t_argument_then}
use Rattle.isp_typed.specs.Typed.{TExprs, t_no_exprs, t_expr_then, TItem, t_plain, t_with_value, t_with_size, TSimple, t_value, t_run, t_assign, t_update, t_step, type_of}
use Rattle.isp_lower_code.specs.Callees.{next_rate, later}
use Rattle.isp_lower_code.specs.Code.{read_code, value_registers, calling, base_register, expr_to, index_code, base_code, values_code, call_code, arguments_code, argument_code, expr_code, variable_from, variable_code}
use Rattle.isp_lower_code.specs.Elements.{access, reached, read_from, write_from}
use Rattle.isp_lower_code.specs.Found.{part_to, lift_to, convert_to, is_kept, found, operand, operand_of, index_of}
use Rattle.isp_lower_code.specs.Instructions.{copy, unary, compare, operate, constant, packed_store, packed_load}
use Rattle.isp_lower_code.specs.Items.{zero_each, zero_code, item_code, item_places, items_code}
use Rattle.isp_lower_code.specs.Known.{constant_of}
use Rattle.isp_lower_code.specs.Layout.{Layout, register}
use Rattle.isp_lower_code.specs.Library.{library_code, library_rates}
use Rattle.isp_lower_code.specs.Simple.{beyond, one_of, assign_code, update_to, change_code, change_by_code, one_in, one_code, step_code, simple_code}
use Rattle.isp_lower_code.specs.Spans.{expr_places, index_places, base_places, arguments_places, argument_places}
use Rattle.isp_lower_code.specs.Stays.{is_short, writes_part, writes_last}
use Rattle.isp_lower_code.proofs.PieceLengths.{behind_long, both_long, three_long, unless_less, library_few, pair_long, logic_long, choose_long, lift_to_few, operand_of_long, convert_long, index_of_long, reached_long, read_few, read_from_few, write_from_few}
use Rattle.isp_lower_code.specs.RowLayout.{RowsShort}

module _ (l : Layout) (short : RowsShort l) where
  -- ---- the code of a tree

  mutual
    pub expr_to_long : (d : ℕ) (x : TExpr) (pc p k n : ℕ) → length (expr_to l d x pc p k n) + 8 ≤ 32 * typed_nodes x
    expr_to_long d (t_constant v sp) pc p k n = omega (arith, unless_less (l.kept Uniform v.elem v.bits) (constant d v.elem v.bits ∷ []))
    expr_to_long d (t_program_index sp) pc p k n = omega arith
    expr_to_long d (t_place q) pc p k n =
        let p1 = p + length (index_places l q) in
        let pc1 = pc + length (index_code l q pc p k n) in
        omega (arith, length-append (index_code l q pc p k n) (read_code l d q pc1 p1 k n), index_code_long q pc p k n, read_few l d q pc1 p1 k n)
    expr_to_long d (t_convert e x) pc p k n =
        let f = found l x n in
        let r = (type_of x).rate in
        let code = expr_to l f x pc p k n in
        omega (arith, unless_less (is_kept l (constant_of x) r e) (convert_to l (constant_of x) e r d f k code), convert_long l (constant_of x) e r d f k code (typed_nodes x) (expr_to_long f x pc p k n))
    expr_to_long d (t_cast x t sp) pc p k n =
        let f = found l x n in
        let r = (type_of x).rate in
        let d1 = part_to l t.rate r d f in
        behind_long (expr_to l d1 x pc p k n) (lift_to l t.rate r d f k) (typed_nodes x) (omega (arith, expr_to_long d1 x pc p k n)) (omega (arith, lift_to_few l t.rate r d f k))
    expr_to_long d (t_unary o x t sp) pc p k n =
        let f = found l x n in
        let code = expr_to l f x pc p k n in
        behind_long (operand_of l t.rate x k n code) (unary t.rate o d (operand l t.rate x n) k ∷ []) (typed_nodes x)
        (omega (arith, operand_of_long l t.rate x k n code (typed_nodes x) (expr_to_long f x pc p k n))) (omega arith)
    expr_to_long d (t_binary o x y t sp) pc p k n =
        let f = found l x n in
        let h = found l y (n + 1) in
        let p1 = p + length (expr_places l x) in
        pair_long pc (operand_of l t.rate x k n (expr_to l f x pc p k n)) (λ pc1. operand_of l t.rate y k (n + 1) (expr_to l h y pc1 p1 k (n + 1)))
        (operate t.rate o d (operand l t.rate x n) (operand l t.rate y (n + 1)) k (p1 + length (expr_places l y))) (typed_nodes x) (typed_nodes y)
        (operand_of_long l t.rate x k n (expr_to l f x pc p k n) (typed_nodes x) (expr_to_long f x pc p k n))
        (λ pc1. operand_of_long l t.rate y k (n + 1) (expr_to l h y pc1 p1 k (n + 1)) (typed_nodes y) (expr_to_long h y pc1 p1 k (n + 1)))
    expr_to_long d (t_compare c x y r sp) pc p k n =
        let f = found l x n in
        let h = found l y (n + 1) in
        let p1 = p + length (expr_places l x) in
        pair_long pc (operand_of l r x k n (expr_to l f x pc p k n)) (λ pc1. operand_of l r y k (n + 1) (expr_to l h y pc1 p1 k (n + 1)))
        (compare r c d (operand l r x n) (operand l r y (n + 1)) k) (typed_nodes x) (typed_nodes y)
        (operand_of_long l r x k n (expr_to l f x pc p k n) (typed_nodes x) (expr_to_long f x pc p k n))
        (λ pc1. operand_of_long l r y k (n + 1) (expr_to l h y pc1 p1 k (n + 1)) (typed_nodes y) (expr_to_long h y pc1 p1 k (n + 1)))
    expr_to_long d (t_logic g x y r sp) pc p k n =
        let f = found l x n in
        let h = found l y (n + 1) in
        let p1 = p + length (expr_places l x) in
        logic_long r g (l.spare r Truth n) (operand l r x n) (operand l r y (n + 1)) pc k n (operand_of l r x k n (expr_to l f x pc p k n))
        (λ pc1 m. operand_of l r y m (n + 1) (expr_to l h y pc1 p1 m (n + 1))) (typed_nodes x) (typed_nodes y)
        (operand_of_long l r x k n (expr_to l f x pc p k n) (typed_nodes x) (expr_to_long f x pc p k n))
        (λ pc1 m. operand_of_long l r y m (n + 1) (expr_to l h y pc1 p1 m (n + 1)) (typed_nodes y) (expr_to_long h y pc1 p1 m (n + 1)))
    expr_to_long d (t_choose c x y t sp) pc p k n =
        let p1 = p + length (expr_places l c) in
        let p2 = p1 + length (expr_places l x) in
        choose_long l (is_short l t.rate c x y) d c x y t pc k n (expr_to l (found l c n) c pc p k n)
        (λ pc1 m i. operand_of l t.rate x m i (expr_to l (found l x i) x pc1 p1 m i)) (λ pc1 m i. operand_of l t.rate y m i (expr_to l (found l y i) y pc1 p2 m i))
        (typed_nodes c) (typed_nodes x) (typed_nodes y) (expr_to_long (found l c n) c pc p k n)
        (λ pc1 m i. operand_of_long l t.rate x m i (expr_to l (found l x i) x pc1 p1 m i) (typed_nodes x) (expr_to_long (found l x i) x pc1 p1 m i))
        (λ pc1 m i. operand_of_long l t.rate y m i (expr_to l (found l y i) y pc1 p2 m i) (typed_nodes y) (expr_to_long (found l y i) y pc1 p2 m i))
    expr_to_long d (t_call c t) pc p k n = call_code_long (Some (register t.rate d)) c pc p k n
    expr_to_long d (t_library f e xs t sp) pc p k n =
        let rs = library_rates f t.rate in
        behind_long (values_code l rs xs pc p k n) (library_code f t.rate d (l.spare t.rate t.elem n) (value_registers l rs xs n) k) (exprs_nodes xs)
        (values_long rs xs pc p k n) (library_few f t.rate d (l.spare t.rate t.elem n) (value_registers l rs xs n) k)
    expr_to_long d (t_packed_store b x sp) pc p k n =
        let h = found l x (n + 1) in
        let p1 = p + length (base_places l b) in
        pair_long pc (base_code l b pc p k n) (λ pc1. operand_of l Varying x k (n + 1) (expr_to l h x pc1 p1 k (n + 1)))
        (packed_store d (l.array (base_array b).number) (base_register l b n) (operand l Varying x (n + 1)) k (p1 + length (expr_places l x)))
        (base_nodes b) (typed_nodes x) (omega (arith, base_code_long b pc p k n))
        (λ pc1. operand_of_long l Varying x k (n + 1) (expr_to l h x pc1 p1 k (n + 1)) (typed_nodes x) (expr_to_long h x pc1 p1 k (n + 1)))
    expr_to_long d (t_packed_load b v sp) pc p k n =
        let i = packed_load d (l.array (base_array b).number) (base_register l b n) (l.variable Varying v) k (p + length (base_places l b)) in
        omega (arith, length-append (base_code l b pc p k n) (i ∷ []), base_code_long b pc p k n)

    index_code_long : (q : TPlace) (pc p k n : ℕ) → length (index_code l q pc p k n) + 31 ≤ 32 * place_nodes q
    index_code_long (t_variable v t sp) pc p k n = omega arith
    index_code_long (t_element b i t sp) pc p k n =
        let f = found l i n in
        reached_long l short b.ty.rate t.rate i pc p k n (expr_to l f i pc p k n) (expr_to_long f i pc p k n)

    base_code_long : (b : TBase) (pc p k n : ℕ) → length (base_code l b pc p k n) + 31 ≤ 32 * base_nodes b
    base_code_long (t_whole b sp) pc p k n = omega arith
    base_code_long (t_from b i sp) pc p k n =
        let f = found l i n in
        omega (arith, index_of_long l Uniform i k n (expr_to l f i pc p k n) (typed_nodes i) (expr_to_long f i pc p k n))

    pub values_long : (rs : List Rate) (xs : TExprs) (pc p k n : ℕ) → length (values_code l rs xs pc p k n) ≤ 32 * exprs_nodes xs
    values_long rs t_no_exprs pc p k n = omega arith
    values_long rs (t_expr_then x xs) pc p k n =
        let code = expr_to l (found l x n) x pc p k n in
        let a = operand_of l (next_rate rs) x k n code in
        let pc1 = pc + length a in
        let p1 = p + length (expr_places l x) in
        both_long a (values_code l (later rs) xs pc1 p1 k (n + 1)) (typed_nodes x) (exprs_nodes xs)
        (omega (arith, operand_of_long l (next_rate rs) x k n code (typed_nodes x) (expr_to_long (found l x n) x pc p k n)))
        (values_long (later rs) xs pc1 p1 k (n + 1))

    call_code_long : (d : Option Register) (c : TCall) (pc p k n : ℕ) → length (call_code l d c pc p k n) + 8 ≤ 32 * call_nodes c
    call_code_long d (t_called f xs sp) pc p k n =
        let i = calling l d f xs (p + length (arguments_places l xs)) k n in
        behind_long (arguments_code l (l.rates f) xs pc p k n) (i ∷ []) (arguments_nodes xs) (arguments_long (l.rates f) xs pc p k n) (omega arith)

    arguments_long : (rs : List Rate) (xs : TArguments) (pc p k n : ℕ) → length (arguments_code l rs xs pc p k n) ≤ 32 * arguments_nodes xs
    arguments_long rs t_no_arguments pc p k n = omega arith
    arguments_long rs (t_argument_then x xs) pc p k n =
        let a = argument_code l (next_rate rs) x pc p k n in
        let pc1 = pc + length a in
        let p1 = p + length (argument_places l x) in
        both_long a (arguments_code l (later rs) xs pc1 p1 k (n + 1)) (argument_nodes x) (arguments_nodes xs)
        (argument_long (next_rate rs) x pc p k n) (arguments_long (later rs) xs pc1 p1 k (n + 1))

    argument_long : (r : Rate) (x : TArgument) (pc p k n : ℕ) → length (argument_code l r x pc p k n) ≤ 32 * argument_nodes x
    argument_long r (t_by_value x) pc p k n =
        let f = found l x n in
        omega (arith, operand_of_long l r x k n (expr_to l f x pc p k n) (typed_nodes x) (expr_to_long f x pc p k n))
    argument_long r (t_by_name b sp) pc p k n = omega arith

  pub expr_long : (x : TExpr) (pc p k n : ℕ) → length (expr_code l x pc p k n) + 8 ≤ 32 * typed_nodes x
  expr_long x pc p k n = expr_to_long (found l x n) x pc p k n

  pub operand_long : (r : Rate) (x : TExpr) (pc p k n : ℕ) → length (operand_of l r x k n (expr_code l x pc p k n)) + 7 ≤ 32 * typed_nodes x
  operand_long r x pc p k n = operand_of_long l r x k n (expr_code l x pc p k n) (typed_nodes x) (expr_long x pc p k n)

  pub index_long : (r : Rate) (x : TExpr) (pc p k n : ℕ) → length (index_of l r x k n (expr_code l x pc p k n)) + 6 ≤ 32 * typed_nodes x
  index_long r x pc p k n = index_of_long l r x k n (expr_code l x pc p k n) (typed_nodes x) (expr_long x pc p k n)

  -- ---- assignments

  variable_from_long : (z : Bool) (r : Rate) (d : ℕ) (x : TExpr) (pc p k n : ℕ) → length (variable_from l z r d x pc p k n) + 6 ≤ 32 * typed_nodes x
  variable_from_long true r d x pc p k n =
      let f = found l x n in
      let g = (type_of x).rate in
      let d1 = part_to l r g d f in
      omega (arith, length-append (expr_to l d1 x pc p k n) (lift_to l r g d f k), expr_to_long d1 x pc p k n, lift_to_few l r g d f k)
  variable_from_long false r d x pc p k n =
      omega (arith, length-append (operand_of l r x k n (expr_code l x pc p k n)) (copy r d (operand l r x n) k ∷ []), operand_long r x pc p k n)

  variable_long : (r : Rate) (v : ℕ) (x : TExpr) (pc p k n : ℕ) → length (variable_code l r v x pc p k n) ≤ 32 * typed_nodes x
  variable_long r v x pc p k n =
      let z = writes_part l r (type_of x).rate (writes_last l x) in
      omega (arith, variable_from_long z r (l.variable r v) x pc p k n)

  assign_long : (q : TPlace) (x : TExpr) (pc p k n : ℕ) → length (assign_code l q x pc p k n) ≤ 32 * (place_nodes q + typed_nodes x)
  assign_long (t_variable v t sp) x pc p k n = omega (arith, variable_long t.rate v x pc p k n)
  assign_long (t_element b i t sp) x pc p k n =
      let q = t_element b i t sp in
      let z = access l b.ty.rate t.rate i n in
      let a = index_code l q pc p k n in
      let pc1 = pc + length a in
      let p1 = p + length (expr_places l i) in
      let y = operand_of l t.rate x k (n + 1) (expr_code l x pc1 p1 k (n + 1)) in
      let at = reached l z t.rate i n in
      let v = operand l t.rate x (n + 1) in
      let p2 = p1 + length (expr_places l x) in
      let pc2 = pc1 + length y in
      let last = write_from l z (type_of i).elem t.rate (l.array b.number) at v p2 pc2 k (n + 2) in
      three_long a y last (place_nodes q) (typed_nodes x) (index_code_long q pc p k n) (operand_long t.rate x pc1 p1 k (n + 1))
      (omega (arith, write_from_few l z (type_of i).elem t.rate (l.array b.number) at v p2 pc2 k (n + 2)))

  update_few : (z : Bool) (o : BinOp) (t : Elem) (r : Rate) (d h y k i p : ℕ) → length (update_to l z o t r d h y k i p) ≤ 3
  update_few true o t r d h y k i p = omega arith
  update_few false o t r d h y k i p = omega arith

  change_few : (o : BinOp) (t : Elem) (q : TPlace) (y pc p k n i : ℕ) → length (change_code l o t q y pc p k n i) ≤ 27
  change_few o t (t_variable v u sp) y pc p k n i =
      omega (arith, update_few (same_elem u.elem t) o t u.rate (l.variable u.rate v) (l.variable u.rate v) y k i p)
  change_few o t (t_element b j u sv) y pc p k n i =
      let z = access l b.ty.rate u.rate j n in
      let s = l.spare u.rate u.elem i in
      let e = reached l z u.rate j n in
      let a = read_from l z (type_of j).elem u.rate s (l.array b.number) e p pc k (i + 1) in
      let m = update_to l (same_elem u.elem t) o t u.rate s s y k i (p + 1) in
      let pc2 = pc + length a + length m in
      let c = write_from l z (type_of j).elem u.rate (l.array b.number) e s p pc2 k (i + 1) in
      omega (
        arith,
        length-append a (m ++ c),
        length-append m c,
        update_few (same_elem u.elem t) o t u.rate s s y k i (p + 1),
        read_from_few l z (type_of j).elem u.rate s (l.array b.number) e p pc k (i + 1),
        write_from_few l z (type_of j).elem u.rate (l.array b.number) e s p pc2 k (i + 1),
      )

  change_by_long : (o : BinOp) (t : Elem) (q : TPlace) (x : TExpr) (pc p k n : ℕ) → length (change_by_code l o t q x pc p k n) ≤ 32 * (place_nodes q + typed_nodes x)
  change_by_long o t q x pc p k n =
      let r = (place_type q).rate in
      let m = beyond q n in
      let a = index_code l q pc p k n in
      let pc1 = pc + length a in
      let p1 = p + length (index_places l q) in
      let p2 = p1 + length (expr_places l x) in
      let y = operand_of l r x k m (expr_code l x pc1 p1 k m) in
      let pc2 = pc1 + length y in
      three_long a y (change_code l o t q (operand l r x m) pc2 p2 k n (m + 1)) (place_nodes q) (typed_nodes x) (index_code_long q pc p k n)
      (operand_long r x pc1 p1 k m) (omega (arith, change_few o t q (operand l r x m) pc2 p2 k n (m + 1)))

  step_long : (o : BinOp) (t : Elem) (q : TPlace) (pc p k n : ℕ) → length (step_code l o t q pc p k n) ≤ 32 * (place_nodes q + 1)
  step_long o t q pc p k n =
      let r = (place_type q).rate in
      let m = beyond q n in
      let p1 = p + length (index_places l q) in
      let pc2 = pc + length (index_code l q pc p k n) + length (one_code l r t k m) in
      three_long (index_code l q pc p k n) (one_code l r t k m) (change_code l o t q (one_in l r t m) pc2 p1 k n (m + 1)) (place_nodes q) 1
      (index_code_long q pc p k n) (operand_long r (one_of t) 0 0 k m) (omega (arith, change_few o t q (one_in l r t m) pc2 p1 k n (m + 1)))

  pub simple_long : (x : TSimple) (pc p k n : ℕ) → length (simple_code l x pc p k n) ≤ 64 * simple_nodes x
  simple_long (t_value x) pc p k n = omega (arith, expr_long x pc p k n)
  simple_long (t_run c) pc p k n = omega (arith, call_code_long None c pc p k n)
  simple_long (t_assign q x sp) pc p k n = omega (arith, assign_long q x pc p k n)
  simple_long (t_update o t q x sp) pc p k n = omega (arith, change_by_long o t q x pc p k n)
  simple_long (t_step o t q sp) pc p k n = omega (arith, step_long o t q pc p k n, index_code_long q pc p k n)

  -- ---- declarations

  zero_few : (z : Bool) (t : Elem) (v k n : ℕ) → length (zero_each l z t v k n) ≤ 32 * 1
  zero_few true t v k n = omega arith
  zero_few false t v k n = omega arith

  zero_long : (r : Rate) (t : Elem) (v k n : ℕ) → length (zero_code l r t v k n) ≤ 32 * 1
  zero_long Uniform t v k n = omega arith
  zero_long Varying t v k n = zero_few (l.kept Varying t 0) t v k n

  item_long : (x : TItem) (pc p k n : ℕ) → length (item_code l x pc p k n) ≤ 32 * item_nodes x
  item_long (t_plain v t sp) pc p k n = zero_long t.rate t.elem v k n
  item_long (t_with_value v t x sp) pc p k n = omega (arith, variable_long t.rate v x pc p k n)
  item_long (t_with_size b sp) pc p k n = omega arith

  pub items_long : (xs : List TItem) (pc p k n : ℕ) → length (items_code l xs pc p k n) ≤ 32 * nodes_of_all item_nodes xs
  items_long [] pc p k n = omega arith
  items_long (x ∷ xs) pc p k n =
      let a = item_code l x pc p k n in
      let pc1 = pc + length a in
      let p1 = p + length (item_places l x) in
      both_long a (items_code l xs pc1 p1 k n) (item_nodes x) (nodes_of_all item_nodes xs) (item_long x pc p k n) (items_long xs pc1 p1 k n)
