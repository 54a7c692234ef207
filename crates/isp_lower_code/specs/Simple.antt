-- The code of what stands before a semicolon, as a function of its tree.
use Rattle.std.specs.Prelude.{Bool, true, false, ℕ, ◌+◌, ◌∷◌, [], ◌++◌, List, length, None}
use Rattle.isp_base.specs.declared.operators.BinOp.{BinOp}
use Rattle.isp_base.specs.declared.types.Elem.{Elem}
use Rattle.isp_base.specs.declared.types.Rate.{Rate}
use Rattle.isp_base.specs.declared.types.Span.{Span}
use Rattle.isp_code.specs.declared.instr.Instr.{Instr}
use Rattle.isp_base.specs.Ranks.{same_elem}
use Rattle.isp_typed.specs.Typed.{TExpr, t_constant, TPlace, t_variable, t_element, place_type, type_of, TSimple, t_value, t_run, t_assign, t_update, t_step}
use Rattle.isp_lower_code.specs.Layout.{Layout}
use Rattle.isp_lower_code.specs.Code.{expr_code, index_code, call_code, variable_code}
use Rattle.isp_lower_code.specs.Elements.{access, reached, read_from, write_from}
use Rattle.isp_lower_code.specs.Found.{operand, operand_of}
use Rattle.isp_lower_code.specs.Instructions.{convert, operate, operate_places}
use Rattle.isp_lower_code.specs.Pieces.{two}
use Rattle.isp_lower_code.specs.Spans.{expr_places, index_places, read_places, call_places}
pub use Rattle.isp_lower_code.specs.Asks.{beyond}

-- the number 1 of a type, at no place of the source
abbrev pub one_of : Elem → TExpr
one_of t = t_constant (record { elem = t; bits = 1 }) (record { start = 0; end = 0 })

module _ (l : Layout) where
  -- the target's index, the right side, the access
  abbrev pub assign_code : TPlace → TExpr → ℕ → ℕ → ℕ → ℕ → List Instr
  assign_code (t_variable v t sp) x pc p k n = variable_code l t.rate v x pc p k n
  assign_code (t_element b i t sp) x pc p k n =
      let z = access l b.ty.rate t.rate i n in
      two pc (index_code l (t_element b i t sp) pc p k n)
      (λ pc1. two pc1 (operand_of l t.rate x k (n + 1) (expr_code l x pc1 (p + length (expr_places l i)) k (n + 1)))
      (λ pc2. write_from l z (type_of i).elem t.rate (l.array b.number) (reached l z t.rate i n) (operand l t.rate x (n + 1))
      (p + length (expr_places l i) + length (expr_places l x)) pc2 k (n + 2)))

  abbrev pub assign_places : TPlace → TExpr → List Span
  assign_places z x = index_places l z ++ (expr_places l x ++ read_places l z)

  -- Register d gets an operator of type t on what register h of type u has and on register y, as a value of type u; a
  -- conversion stands on either side where the types are not said to be the same.
  abbrev pub update_to : Bool → BinOp → Elem → Rate → ℕ → ℕ → ℕ → ℕ → ℕ → ℕ → List Instr
  update_to true o t r d h y k i p = operate r o d h y k p ∷ []
  update_to false o t r d h y k i p =
      convert r (l.spare r t i) h k ∷ (operate r o (l.spare r t i) (l.spare r t i) y k p ∷ convert r d (l.spare r t i) k ∷ [])

  -- An operator of type t on what a place holds and on register y: a variable is read and written in place, an element is
  -- read into slot i by its index at slot n. Both accesses of an element name one place of the source.
  abbrev pub change_code : BinOp → Elem → TPlace → ℕ → ℕ → ℕ → ℕ → ℕ → ℕ → List Instr
  change_code o t (t_variable v u sp) y pc p k n i =
      update_to (same_elem u.elem t) o t u.rate (l.variable u.rate v) (l.variable u.rate v) y k i p
  change_code o t (t_element b j u sp) y pc p k n i =
      let z = access l b.ty.rate u.rate j n in
      let d = l.spare u.rate u.elem i in
      two pc (read_from l z (type_of j).elem u.rate d (l.array b.number) (reached l z u.rate j n) p pc k (i + 1))
      (λ pc1. two pc1 (update_to (same_elem u.elem t) o t u.rate d d y k i (p + 1))
      (λ pc2. write_from l z (type_of j).elem u.rate (l.array b.number) (reached l z u.rate j n) d p pc2 k (i + 1)))

  -- `op=`: the target's index, the right side, then the place is read
  abbrev pub change_by_code : BinOp → Elem → TPlace → TExpr → ℕ → ℕ → ℕ → ℕ → List Instr
  change_by_code o t z x pc p k n =
      two pc (index_code l z pc p k n) (λ pc1. two pc1 (operand_of l (place_type z).rate x k (beyond z n)
      (expr_code l x pc1 (p + length (index_places l z)) k (beyond z n)))
      (λ pc2. change_code o t z (operand l (place_type z).rate x (beyond z n)) pc2 (p + length (index_places l z) + length (expr_places l x)) k n
      (beyond z n + 1)))

  abbrev pub change_places : BinOp → TPlace → Span → List Span
  change_places o z sp = read_places l z ++ operate_places o sp

  -- `++` and `--`: the number 1 is the right side
  abbrev pub one_in : Rate → Elem → ℕ → ℕ
  one_in r t m = operand l r (one_of t) m

  abbrev pub one_code : Rate → Elem → ℕ → ℕ → List Instr
  one_code r t k m = operand_of l r (one_of t) k m (expr_code l (one_of t) 0 0 k m)

  abbrev pub step_code : BinOp → Elem → TPlace → ℕ → ℕ → ℕ → ℕ → List Instr
  step_code o t z pc p k n =
      two pc (index_code l z pc p k n) (λ pc1. two pc1 (one_code (place_type z).rate t k (beyond z n))
      (λ pc2. change_code o t z (one_in (place_type z).rate t (beyond z n)) pc2 (p + length (index_places l z)) k n (beyond z n + 1)))

  -- ---- what stands before a semicolon

  abbrev pub simple_code : TSimple → ℕ → ℕ → ℕ → ℕ → List Instr
  simple_code (t_value x) pc p k n = expr_code l x pc p k n
  simple_code (t_run c) pc p k n = call_code l None c pc p k n
  simple_code (t_assign z x sp) pc p k n = assign_code z x pc p k n
  simple_code (t_update o t z x sp) pc p k n = change_by_code o t z x pc p k n
  simple_code (t_step o t z sp) pc p k n = step_code o t z pc p k n

  abbrev pub simple_places : TSimple → List Span
  simple_places (t_value x) = expr_places l x
  simple_places (t_run c) = call_places l c
  simple_places (t_assign z x sp) = assign_places z x
  simple_places (t_update o t z x sp) = index_places l z ++ (expr_places l x ++ change_places o z sp)
  simple_places (t_step o t z sp) = index_places l z ++ change_places o z sp
