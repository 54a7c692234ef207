-- The places in the source that the code of an expression names, in order.
use Rattle.std.specs.Prelude.{◌∷◌, [], ◌++◌, List}
use Rattle.isp_base.specs.declared.types.Span.{Span}
use Rattle.isp_typed.specs.Typed.{TExpr, t_constant, t_program_index, t_place, t_convert, t_cast, t_unary, t_binary, t_compare, t_logic, t_choose, t_call, t_library, t_packed_store, t_packed_load, TPlace, t_variable, t_element}
use Rattle.isp_typed.specs.Typed.{TBase, t_whole, t_from, TArgument, t_by_value, t_by_name, TCall, t_called, TArguments, t_no_arguments, t_argument_then, TExprs, t_no_exprs, t_expr_then}
use Rattle.isp_lower_code.specs.Layout.{Layout}
use Rattle.isp_lower_code.specs.Instructions.{operate_places}

module _ (l : Layout) where
  abbrev mutual
    pub expr_places : TExpr → List Span
    expr_places (t_constant v sp) = []
    expr_places (t_program_index sp) = []
    expr_places (t_place p) = index_places p ++ read_places p
    expr_places (t_convert e x) = expr_places x
    expr_places (t_cast x t sp) = expr_places x
    expr_places (t_unary o x t sp) = expr_places x
    expr_places (t_binary o x y t sp) = expr_places x ++ (expr_places y ++ operate_places o sp)
    expr_places (t_compare c x y r sp) = expr_places x ++ expr_places y
    expr_places (t_logic g x y r sp) = expr_places x ++ expr_places y
    expr_places (t_choose c x y t sp) = expr_places c ++ (expr_places x ++ expr_places y)
    expr_places (t_call c t) = call_places c
    expr_places (t_library f e xs t sp) = values_places xs
    -- a packed call names its place after those of its parts
    expr_places (t_packed_store b x sp) = base_places b ++ (expr_places x ++ sp ∷ [])
    expr_places (t_packed_load b v sp) = base_places b ++ sp ∷ []

    pub index_places : TPlace → List Span
    index_places (t_variable v t sp) = []
    index_places (t_element b i t sp) = expr_places i

    pub read_places : TPlace → List Span
    read_places (t_variable v t sp) = []
    read_places (t_element b i t sp) = sp ∷ []

    pub base_places : TBase → List Span
    base_places (t_whole b sp) = []
    base_places (t_from b i sp) = expr_places i

    pub values_places : TExprs → List Span
    values_places t_no_exprs = []
    values_places (t_expr_then x xs) = expr_places x ++ values_places xs

    -- a call names its place after those of its arguments
    pub call_places : TCall → List Span
    call_places (t_called f xs sp) = arguments_places xs ++ sp ∷ []

    pub arguments_places : TArguments → List Span
    arguments_places t_no_arguments = []
    arguments_places (t_argument_then x xs) = argument_places x ++ arguments_places xs

    pub argument_places : TArgument → List Span
    argument_places (t_by_value x) = expr_places x
    argument_places (t_by_name b sp) = []
