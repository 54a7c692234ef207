-- What is known of the places of a typed program, one line a node. `f` is the number of the function that it stands in.
--     Value s t        an expression stands there, whose value has this type
--     Declared k x     the name that begins there declares x
--     Used k x         the name that begins there stands for x
-- A typed tree has no place for two names, whose notes say where a word or a call stands:
--     Index k x        the index of the `foreach_active` or `foreach_unique` that begins there declares x
--     Loaded k x       the packed call that ends there loads x
use Rattle.std.specs.Prelude.{ℕ, suc, List, [], ◌∷◌, ◌++◌, Option, Some, None}
use Rattle.isp_base.specs.declared.types.Elem.TheVariants.{Bool as Truth, I32}
use Rattle.isp_base.specs.declared.types.Rate.TheVariants.{Uniform, Varying}
use Rattle.isp_base.specs.declared.types.Span.{Span}
use Rattle.isp_typed.specs.Typed.{TExpr, t_constant, t_program_index, t_place, t_convert, t_cast, t_unary, t_binary, t_compare, t_logic, t_choose, t_call, t_library, t_packed_store, t_packed_load}
use Rattle.isp_typed.specs.Typed.{TPlace, t_variable, t_element, TBase, t_whole, t_from, TArgument, t_by_value, t_by_name, TCall, t_called, TArguments, t_no_arguments, t_argument_then, TExprs, t_no_exprs, t_expr_then}
use Rattle.isp_typed.specs.Typed.{TItem, t_plain, t_with_value, t_with_size, TSimple, t_value, t_run, t_assign, t_update, t_step, TFirst, t_first_declare, t_first_simple, TRange, ty_of, call_span}
use Rattle.isp_typed.specs.Typed.{TStmt, t_block, t_declare, t_simple, t_if, t_if_else, t_while, t_do, t_for, t_foreach, t_foreach_active, t_foreach_unique}
use Rattle.isp_typed.specs.Typed.{t_unmasked, t_jump, t_return, t_print, t_assert, TBlock, t_braces, TStmts, t_no_stmts, t_stmt_then, TFunction, Program}
use Rattle.isp_known.specs.declared.note.Note.{Note}
use Rattle.isp_known.specs.declared.note.Note.TheVariants.{Value, Declared, Used, Index, Loaded}
use Rattle.isp_known.specs.declared.note.Subject.TheVariants.{Variable, Function}

-- the name at the beginning of a span declares a variable of function f, or uses it
abbrev pub declares : ℕ → ℕ → Span → Note
declares f k s = Declared s.start (Variable f k)

abbrev pub uses : ℕ → ℕ → Span → Note
uses f k s = Used s.start (Variable f k)

-- the index of the loop with this keyword is a variable of function f, and so is what a call with this span loads
abbrev pub indexes : ℕ → ℕ → Span → Note
indexes f k w = Index w.start (Variable f k)

abbrev pub loads : ℕ → ℕ → Span → Note
loads f k s = Loaded s.end (Variable f k)

-- of what may be left out, and of several
abbrev pub notes_of_any : {A : Type 0} → (A → List Note) → Option A → List Note
notes_of_any g None = []
notes_of_any g (Some a) = g a

abbrev pub notes_of_each : {A : Type 0} → (A → List Note) → List A → List Note
notes_of_each g [] = []
notes_of_each g (a ∷ rest) = g a ++ notes_of_each g rest

-- ---- expressions

module _ (f : ℕ) where
  abbrev mutual
    pub expr_notes : TExpr → List Note
    expr_notes (t_constant v s) = Value s (ty_of Uniform v.elem) ∷ []
    expr_notes (t_program_index s) = Value s (ty_of Varying I32) ∷ []
    expr_notes (t_place p) = place_notes p
    -- no node of the source
    expr_notes (t_convert e x) = expr_notes x
    expr_notes (t_cast x t s) = Value s t ∷ expr_notes x
    expr_notes (t_unary op x t s) = Value s t ∷ expr_notes x
    expr_notes (t_binary op x y t s) = Value s t ∷ (expr_notes x ++ expr_notes y)
    expr_notes (t_compare c x y r s) = Value s (ty_of r Truth) ∷ (expr_notes x ++ expr_notes y)
    expr_notes (t_logic l x y r s) = Value s (ty_of r Truth) ∷ (expr_notes x ++ expr_notes y)
    expr_notes (t_choose c x y t s) = Value s t ∷ (expr_notes c ++ (expr_notes x ++ expr_notes y))
    expr_notes (t_call c t) = Value (call_span c) t ∷ call_notes c
    expr_notes (t_library g e xs t s) = Value s t ∷ values_notes xs
    expr_notes (t_packed_store b x s) = Value s (ty_of Uniform I32) ∷ (base_notes b ++ expr_notes x)
    expr_notes (t_packed_load b k s) = Value s (ty_of Uniform I32) ∷ (base_notes b ++ loads f k s ∷ [])

    pub place_notes : TPlace → List Note
    place_notes (t_variable k t s) = Value s t ∷ uses f k s ∷ []
    place_notes (t_element a x t s) = Value s t ∷ uses f a.number s ∷ expr_notes x

    pub base_notes : TBase → List Note
    base_notes (t_whole a s) = uses f a.number s ∷ []
    base_notes (t_from a x s) = uses f a.number s ∷ expr_notes x

    pub argument_notes : TArgument → List Note
    argument_notes (t_by_value x) = expr_notes x
    argument_notes (t_by_name a s) = uses f a.number s ∷ []

    pub call_notes : TCall → List Note
    call_notes (t_called g xs s) = Used s.start (Function g) ∷ arguments_notes xs

    pub arguments_notes : TArguments → List Note
    arguments_notes t_no_arguments = []
    arguments_notes (t_argument_then x xs) = argument_notes x ++ arguments_notes xs

    pub values_notes : TExprs → List Note
    values_notes t_no_exprs = []
    values_notes (t_expr_then x xs) = expr_notes x ++ values_notes xs

  -- ---- declarations, and what stands before a semicolon

  abbrev pub item_notes : TItem → List Note
  item_notes (t_plain k t s) = declares f k s ∷ []
  item_notes (t_with_value k t x s) = declares f k s ∷ expr_notes x
  item_notes (t_with_size a s) = declares f a.number s ∷ []

  abbrev pub simple_notes : TSimple → List Note
  simple_notes (t_value x) = expr_notes x
  simple_notes (t_run c) = call_notes c
  simple_notes (t_assign p x s) = place_notes p ++ expr_notes x
  simple_notes (t_update op e p x s) = place_notes p ++ expr_notes x
  simple_notes (t_step op e p s) = place_notes p

  abbrev pub first_notes : TFirst → List Note
  first_notes (t_first_declare is s) = notes_of_each item_notes is
  first_notes (t_first_simple p) = simple_notes p

  abbrev pub range_notes : TRange → List Note
  range_notes r = declares f r.index r.span ∷ (expr_notes r.start ++ expr_notes r.end)

  -- ---- statements

  abbrev mutual
    pub stmt_notes : TStmt → List Note
    stmt_notes (t_block b) = block_notes b
    stmt_notes (t_declare is s) = notes_of_each item_notes is
    stmt_notes (t_simple p s) = simple_notes p
    stmt_notes (t_if c n x a s) = expr_notes x ++ stmt_notes a
    stmt_notes (t_if_else c n x a b s) = expr_notes x ++ (stmt_notes a ++ stmt_notes b)
    stmt_notes (t_while c n x a s) = expr_notes x ++ stmt_notes a
    stmt_notes (t_do c n a x s) = stmt_notes a ++ expr_notes x
    stmt_notes (t_for c n i x p m a s) = notes_of_any first_notes i ++ (notes_of_any expr_notes x ++ (notes_of_any simple_notes p ++ stmt_notes a))
    stmt_notes (t_foreach w n rs a s) = notes_of_each range_notes rs ++ stmt_notes a
    stmt_notes (t_foreach_active w n i a s) = indexes f i w ∷ stmt_notes a
    stmt_notes (t_foreach_unique w n i e x a s) = indexes f i w ∷ (expr_notes x ++ stmt_notes a)
    stmt_notes (t_unmasked w b s) = block_notes b
    stmt_notes (t_jump j w s) = []
    stmt_notes (t_return w x s) = notes_of_any expr_notes x
    stmt_notes (t_print w t xs s) = notes_of_each expr_notes xs
    stmt_notes (t_assert x c s) = expr_notes x

    pub block_notes : TBlock → List Note
    block_notes (t_braces ss s) = stmts_notes ss

    pub stmts_notes : TStmts → List Note
    stmts_notes t_no_stmts = []
    stmts_notes (t_stmt_then s ss) = stmt_notes s ++ stmts_notes ss

  -- ---- functions

  -- the parameters from number k on
  abbrev pub params_notes : ℕ → List Span → List Note
  params_notes k [] = []
  params_notes k (s ∷ ss) = declares f k s ∷ params_notes (suc k) ss

  abbrev pub function_notes : TFunction → List Note
  function_notes g = Declared g.span.start (Function f) ∷ (params_notes 0 g.params ++ block_notes g.body)

-- those of functions from number f on
abbrev pub functions_notes : ℕ → List TFunction → List Note
functions_notes f [] = []
functions_notes f (g ∷ gs) = function_notes f g ++ functions_notes (suc f) gs

abbrev pub program_notes : Program → List Note
program_notes p = functions_notes 0 p.functions
