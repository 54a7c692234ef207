-- Each expression of a body that names, types and rates accept is accepted by itself.
use Rattle.std.specs.Prelude.{List, [], ◌∷◌, Option, Some, None, Bool}
use Rattle.std.specs.List.{All}
use Rattle.std.proofs.Common.{inl, inr}
use Rattle.std.proofs.lemmas.List.Elements.{All-head, All-tail}
use Rattle.isp_base.specs.declared.types.Elem.{Elem}
use Rattle.isp_base.specs.declared.types.Elem.TheVariants.{Bool as Truth}
use Rattle.isp_base.specs.declared.types.Rate.{Rate}
use Rattle.isp_base.specs.declared.types.Rate.TheVariants.{Uniform}
use Rattle.isp_base.specs.declared.types.Ty.{Ty}
use Rattle.isp_tree.specs.Sound.{IfAny}
use Rattle.isp_typed.specs.Fine.{FineExpr, FinePlace, FineBase, FineCall, FineArguments, FineArgument, FineParts, FineValue, FineTarget, FineItem, FineSimple}
use Rattle.isp_typed.specs.Fine.{FineFirst, FineRange, FineReturned, FineStmt, FineBlock, FineStmts, FineFunction, params_of}
use Rattle.isp_typed.specs.Library.{parts}
use Rattle.isp_typed.specs.Typed.{TExpr, t_constant, t_program_index, t_place, t_convert, t_cast, t_unary, t_binary, t_compare, t_logic, t_choose, t_call, t_library}
use Rattle.isp_typed.specs.Typed.{t_packed_store, t_packed_load, TPlace, t_variable, t_element, TBase, t_whole, t_from, TArgument, t_by_value, t_by_name, TCall, t_called}
use Rattle.isp_typed.specs.Typed.{TArguments, t_no_arguments, t_argument_then, TExprs, t_no_exprs, t_expr_then, place_type, TFunction}
use Rattle.isp_typed.specs.Typed.{TItem, t_plain, t_with_value, t_with_size, TSimple, t_value, t_run, t_assign, t_update, t_step, TFirst, t_first_declare, t_first_simple, TRange}
use Rattle.isp_typed.specs.Typed.{TStmt, t_block, t_declare, t_simple, t_if, t_if_else, t_while, t_do, t_for, t_foreach, t_foreach_active, t_foreach_unique}
use Rattle.isp_typed.specs.Typed.{t_unmasked, t_jump, t_return, t_print, t_assert, TBlock, t_braces, TStmts, t_no_stmts, t_stmt_then}
use Rattle.isp_typed.specs.declared.library.Part.{Part}
use Rattle.isp_typed.specs.declared.variable.Holds.{Holds}
use Rattle.isp_typed.specs.declared.variable.Holds.TheVariants as hold
use Rattle.isp_typed.specs.declared.variable.Variable.{Variable}
use Rattle.isp_rates.specs.declared.exits.Within.{Within}
use Rattle.isp_rates.specs.Breaches.{OfAny, OfEach}
use Rattle.isp_rates.specs.Rates.{next_rate, later, variables_of, ExprBreach, PlaceBreach, BaseBreach, ArgumentBreach, CallBreach, ArgumentsBreach, ValuesBreach}
use Rattle.isp_rates.specs.Exits.{at_start, in_loop, in_foreach, in_turns, in_unmasked, returned_rate, ItemBreach, SimpleBreach, FirstBreach, RangeBreach, StmtBreach, BlockBreach, StmtsBreach}
use Rattle.isp_rates.specs.Program.{FunctionBreach}
use Rattle.isp_type_laws.specs.Through.{ThroughExpr, ThroughPlace, ThroughBase, ThroughArgument, ThroughCall, ThroughArguments, ThroughValues, ThroughList, ThroughItem}
use Rattle.isp_type_laws.specs.Through.{ThroughItems, ThroughSimple, ThroughFirst, ThroughRanges, ThroughStmt, ThroughBlock, ThroughStmts}
use Rattle.isp_type_laws.specs.Uniform.{IsAcceptedExpr, BodiesAccepted}
use Rattle.isp_type_laws.proofs.Expressions.{NoneOf, demand_own}
use Rattle.isp_type_laws.proofs.Calls.{breach_of, fine_of}

module _ (fs : List TFunction) (vars : List Variable) where
  abbrev Ok : TExpr → Type 0
  Ok = IsAcceptedExpr fs vars

  ok : (x : TExpr) → FineExpr fs vars x → NoneOf (ExprBreach fs x) → Ok x
  ok x f n = record { fine = f; sound = n }

  mutual
    through_expr : (x : TExpr) → FineExpr fs vars x → NoneOf (ExprBreach fs x) → ThroughExpr Ok x
    through_expr (t_constant v s) f n = ok (t_constant v s) f n
    through_expr (t_program_index s) f n = ok (t_program_index s) f n
    through_expr (t_place p) f n = (ok (t_place p) f n, through_place p f n)
    through_expr (t_convert e x) f n = (ok (t_convert e x) f n, through_expr x f.0 n)
    through_expr (t_cast x t s) f n = (ok (t_cast x t s) f n, through_expr x f.0 (demand_own t.rate x (ExprBreach fs x) n))
    through_expr (t_unary op x t s) f n = (ok (t_unary op x t s) f n, through_expr x f.0 n)
    through_expr (t_binary op x y t s) f n = (ok (t_binary op x y t s) f n, through_expr x f.0 (λ e b. n e (inl b)), through_expr y f.1 (λ e b. n e (inr b)))
    through_expr (t_compare c x y r s) f n = (ok (t_compare c x y r s) f n, through_expr x f.0 (λ e b. n e (inl b)), through_expr y f.1 (λ e b. n e (inr b)))
    through_expr (t_logic l x y r s) f n = (ok (t_logic l x y r s) f n, through_expr x f.0 (λ e b. n e (inl b)), through_expr y f.1 (λ e b. n e (inr b)))
    through_expr (t_choose c x y t s) f n =
        (ok (t_choose c x y t s) f n, through_expr c f.0 (λ e b. n e (inl b)), through_expr x f.1 (λ e b. n e (inr (inl b))), through_expr y f.2 (λ e b. n e (inr (inr b))))
    through_expr (t_call c t) f n = (ok (t_call c t) f n, through_call c (Some t) f n)
    through_expr (t_library g e xs t s) f n = (ok (t_library g e xs t s) f n, through_values e (parts g) xs f.0 n)
    through_expr (t_packed_store b x s) f n = (ok (t_packed_store b x s) f n, through_base b f.0 (λ e z. n e (inl z)), through_expr x f.1 (λ e z. n e (inr z)))
    through_expr (t_packed_load b v s) f n = (ok (t_packed_load b v s) f n, through_base b f.0 n)

    through_place : (p : TPlace) → FinePlace fs vars p → NoneOf (PlaceBreach fs p) → ThroughPlace Ok p
    through_place (t_variable v t s) f n = tt
    through_place (t_element a i t s) f n = through_expr i f.1 n

    through_base : (b : TBase) → FineBase fs vars b → NoneOf (BaseBreach fs b) → ThroughBase Ok b
    through_base (t_whole a s) f n = tt
    through_base (t_from a i s) f n = through_expr i f.1 (demand_own Uniform i (ExprBreach fs i) (λ e z. n e (inr z)))

    through_argument : (h : Holds) (c : Bool) (r : Rate) (x : TArgument) → FineArgument fs vars h c x → NoneOf (ArgumentBreach fs r x) → ThroughArgument Ok x
    through_argument (hold.Value t) c r (t_by_value x) f n = through_expr x f.0 (demand_own r x (ExprBreach fs x) n)
    through_argument (hold.Given e) c r (t_by_value x) f n = absurd f
    through_argument (hold.Local t m) c r (t_by_value x) f n = absurd f
    through_argument h c r (t_by_name a s) f n = tt

    through_call : (c : TCall) (answer : Option Ty) → FineCall fs vars c answer → NoneOf (CallBreach fs c) → ThroughCall Ok c
    through_call (t_called k xs s) answer f n = through_arguments (params_of f.0) (variables_of fs k) xs f.3 n

    through_arguments : (vs ws : List Variable) (xs : TArguments) → FineArguments fs vars vs xs → NoneOf (ArgumentsBreach fs ws xs) → ThroughArguments Ok xs
    through_arguments vs ws t_no_arguments f n = tt
    through_arguments [] ws (t_argument_then x xs) f n = absurd f
    through_arguments (v ∷ vs) ws (t_argument_then x xs) f n =
        (through_argument v.holds v.constant (next_rate ws) x f.0 (λ e b. n e (inl b)), through_arguments vs (later ws) xs f.1 (λ e b. n e (inr b)))

    through_values : (t : Elem) (ps : List Part) (xs : TExprs) → FineParts fs vars t ps xs → NoneOf (ValuesBreach fs ps xs) → ThroughValues Ok xs
    through_values t ps t_no_exprs f n = tt
    through_values t [] (t_expr_then x xs) f n = absurd f
    through_values t (p ∷ ps) (t_expr_then x xs) f n = (through_expr x f.0 (λ e b. n e (inl (inl b))), through_values t ps xs f.2 (λ e b. n e (inr b)))

  through_list : (xs : List TExpr) → All (FineExpr fs vars) xs → NoneOf (OfEach (ExprBreach fs) xs) → ThroughList Ok xs
  through_list [] f n = tt
  through_list (x ∷ xs) f n = (through_expr x (All-head (FineExpr fs vars) x xs f) (λ e b. n e (inl b)), through_list xs (All-tail (FineExpr fs vars) x xs f) (λ e b. n e (inr b)))

  through_item : (x : TItem) → FineItem fs vars x → NoneOf (ItemBreach fs x) → ThroughItem Ok x
  through_item (t_plain v t s) f n = tt
  through_item (t_with_value v t x s) f n = through_expr x f.1.0 (demand_own t.rate x (ExprBreach fs x) n)
  through_item (t_with_size a s) f n = tt

  through_items : (xs : List TItem) → All (FineItem fs vars) xs → NoneOf (OfEach (ItemBreach fs) xs) → ThroughItems Ok xs
  through_items [] f n = tt
  through_items (x ∷ xs) f n = (through_item x (All-head (FineItem fs vars) x xs f) (λ e b. n e (inl b)), through_items xs (All-tail (FineItem fs vars) x xs f) (λ e b. n e (inr b)))

  through_target : (p : TPlace) → FineTarget fs vars p → NoneOf (PlaceBreach fs p) → ThroughPlace Ok p
  through_target (t_variable v t s) f n = tt
  through_target (t_element a i t s) f n = through_place (t_element a i t s) f.0 n

  through_simple : (x : TSimple) → FineSimple fs vars x → NoneOf (SimpleBreach fs x) → ThroughSimple Ok x
  through_simple (t_value x) f n = through_expr x f n
  through_simple (t_run c) f n = through_call c None f n
  through_simple (t_assign p x s) f n = (through_target p f.0 (λ e b. n e (inl b)), through_expr x f.1.0 (demand_own (place_type p).rate x (ExprBreach fs x) (λ e b. n e (inr b))))
  through_simple (t_update op t p x s) f n = (through_target p f.0 (λ e b. n e (inl b)), through_expr x f.1.0 (demand_own (place_type p).rate x (ExprBreach fs x) (λ e b. n e (inr b))))
  through_simple (t_step op t p s) f n = through_target p f.0 n

  through_first : (x : Option TFirst) → IfAny (FineFirst fs vars) x → NoneOf (OfAny (FirstBreach fs) x) → IfAny (ThroughFirst Ok) x
  through_first None f n = tt
  through_first (Some (t_first_declare xs s)) f n = through_items xs f n
  through_first (Some (t_first_simple x)) f n = through_simple x f n

  through_test : (x : Option TExpr) → IfAny (FineValue fs vars Truth) x → NoneOf (OfAny (ExprBreach fs) x) → IfAny (ThroughExpr Ok) x
  through_test None f n = tt
  through_test (Some x) f n = through_expr x f.0 n

  through_step : (x : Option TSimple) → IfAny (FineSimple fs vars) x → NoneOf (OfAny (SimpleBreach fs) x) → IfAny (ThroughSimple Ok) x
  through_step None f n = tt
  through_step (Some x) f n = through_simple x f n

  through_ranges : (rs : List TRange) → All (FineRange fs vars) rs → NoneOf (OfEach (RangeBreach fs) rs) → ThroughRanges Ok rs
  through_ranges [] f n = tt
  through_ranges (r ∷ rs) f n =
      let fine = All-head (FineRange fs vars) r rs f in (
        through_expr r.start fine.start.0 (demand_own Uniform r.start (ExprBreach fs r.start) (λ e b. n e (inl (inl b)))),
        through_expr r.end
            fine.end.0 (demand_own Uniform r.end (ExprBreach fs r.end) (λ e b. n e (inl (inr b)))),
        through_ranges rs
            (All-tail (FineRange fs vars) r rs f) (λ e b. n e (inr b)),
      )

  module _ (answer : Option Ty) where
    returned_fine : (o : Option Ty) (x : TExpr) → FineReturned fs vars o (Some x) → FineExpr fs vars x
    returned_fine None x f = absurd f
    returned_fine (Some t) x f = f.0

    mutual
      through_stmt : (x : TStmt) → FineStmt fs vars answer x → (i : Within) → NoneOf (StmtBreach fs answer i x) → ThroughStmt Ok x
      through_stmt (t_block b) f i n = through_block b f i n
      through_stmt (t_declare xs s) f i n = through_items xs f n
      through_stmt (t_simple x s) f i n = through_simple x f n
      through_stmt (t_if o k e x s) f i n = (through_expr e f.1.0 (λ z b. n z (inl b)), through_stmt x f.2 i (λ z b. n z (inr b)))
      through_stmt (t_if_else o k e x y s) f i n = (through_expr e f.1.0 (λ z b. n z (inl b)), through_stmt x f.2 i (λ z b. n z (inr (inl b))), through_stmt y f.3 i (λ z b. n z (inr (inr b))))
      through_stmt (t_while o k e x s) f i n = (through_expr e f.1.0 (λ z b. n z (inl b)), through_stmt x f.2 (in_loop i) (λ z b. n z (inr b)))
      through_stmt (t_do o k x e s) f i n = (through_stmt x f.1 (in_loop i) (λ z b. n z (inl b)), through_expr e f.2.0 (λ z b. n z (inr b)))
      through_stmt (t_for o k first e step m x s) f i n =
          (through_first first f.2 (λ z b. n z (inl b)), through_test e f.3 (λ z b. n z (inr (inl b))), through_step step f.4 (λ z b. n z (inr (inr (inl b)))), through_stmt x f.5 (in_loop i) (λ z b. n z (inr (inr (inr b)))))
      through_stmt (t_foreach w k rs x s) f i n = (through_ranges rs f.1 (λ z b. n z (inr (inl b))), through_stmt x f.2 (in_foreach i) (λ z b. n z (inr (inr b))))
      through_stmt (t_foreach_active w k v x s) f i n = through_stmt x f.2 (in_turns i) n
      through_stmt (t_foreach_unique w k v t e x s) f i n = (through_expr e f.2.0 (λ z b. n z (inl b)), through_stmt x f.3 (in_turns i) (λ z b. n z (inr b)))
      through_stmt (t_unmasked w b s) f i n = through_block b f (in_unmasked i) n
      through_stmt (t_jump j w s) f i n = tt
      through_stmt (t_return w None s) f i n = tt
      through_stmt (t_return w (Some x) s) f i n = through_expr x (returned_fine answer x f) (demand_own (returned_rate answer) x (ExprBreach fs x) (λ z b. n z (inr b)))
      through_stmt (t_print w text xs s) f i n = through_list xs f.1 n
      through_stmt (t_assert x c s) f i n = through_expr x f.0.0 n

      pub through_block : (b : TBlock) → FineBlock fs vars answer b → (i : Within) → NoneOf (BlockBreach fs answer i b) → ThroughBlock Ok b
      through_block (t_braces xs s) f i n = through_stmts xs f i n

      through_stmts : (xs : TStmts) → FineStmts fs vars answer xs → (i : Within) → NoneOf (StmtsBreach fs answer i xs) → ThroughStmts Ok xs
      through_stmts t_no_stmts f i n = tt
      through_stmts (t_stmt_then x xs) f i n = (through_stmt x f.0 i (λ z b. n z (inl b)), through_stmts xs f.1 i (λ z b. n z (inr b)))

pub bodies_accepted : BodiesAccepted
bodies_accepted program k h accepted is =
    through_block program.functions h.variables h.answer h.body (fine_of (FineFunction program.functions) program.functions k h accepted.fine.each is).body at_start
    (λ f b. accepted.sound f (breach_of (FunctionBreach program.functions) program.functions k h is f (inr b)))
