-- The code of a call is valid: what is passed has the types that the function takes.
use Rattle.std.proofs.Common.{◌≡◌, ℕ, zero, suc, ◌+◌, ◌-◌, ◌<◌, ◌⊎◌, inl, inr, List, [], ◌∷◌, ◌++◌, map, Option, Some, None, true, refl, sym, ap, ◌∙◌, subst, arith}
use Rattle.std.specs.Prelude.{slice_get, slice_index_or}
use Rattle.isp_base.specs.Depths.{most_calls}
use Rattle.isp_base.specs.declared.types.Elem.{Elem}
use Rattle.isp_base.specs.declared.types.Elem.TheVariants.{Bool as Truth}
use Rattle.isp_code.specs.Fine.{ArePassed, CallFine, IsGiven, IsThere}
use Rattle.isp_code.specs.Listing.{Routine}
use Rattle.isp_code.specs.Registers.{class_of, same_class, if_class, param_elems, scalars_of, count_of}
use Rattle.isp_code.specs.declared.function.Param.{Param}
use Rattle.isp_code.specs.declared.function.ParamKind.{ParamKind}
use Rattle.isp_code.specs.declared.function.ParamKind.TheVariants as kind
use Rattle.isp_code.specs.declared.function.Returns.{Returns}
use Rattle.isp_code.specs.declared.function.Returns.TheVariants.{Nothing, Scalar as GivesScalar, Vector as GivesVector}
use Rattle.isp_code.specs.declared.instr.Call.{Call}
use Rattle.isp_code.specs.declared.register.Class.{Class}
use Rattle.isp_code.specs.declared.register.Class.TheVariants as class
use Rattle.isp_code.specs.declared.register.Register.{Register}
use Rattle.isp_wasm_meaning.specs.Module.{ValueType, V128, Function}
use Rattle.isp_wasm_meaning.specs.Module as valued
use Rattle.isp_wasm_meaning.specs.Syntax as wasm
use Rattle.isp_wasm_meaning.specs.Syntax.{I8x16, LtU, Expr, Const32, Const128, Local, Two, Code, Skip, Then, Set, If, Bitselect, GetGlobal, Call as CallFunction}
use Rattle.isp_wasm_meaning.specs.Valid.{is_type, sized, has_type, have_types, of_type, gets, call_fits, is_valid}
use Rattle.isp_wasm.specs.Locals.{row, taking, taken_from, taken_places}
use Rattle.isp_wasm.specs.Module.{back_type}
use Rattle.isp_wasm.specs.Places.{Setting, Place, gang, parts, elem, shape, size_of, Scalar as ScalarAt, Vector as VectorAt, Mask as MaskAt, Base, Count, Fresh, Depth, Top}
use Rattle.isp_wasm.specs.Rows.{widened}
use Rattle.isp_wasm.specs.Templates.{fault, lowest_of, scalar_local, vector_local, mask_local, plus, waiting_calls, listed, part_under, passed_of, passed_all, arguments_of, called_number, scalar_result, result_local, select_lanes, vector_result, take_result, each, call_code}
use Rattle.isp_wasm.proofs.Typed.{both, same, two, bitselect, source, widened_typed}
use Rattle.isp_wasm.proofs.ValidLines.{HasTypes, fresh_low, source_low, global_at, few_results, each_valid, then_valid, if_valid, local_typed, scalar_at, scalar_typed, vector_typed, mask_part_typed, select_valid, lowest_typed, plus_typed}

module _ (w : Setting) (local : ℕ → Option ValueType) (functions : List Function) (result : Option ValueType) (typed : HasTypes w local) where
  abbrev pub T : Expr → ValueType → Type 0
  T e t = has_type local e t ≡ true

  abbrev pub C : ℕ → Code → Type 0
  C d c = is_valid local functions result d c ≡ true

  abbrev pub IsV : Register → Type 0
  IsV x = IsThere w.routine class.Vector x

  abbrev pub IsM : Register → Type 0
  IsM x = IsThere w.routine class.Mask x

  -- what is passed has the types of these places
  abbrev pub T_all : List Expr → List ValueType → Type 0
  T_all es ts = have_types local es ts ≡ true

  typed_more : (e : Expr) (t : ValueType) (es : List Expr) (ts : List ValueType) → T e t → T_all es ts → T_all (e ∷ es) (t ∷ ts)
  typed_more e t es ts h k = both (has_type local e t) (have_types local es ts) h k

  typed_row : (n : ℕ) (place : ℕ → Place) (e : ℕ → Expr) (es : List Expr) (qs : List Place) (f : Place → ValueType) → ((j : ℕ) → j < n → T (e j) (f (place j))) → T_all es (map f qs)
      → T_all (listed w n e ++ es) (map f (row n place ++ qs))
  typed_row zero place e es qs f h k = k
  typed_row (suc n) place e es qs f h k =
      typed_more (e 0) (f (place 0)) (listed w n (λ j. e (suc j)) ++ es) (map f (row n (λ j. place (suc j)) ++ qs)) (h 0 (omega arith)) (typed_row n (λ j. place (suc j)) (λ j. e (suc j)) es qs f (λ j l. h (suc j) (omega (arith, l))) k)

  part_typed : (k x : Register) → IsM k → IsV x → (j : ℕ) → j < parts w (shape w x) → T (part_under w k x j) V128
  part_typed k x ks xs j l =
      bitselect local (vector_local w x j) (Const128 0) (widened (shape w x) (mask_local w k) j) (vector_typed w local functions result typed x xs (elem w x) refl j l) refl
      (widened_typed local (shape w x) (mask_local w k) j (mask_part_typed w local functions result typed k ks (source (shape w x) j) (source_low (gang w) (shape w x) j l)))

  -- the type that a place of the function that is called has
  pub record IsTyped (f : Place → ValueType) (h : Routine) : Type 0 where
    pub depth_is : f Depth ≡ valued.I32
    pub top_is : f Top ≡ valued.I32
    pub scalar_is : (r : ℕ) → f (ScalarAt r) ≡ sized (size_of (slice_index_or (scalars_of h) r Truth))
    pub vector_is : (r j : ℕ) → f (VectorAt r j) ≡ V128
    pub mask_is : (r j : ℕ) → f (MaskAt r j) ≡ V128
    pub base_is : (a : ℕ) → f (Base a) ≡ valued.I32
    pub count_is : (a : ℕ) → f (Count a) ≡ valued.I64

  module _ (f : Place → ValueType) (h : Routine) (types : IsTyped f h) (k : Register) (ks : IsM k) where
    pass_typed : (p : ParamKind) (c : Class) (n : ℕ) (more : ℕ → ℕ → ℕ → List Place) (xs : List Register) (r v a : ℕ) (ts us : List Elem) → c ≡ class_of p → n < count_of w.routine c
        → ((i : ℕ) → slice_index_or (scalars_of h) (r + i) Truth ≡ slice_index_or (if_class (same_class (class_of p) class.Scalar) (elem w (record { class = c; number = n })) ts ++ us) i Truth)
        → ((r v a : ℕ) → ((i : ℕ) → slice_index_or (scalars_of h) (r + i) Truth ≡ slice_index_or (ts ++ us) i Truth) → T_all (passed_all w k xs) (map f (more r v a)))
        → T_all (passed_of w k c (record { class = c; number = n }) ++ passed_all w k xs) (map f (taking (gang w) p (elem w (record { class = c; number = n })) more r v a))
    pass_typed kind.Scalar class.Scalar n more xs r v a ts us e low alike all =
        let x : Register = record { class = class.Scalar; number = n } in
        typed_more (scalar_local w x) (f (ScalarAt r)) (passed_all w k xs) (map f (more (suc r) v a))
        (subst (T (scalar_local w x)) (sym (types.scalar_is r ∙ ap (λ t. sized (size_of t)) (ap (λ i. slice_index_or (scalars_of h) i Truth) (let at : r ≡ r + 0 = omega arith in at) ∙ alike 0))) (scalar_typed w local functions result typed x (refl, low) (elem w x) refl))
        (all (suc r) v a (λ i. ap (λ j. slice_index_or (scalars_of h) j Truth) (let at : suc r + i ≡ r + suc i = omega arith in at) ∙ alike (suc i)))
    pass_typed kind.Array class.Array n more xs r v a ts us e low alike all =
        let x : Register = record { class = class.Array; number = n } in
        typed_more (Local (w.local (Base n))) (f (Base a)) (Local (w.local (Count n)) ∷ passed_all w k xs) (f (Count a) ∷ map f (more r v (suc a)))
        (subst (T (Local (w.local (Base n)))) (sym (types.base_is a)) (local_typed w local functions result typed (w.local (Base n)) valued.I32 (typed.bases x (refl, low))))
        (typed_more (Local (w.local (Count n))) (f (Count a)) (passed_all w k xs) (map f (more r v (suc a)))
        (subst (T (Local (w.local (Count n)))) (sym (types.count_is a)) (local_typed w local functions result typed (w.local (Count n)) valued.I64 (typed.counts x (refl, low)))) (all r v (suc a) alike))
    pass_typed kind.Vector class.Vector n more xs r v a ts us e low alike all =
        let x : Register = record { class = class.Vector; number = n } in
        typed_row (parts w (shape w x)) (VectorAt v) (part_under w k x) (passed_all w k xs) (more r (suc v) a) f
        (λ j l. subst (T (part_under w k x j)) (sym (types.vector_is v j)) (part_typed k x ks (refl, low) j l)) (all r (suc v) a alike)
    pass_typed kind.Scalar class.Vector n more xs r v a ts us e low alike all = absurd cc
    pass_typed kind.Scalar class.Array n more xs r v a ts us e low alike all = absurd cc
    pass_typed kind.Scalar class.Mask n more xs r v a ts us e low alike all = absurd cc
    pass_typed kind.Array class.Scalar n more xs r v a ts us e low alike all = absurd cc
    pass_typed kind.Array class.Vector n more xs r v a ts us e low alike all = absurd cc
    pass_typed kind.Array class.Mask n more xs r v a ts us e low alike all = absurd cc
    pass_typed kind.Vector class.Scalar n more xs r v a ts us e low alike all = absurd cc
    pass_typed kind.Vector class.Array n more xs r v a ts us e low alike all = absurd cc
    pass_typed kind.Vector class.Mask n more xs r v a ts us e low alike all = absurd cc

    passed_typed : (ps : List Param) (xs : List Register) → ArePassed w.routine ps xs → (us : List Elem) (r v a : ℕ) → ((i : ℕ) → slice_index_or (scalars_of h) (r + i) Truth ≡ slice_index_or (param_elems class.Scalar ps ++ us) i Truth)
        → T_all (passed_all w k xs) (map f (taken_from (gang w) ps r v a))
    passed_typed [] [] are us r v a alike = refl
    passed_typed [] (x ∷ xs) are us r v a alike = absurd are
    passed_typed (p ∷ ps) [] are us r v a alike = absurd are
    passed_typed (p ∷ ps) (x ∷ xs) are us r v a alike =
        let cl = ((are.0).0).0 in
        subst (λ t. T_all (passed_all w k (x ∷ xs)) (map f (taking (gang w) p.kind t (taken_from (gang w) ps) r v a))) (are.0).1
        (pass_typed p.kind x.class x.number (taken_from (gang w) ps) xs r v a (param_elems class.Scalar ps) us cl (subst (λ c. x.number < count_of w.routine c) (sym cl) ((are.0).0).1)
        (subst (λ t. (i : ℕ) → slice_index_or (scalars_of h) (r + i) Truth ≡ slice_index_or (if_class (same_class (class_of p.kind) class.Scalar) t (param_elems class.Scalar ps) ++ us) i Truth) (sym (are.0).1) alike)
        (λ r v a alike. passed_typed ps xs are.1 us r v a alike))

    arguments_typed : (xs : List Register) (c : Call) → c.mask ≡ k → c.arguments ≡ xs → ArePassed w.routine h.params xs → T_all (arguments_of w c) (map f (taken_places (gang w) h))
    arguments_typed xs c m at are =
        typed_more (plus w (waiting_calls w) 1) (f Depth) (Local (w.local Top) ∷ (listed w (parts w I8x16) (mask_local w c.mask) ++ passed_all w c.mask c.arguments)) (f Top ∷ map f (row (parts w I8x16) (MaskAt 0) ++ taken_from (gang w) h.params 0 0 0))
        (subst (T (plus w (waiting_calls w) 1)) (sym types.depth_is) (plus_typed w local functions result typed (waiting_calls w) 1 (local_typed w local functions result typed (w.local Depth) valued.I32 typed.depth)))
        (typed_more (Local (w.local Top)) (f Top) (listed w (parts w I8x16) (mask_local w c.mask) ++ passed_all w c.mask c.arguments) (map f (row (parts w I8x16) (MaskAt 0) ++ taken_from (gang w) h.params 0 0 0))
        (subst (T (Local (w.local Top))) (sym types.top_is) (local_typed w local functions result typed (w.local Top) valued.I32 typed.top_is))
        (subst (λ m. T_all (listed w (parts w I8x16) (mask_local w m) ++ passed_all w m c.arguments) (map f (row (parts w I8x16) (MaskAt 0) ++ taken_from (gang w) h.params 0 0 0))) (sym m)
        (subst (λ ys. T_all (listed w (parts w I8x16) (mask_local w k) ++ passed_all w k ys) (map f (row (parts w I8x16) (MaskAt 0) ++ taken_from (gang w) h.params 0 0 0))) (sym at)
        (typed_row (parts w I8x16) (MaskAt 0) (mask_local w k) (passed_all w k xs) (taken_from (gang w) h.params 0 0 0) f (λ j l. subst (T (mask_local w k j)) (sym (types.mask_is 0 j)) (mask_part_typed w local functions result typed k ks j l))
        (passed_typed h.params xs are h.scalars 0 0 0 (λ i. ap (λ j. slice_index_or (scalars_of h) j Truth) (let at : 0 + i ≡ i = omega arith in at)))))))

  -- what is called is there, takes what is passed, and gives what is wanted
  pub record IsCallee (c : Call) (h : Routine) (g : Function) : Type 0 where
    pub place_type : Place → ValueType
    pub types : IsTyped place_type h
    pub found : slice_get functions (called_number w c) ≡ Some g
    pub params_are : g.params ≡ map place_type (taken_places (gang w) h)
    pub result_is : g.result ≡ back_type h.returns

  gets_scalar : (t : Elem) (a : Class) (x : ℕ) → IsThere w.routine class.Scalar (record { class = a; number = x }) → elem w (record { class = a; number = x }) ≡ t → gets local (Some (sized (size_of t))) (scalar_result w a (record { class = a; number = x })) ≡ true
  gets_scalar t class.Scalar x is e = ap (λ o. is_type o (sized (size_of t))) (scalar_at w local functions result typed (record { class = class.Scalar; number = x }) is t e) ∙ same (sized (size_of t))
  gets_scalar t class.Vector x is e = absurd (let other = is.0 in cc)
  gets_scalar t class.Mask x is e = absurd (let other = is.0 in cc)
  gets_scalar t class.Array x is e = absurd (let other = is.0 in cc)

  gets_result : (r : Returns) (x : Option Register) → IsGiven w.routine r x → gets local (back_type r) (result_local w x) ≡ true
  gets_result Nothing None is = refl
  gets_result Nothing (Some x) is = absurd is
  gets_result (GivesScalar t) None is = absurd is
  gets_result (GivesScalar t) (Some x) is = gets_scalar t x.class x.number is.0 is.1
  gets_result (GivesVector t) None is = absurd is
  gets_result (GivesVector t) (Some x) is = ap (λ a. gets local None (scalar_result w a (record { class = a; number = x.number }))) (is.0).0

  -- the parts of a vector come from the globals
  takes_vector : (n : ℕ) (a : Class) (x : ℕ) (k : Register) → IsM k → (a ≡ class.Scalar) ⊎ IsV (record { class = a; number = x }) → C n (vector_result w a (record { class = a; number = x }) k)
  takes_vector n class.Vector x k ks (inl e) = absurd cc
  takes_vector n class.Vector x k ks (inr is) =
      let r : Register = record { class = class.Vector; number = x } in
      then_valid w local functions result typed n (each (parts w (shape w r)) (λ j. GetGlobal (w.local (Fresh j)) (suc j))) (select_lanes w r k)
      (each_valid w local functions result typed n (parts w (shape w r)) (λ j. GetGlobal (w.local (Fresh j)) (suc j))
      (λ j l. ap (of_type local (Local (w.local (Fresh j)))) (global_at w local functions result typed j (few_results w local functions result typed (shape w r) j l)).1
      ∙ local_typed w local functions result typed (w.local (Fresh j)) V128 (typed.fresh j (fresh_low (gang w) (shape w r) j l))))
      (select_valid w local functions result typed n r k is ks)
  takes_vector n class.Scalar x k ks is = refl
  takes_vector n class.Mask x k ks is = refl
  takes_vector n class.Array x k ks is = refl

  takes_valid : (n : ℕ) (r : Returns) (x : Option Register) (k : Register) → IsM k → IsGiven w.routine r x → C n (take_result w x k)
  takes_valid n r None k ks is = refl
  takes_valid n Nothing (Some x) k ks is = absurd is
  takes_valid n (GivesScalar t) (Some x) k ks is = takes_vector n x.class x.number k ks (inl (is.0).0)
  takes_valid n (GivesVector t) (Some x) k ks is = takes_vector n x.class x.number k ks (inr is.0)

  pub call_valid : (n : ℕ) (c : Call) (fine : CallFine w.code w.routine c) (g : Function) → IsCallee c fine.callee g → IsM c.mask → C n (call_code w c)
  call_valid n c fine g is ks =
      then_valid w local functions result typed n (If (Two (wasm.Compare wasm.I32 LtU) (waiting_calls w) (Const32 (most_calls - 1))) Skip (fault w 3 c.place (lowest_of w c.mask))) (Then (CallFunction (called_number w c) (arguments_of w c) (result_local w c.result)) (take_result w c.result c.mask))
      (if_valid w local functions result typed n (Two (wasm.Compare wasm.I32 LtU) (waiting_calls w) (Const32 (most_calls - 1))) Skip (fault w 3 c.place (lowest_of w c.mask))
      (two local (wasm.Compare wasm.I32 LtU) (waiting_calls w) (Const32 (most_calls - 1)) refl (local_typed w local functions result typed (w.local Depth) valued.I32 typed.depth) refl) refl (lowest_typed w local functions result typed c.mask ks))
      (then_valid w local functions result typed n (CallFunction (called_number w c) (arguments_of w c) (result_local w c.result)) (take_result w c.result c.mask)
      (ap (λ o. call_fits local o (arguments_of w c) (result_local w c.result)) is.found
      ∙ both (have_types local (arguments_of w c) g.params) (gets local g.result (result_local w c.result))
      (subst (T_all (arguments_of w c)) (sym is.params_are) (arguments_typed is.place_type fine.callee is.types c.mask ks c.arguments c refl refl fine.passed))
      (subst (λ r. gets local r (result_local w c.result) ≡ true) (sym is.result_is) (gets_result fine.callee.returns c.result fine.result)))
      (takes_valid n fine.callee.returns c.result c.mask ks fine.result))
