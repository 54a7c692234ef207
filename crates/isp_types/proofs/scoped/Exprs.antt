-- What an expression names is in scope.
use Rattle.std.proofs.Common.{◌≡◌, ℕ, Bool, true, false, refl, sym, subst}
use Rattle.std.specs.Prelude.{Option, Some, None, List, [], ◌∷◌, map, Ok, Err}
use Rattle.isp_base.specs.declared.types.Elem.{Elem}
use Rattle.isp_base.specs.declared.types.Elem.TheVariants.{Bool as Truth}
use Rattle.isp_base.specs.declared.types.Gang.{Gang}
use Rattle.isp_base.specs.declared.types.Rate.{Rate}
use Rattle.isp_base.specs.declared.types.Rate.TheVariants.{Uniform, Varying}
use Rattle.isp_base.specs.declared.types.Span.{Span}
use Rattle.isp_base.specs.declared.types.Ty.{Ty}
use Rattle.isp_base.specs.Ranks.{same_elem, operand, common, chosen}
use Rattle.isp_lex.specs.declared.fault.Rule.TheVariants.{Mismatch, ConstAssigned}
use Rattle.isp_lex.specs.Faults.{fault}
use Rattle.isp_tree.specs.declared.expr.Prefix.{Prefix}
use Rattle.isp_tree.specs.declared.expr.Prefix.TheVariants as sign
use Rattle.isp_tree.specs.declared.types.Word.{Word}
use Rattle.isp_tree.specs.Tree.{Expr, number, truth, program_index, program_count, place, call, brackets, cast, prefix, binary, choose, Place, variable, element}
use Rattle.isp_tree.specs.Tree.{Argument, by_value, by_reference, Arguments, no_arguments, argument_then, span_of_argument}
use Rattle.isp_typed.specs.declared.library.Part.{Part}
use Rattle.isp_typed.specs.declared.variable.ArrayVariable.{ArrayVariable}
use Rattle.isp_typed.specs.declared.variable.Holds.{Holds}
use Rattle.isp_typed.specs.declared.variable.Holds.TheVariants as holds
use Rattle.isp_typed.specs.Library.{parts, part_elem}
use Rattle.isp_typed.specs.Scoped.{Scope, InScope, ExprIn, PlaceIn, BaseIn, CallIn, ArgumentsIn, ExprsIn}
use Rattle.isp_typed.specs.Typed.{TExpr, t_packed_store, t_packed_load, TPlace, TBase, t_whole, t_from, base_array, elem_of}
use Rattle.isp_exprs.specs.declared.callee.Callee.{Callee}
use Rattle.isp_exprs.specs.declared.callee.Callee.TheVariants as callees
use Rattle.isp_exprs.specs.declared.callee.Want.{Want}
use Rattle.isp_exprs.specs.declared.callee.Want.TheVariants.{AnyValue, ValueOf, ArrayOf, Base, Destination, NoReference, Anything}
use Rattle.isp_exprs.specs.declared.scope.Binding.{Binding}
use Rattle.isp_exprs.specs.declared.scope.Known.{Known}
use Rattle.isp_exprs.specs.declared.values.Joining.{Joining}
use Rattle.isp_exprs.specs.declared.values.Joining.TheVariants as joined_as
use Rattle.isp_exprs.specs.Values.{converted, with_sign, joins, joining}
use Rattle.isp_exprs.specs.Scopes.{named}
use Rattle.isp_exprs.specs.Places.{array_of, variable_at, element_at}
use Rattle.isp_exprs.specs.Passing.{Handed, h_value, h_run, h_array, h_name, h_element, handed_name, Passed, p_value, p_array, p_base, p_destination, p_unasked, Called, gives, runs, value_called, handed_call}
use Rattle.isp_exprs.specs.PackedCalls.{base_named, destination}
use Rattle.isp_exprs.specs.LibraryCalls.{values_among, worked_in, as_parts, library_call}
use Rattle.isp_exprs.specs.Callees.{Heading}
use Rattle.isp_exprs.specs.Calls.{suits, first_want, rest_of, arguments_among, function_call, call_of}
use Rattle.isp_exprs.specs.Typing.{Typing}
use Rattle.isp_exprs.specs.Rules.{wants_at, past_at, call_typing, call_of_typing, expr_typing, place_typing, argument_typing, arguments_typing}
use Rattle.isp_types.proofs.Meanings.{known_named}
use Rattle.isp_types.proofs.fine.Passed.{ok_is, no_ok, some_is, no_some}
use Rattle.isp_types.proofs.fine.FewExprs.{let_through, array_let, base_let}
use Rattle.isp_types.proofs.scoped.Names.{IsIn, AllIn}

-- an array is the variable of its number
array_numbered : (k : Known) (a : ArrayVariable) → array_of k ≡ Some a → k.number ≡ a.number
array_numbered k a e = go k.variable.holds refl
  where
    of_number : (b : ArrayVariable) → b ≡ a → k.number ≡ b.number → k.number ≡ a.number
    of_number b is q = subst (λ z. k.number ≡ z.number) is q

    go : (h : Holds) → k.variable.holds ≡ h → k.number ≡ a.number
    go (holds.Value t) q = absurd (no_some (rw q at e))
    go (holds.Given u) q = of_number _ (some_is _ a (rw q at e)) refl
    go (holds.Local t n) q = of_number _ (some_is _ a (rw q at e)) refl

module _ (v : Scope) where
  pub array_in : (k : Known) → IsIn v k → (a : ArrayVariable) → array_of k ≡ Some a → InScope v a.number
  array_in k known a e = subst (InScope v) (array_numbered k a e) known

  -- ---- made of parts

  pub converted_in : (e : Elem) (x : TExpr) → ExprIn v x → ExprIn v (converted e x)
  converted_in e x i = go (same_elem (elem_of x) e) refl
    where
      go : (t : Bool) → same_elem (elem_of x) e ≡ t → ExprIn v (converted e x)
      go true q = rw q i
      go false q = rw q i

  sign_in : (p : Prefix) (s : Span) (x : TExpr) → ExprIn v x → ExprIn v (with_sign p s x)
  sign_in sign.Negative s x i = converted_in (operand (elem_of x)) x i
  sign_in sign.Inverse s x i = converted_in (operand (elem_of x)) x i
  sign_in sign.Not s x i = converted_in Truth x i

  joined_in : (s : Span) (x y : TExpr) → ExprIn v x → ExprIn v y → (j : Joining) → ExprIn v (joins s x y j)
  joined_in s x y i k (joined_as.Computes b) = (converted_in (common (elem_of x) (elem_of y)) x i, converted_in (common (elem_of x) (elem_of y)) y k)
  joined_in s x y i k (joined_as.Compares c) = (converted_in (common (elem_of x) (elem_of y)) x i, converted_in (common (elem_of x) (elem_of y)) y k)
  joined_in s x y i k (joined_as.Decides l) = (converted_in Truth x i, converted_in Truth y k)

  pub variable_in : (s : Span) (k : Known) → IsIn v k → (p : TPlace) → variable_at s k ≡ Ok p → PlaceIn v p
  variable_in s k known p e = go k.variable.holds refl
    where
      go : (h : Holds) → k.variable.holds ≡ h → PlaceIn v p
      go (holds.Value t) q = subst (PlaceIn v) (ok_is _ p (rw q at e)) known
      go (holds.Given u) q = absurd (no_ok (rw q at e))
      go (holds.Local t n) q = absurd (no_ok (rw q at e))

  pub element_in : (s : Span) (k : Known) → IsIn v k → (x : TExpr) → ExprIn v x → (p : TPlace) → element_at s (k, x) ≡ Ok p → PlaceIn v p
  element_in s k known x i p e = go (array_of k) refl
    where
      go : (o : Option ArrayVariable) → array_of k ≡ o → PlaceIn v p
      go None q = absurd (no_ok (rw q at e))
      go (Some a) q = subst (PlaceIn v) (ok_is _ p (rw q at e)) (array_in k known a q, i)

  -- ---- arguments

  abbrev HandedIn : Handed → Type 0
  HandedIn (h_value x) = ExprIn v x
  HandedIn (h_run c) = CallIn v c
  HandedIn (h_array a s) = InScope v a.number
  HandedIn (h_name k s) = IsIn v k
  HandedIn (h_element k s x) = IsIn v k × ExprIn v x

  handed_in : (s : Span) (k : Known) → IsIn v k → HandedIn (handed_name s k)
  handed_in s k known = go k.variable.holds refl
    where
      go : (h : Holds) → k.variable.holds ≡ h → HandedIn (handed_name s k)
      go (holds.Value t) q = rw q known
      go (holds.Given u) q = rw q known
      go (holds.Local t n) q = rw q known

  abbrev PassedIn : Passed → Type 0
  PassedIn (p_value x) = ExprIn v x
  PassedIn (p_array a s) = InScope v a.number
  PassedIn (p_base b) = BaseIn v b
  PassedIn (p_destination k t s) = IsIn v k
  PassedIn p_unasked = Unit {0}

  named_in : (stored : Bool) (s : Span) (k : Known) → IsIn v k → (b : ArrayVariable → TBase) → ((a : ArrayVariable) → InScope v a.number → BaseIn v (b a))
      → (p : Passed) → base_named stored s (array_of k) b ≡ Ok p → PassedIn p
  named_in stored s k known b f p e = go (array_of k) refl
    where
      go : (o : Option ArrayVariable) → array_of k ≡ o → PassedIn p
      go None q = absurd (no_ok (rw q at e))
      go (Some a) q = subst PassedIn (base_let stored s a (b a) p (rw q at e)) (f a (array_in k known a q))

  destination_in : (s : Span) (k : Known) → IsIn v k → (p : Passed) → destination s k ≡ Ok p → PassedIn p
  destination_in s k known p e = go k.variable.holds refl
    where
      go : (h : Holds) → k.variable.holds ≡ h → PassedIn p
      go (holds.Value t) q = by t.rate refl
        where
          by : (r : Rate) → t.rate ≡ r → PassedIn p
          by Uniform d = absurd (no_ok (rw (q, d) at e))
          by Varying d = subst PassedIn (ok_is _ p (rw (q, d) at e)) known
      go (holds.Given u) q = absurd (no_ok (rw q at e))
      go (holds.Local t n) q = absurd (no_ok (rw q at e))

  suits_in : (w : Want) (s : Span) (h : Handed) → HandedIn h → (p : Passed) → suits w s h ≡ Ok p → PassedIn p
  suits_in AnyValue s (h_value x) i p e = subst PassedIn (ok_is _ p e) i
  suits_in (ValueOf t) s (h_value x) i p e = subst PassedIn (ok_is _ p e) (converted_in t x i)
  suits_in (ArrayOf t c) s (h_array a n) i p e = subst PassedIn (array_let t c s a p e) i
  suits_in (Base stored) s (h_array a n) i p e = subst PassedIn (base_let stored s a (t_whole a n) p e) i
  suits_in (Base stored) s (h_name k n) i p e = named_in stored s k i (λ a. t_whole a n) (λ a j. j) p e
  suits_in (Base stored) s (h_element k n x) i p e = named_in stored s k i.0 (λ a. t_from a x n) (λ a j. (j, i.1)) p e
  suits_in Destination s (h_name k n) i p e = destination_in s k i p e
  suits_in NoReference s (h_value x) i p e = subst PassedIn (ok_is _ p e) tt
  suits_in NoReference s (h_run c) i p e = subst PassedIn (ok_is _ p e) tt
  suits_in NoReference s (h_array a n) i p e = subst PassedIn (ok_is _ p e) tt
  suits_in Anything s h i p e = subst PassedIn (ok_is _ p e) tt
  suits_in w s h i p e = absurd (no_ok e)

  -- ---- calls

  abbrev AllPassedIn : List Passed → Type 0
  AllPassedIn [] = Unit {0}
  AllPassedIn (p ∷ ps) = PassedIn p × AllPassedIn ps

  abbrev pub CalledIn : Called → Type 0
  CalledIn (gives x) = ExprIn v x
  CalledIn (runs c) = CallIn v c

  arguments_among_in : (ps : List Passed) → AllPassedIn ps → ArgumentsIn v (arguments_among ps)
  arguments_among_in [] i = tt
  arguments_among_in (p_value x ∷ ps) i = (i.0, arguments_among_in ps i.1)
  arguments_among_in (p_array a s ∷ ps) i = (i.0, arguments_among_in ps i.1)
  arguments_among_in (p ∷ ps) i = arguments_among_in ps i.1

  parts_in : (t : Elem) (qs : List Part) (ps : List Passed) → AllPassedIn ps → ExprsIn v (as_parts t qs (values_among ps))
  parts_in t [] ps i = tt
  parts_in t (q ∷ qs) [] i = tt
  parts_in t (q ∷ qs) (p_value x ∷ ps) i = (converted_in (part_elem t q) x i.0, parts_in t qs ps i.1)
  parts_in t (q ∷ qs) (p ∷ ps) i = parts_in t (q ∷ qs) ps i.1

  function_in : (k : ℕ) (s : Span) (ps : List Passed) → AllPassedIn ps → (t : Option Ty) → CalledIn (function_call k s ps t)
  function_in k s ps i None = arguments_among_in ps i
  function_in k s ps i (Some t) = arguments_among_in ps i

  call_in : (s : Span) (c : Callee) (ps : List Passed) → AllPassedIn ps → (r : Called) → call_of s (c, ps) ≡ Ok r → CalledIn r
  call_in s callees.Unknown ps i r e = absurd (no_ok e)
  call_in s (callees.Miscounted packed) ps i r e = absurd (no_ok e)
  call_in s (callees.Function k (Err d)) ps i r e = absurd (no_ok e)
  call_in s (callees.Function k (Ok t)) ps i r e = subst CalledIn (ok_is _ r e) (function_in k s ps i t)
  call_in s (callees.Library f) ps i r e =
      subst CalledIn (ok_is (gives (library_call f s (values_among ps))) r e) (parts_in (worked_in f (map elem_of (values_among ps))) (parts f) ps i)
  call_in s callees.PackedStore (p_base b ∷ p_value x ∷ ps) i r e =
      subst CalledIn (ok_is (gives (t_packed_store b (converted (base_array b).ty.elem x) s)) r e) (i.0, converted_in (base_array b).ty.elem x i.1.0)
  call_in s callees.PackedStore ps i r e = absurd (no_ok e)
  call_in s callees.PackedLoad (p_base b ∷ p_destination k t p ∷ ps) i r e =
      subst CalledIn (let_through (same_elem t.elem (base_array b).ty.elem) k.variable.constant (fault Mismatch p) (fault ConstAssigned p) (gives (t_packed_load b k.number s)) r e) (i.0, i.1.0)
  call_in s callees.PackedLoad ps i r e = absurd (no_ok e)

  value_in : (s : Span) (c : Called) → CalledIn c → (x : TExpr) → value_called s c ≡ Ok x → ExprIn v x
  value_in s (gives y) i x e = subst (ExprIn v) (ok_is y x e) i
  value_in s (runs c) i x e = absurd (no_ok e)

  called_in : (c : Called) → CalledIn c → HandedIn (handed_call c)
  called_in (gives x) i = i
  called_in (runs c) i = i

module _ (gang : Gang) (hs : List Heading) (v : Scope) (ns : List Binding) (scope : AllIn v ns) where
  named_known : (w : Word) (k : Known) → named ns w ≡ Ok k → IsIn v k
  named_known = known_named (IsIn v) ns scope

  -- a call whose arguments are in scope
  made_in : (w : Word) (xs : Arguments) (s : Span) (rule : Want → List Want → Typing (List Passed))
      → ((ps : List Passed) → (rule (past_at hs w xs) (wants_at hs w xs)).is ps → AllPassedIn v ps) → (r : Called) → (call_typing hs w xs s rule).is r
      → CalledIn v r
  made_in w xs s rule inside r p = call_in v s p.0.0 p.0.1 (inside p.0.1 p.1.1) r p.2

  mutual
    pub expr_in : (x : Expr) (t : TExpr) → (expr_typing gang hs ns x).is t → ExprIn v t
    expr_in (number c s) t i = subst (ExprIn v) (sym i) tt
    expr_in (truth b s) t i = subst (ExprIn v) (sym i) tt
    expr_in (program_index s) t i = subst (ExprIn v) (sym i) tt
    expr_in (program_count s) t i = subst (ExprIn v) (sym i) tt
    expr_in (place p) t i = subst (ExprIn v) (sym i.2) (place_in p i.0 i.1)
    expr_in (call w xs s) t i = value_in v s i.0 (made_in w xs s (arguments_typing gang hs ns xs) (λ ps. arguments_in xs (past_at hs w xs) (wants_at hs w xs) ps) i.0 i.1) t i.2
    expr_in (brackets x s) t i = subst (ExprIn v) (sym i.2) (expr_in x i.0 i.1)
    expr_in (cast k x s) t i = subst (ExprIn v) (sym i.2) (converted_in v i.0.0.elem i.0.1 (expr_in x i.0.1 i.1.1))
    expr_in (prefix op x s) t i = subst (ExprIn v) (sym i.2) (sign_in v op s i.0 (expr_in x i.0 i.1))
    expr_in (binary op x y s) t i = subst (ExprIn v) (sym i.2) (joined_in v s i.0.0 i.0.1 (expr_in x i.0.0 i.1.0) (expr_in y i.0.1 i.1.1) (joining op))
    expr_in (choose c x y s) t i =
        let e = chosen (elem_of i.0.1.0) (elem_of i.0.1.1) in
        subst (ExprIn v) (sym i.2) (converted_in v Truth i.0.0 (expr_in c i.0.0 i.1.0), converted_in v e i.0.1.0 (expr_in x i.0.1.0 i.1.1.0), converted_in v e i.0.1.1 (expr_in y i.0.1.1 i.1.1.1))

    place_in : (p : Place) (t : TPlace) → (place_typing gang hs ns p).is t → PlaceIn v t
    place_in (variable w) t i = variable_in v w.span i.0 (named_known w i.0 i.1) t i.2
    place_in (element w x s) t i = element_in v s i.0.0 (named_known w i.0.0 i.1.0) i.0.1 (expr_in x i.0.1 i.1.1) t i.2

    argument_in : (x : Argument) (t : Handed) → (argument_typing gang hs ns x).is t → HandedIn v t
    argument_in (by_value (place (variable w))) t i = subst (HandedIn v) (sym i.2) (handed_in v w.span i.0 (named_known w i.0 i.1))
    argument_in (by_value (call w xs s)) t i = subst (HandedIn v) (sym i.2) (called_in v i.0 (made_in w xs s (arguments_typing gang hs ns xs) (λ ps. arguments_in xs (past_at hs w xs) (wants_at hs w xs) ps) i.0 i.1))
    argument_in (by_value x) t i = subst (HandedIn v) (sym i.2) (expr_in x i.0 i.1)
    argument_in (by_reference (variable w) s) t i = subst (HandedIn v) (sym i.2) (named_known w i.0 i.1)
    argument_in (by_reference (element w x e) s) t i = subst (HandedIn v) (sym i.2) (named_known w i.0.0 i.1.0, expr_in x i.0.1 i.1.1)

    arguments_in : (xs : Arguments) (past : Want) (ws : List Want) (ps : List Passed) → (arguments_typing gang hs ns xs past ws).is ps → AllPassedIn v ps
    arguments_in no_arguments past ws ps i = subst (AllPassedIn v) (sym i) tt
    arguments_in (argument_then x xs) past ws ps i =
        let one = i.1.0 in
        subst (AllPassedIn v) (sym i.2) (suits_in v (first_want past ws) (span_of_argument x) one.0 (argument_in x one.0 one.1) i.0.0 one.2, arguments_in xs past (rest_of ws) i.0.1 i.1.1)

  pub call_of_in : (w : Word) (xs : Arguments) (s : Span) (r : Called) → (call_of_typing gang hs ns w xs s).is r → CalledIn v r
  call_of_in w xs s r i = made_in w xs s (arguments_typing gang hs ns xs) (λ ps. arguments_in xs (past_at hs w xs) (wants_at hs w xs) ps) r i
