-- Functions: steps of their loops, and what is made of their parts.
use Rattle.std.proofs.Common.{◌≡◌, ℕ, refl, sym, ap, subst, ◌∙◌, ◌++◌, map}
use Rattle.std.specs.Prelude.{Result, Ok, Err, Option, List, [], ◌∷◌, Bool, true, false, cond, bytes_eq, ◌||◌}
use Rattle.std.specs.List.{list_any}
use Rattle.std.proofs.lemmas.List.Folds.{list_any-append}
use Rattle.isp_base.specs.declared.types.Gang.{Gang}
use Rattle.isp_base.specs.declared.types.Ty.{Ty}
use Rattle.isp_lex.specs.declared.fault.Fault.{Fault}
use Rattle.isp_lex.specs.declared.fault.SourceFault.TheVariants.{Refused}
use Rattle.isp_lex.specs.declared.fault.Rule.TheVariants.{NameTwice, Mismatch}
use Rattle.isp_lex.specs.Faults.{fault}
use Rattle.isp_tree.specs.declared.function.Param as rust_param
use Rattle.isp_tree.specs.declared.function.Function as rust_function
use Rattle.isp_tree.specs.Tree.{Block, Function}
use Rattle.isp_tree.specs.Views.{param_of as read_param, function_of as read_function}
use Rattle.isp_typed.specs.declared.variable.Variable.{Variable}
use Rattle.isp_typed.specs.Promise.{Right, Accepts, Refuses}
use Rattle.isp_typed.specs.Typed.{TBlock, TFunction}
use Rattle.isp_typed.specs.Verdicts.{both, made, beside, fault_unless, first_of}
use Rattle.isp_typed.proofs.Verdicts.{beside_made, kept_made}
use Rattle.isp_exprs.specs.declared.scope.Binding.{Binding}
use Rattle.isp_exprs.specs.Callees.{Heading}
use Rattle.isp_exprs.specs.Words.{value_said, answer_said}
use Rattle.isp_exprs.specs.Rules.{second}
use Rattle.isp_types.specs.Functions.{param_variable, param_names, params_names, param_fits, heading, is_free, variables_of, function_made, program_made, IsProgram, Breach, body_typing, functions_typing}
use Rattle.isp_exprs.specs.reader.Lists.{and_one, fault_of}
use Rattle.isp_types.specs.reader.Lists.{param_fault, function_of_parts, twice, function_verdict}
use Rattle.isp_types.proofs.Functions.{program_right}
use Rattle.isp_types.proofs.Joined.{joined, joined_step, beside_assoc}

-- what stands after words that are found or not
behind_words : {A B : Type 0} (v : Result A Fault) (r : Result B Fault) → made second (both v r) ≡ beside (fault_of v) r
behind_words (Ok a) (Ok b) = refl
behind_words (Ok a) (Err e) = refl
behind_words (Err f) (Ok b) = refl
behind_words (Err f) (Err e) = refl

-- the first of four faults
three_beside : {A B : Type 0} (seen t m : Option Fault) (v : Result A Fault) (r : Result B Fault)
    → beside (first_of seen (first_of (first_of t m) (fault_of v))) r ≡ beside seen (beside t (beside m (made second (both v r))))
three_beside seen t m v r =
    beside_assoc seen (first_of (first_of t m) (fault_of v)) r
    ∙ ap (beside seen) (beside_assoc (first_of t m) (fault_of v) r ∙ (beside_assoc t m (beside (fault_of v) r) ∙ ap (λ z. beside t (beside m z)) (sym (behind_words v r))))

module _ (gang : Gang) (hs : List Heading) where
  -- the rest of a body after one more parameter
  pub params_step : (answer : Result (Option Ty) Fault) (ns : List Binding) (vars : List Variable) (rest more : List rust_param.Param) (b : Block) (total : Result TBlock Fault) (seen : Option Fault) (p : rust_param.Param)
      → rest ≡ p ∷ more
      → beside seen (body_typing gang hs answer ns vars (map read_param rest) b).verdict ≡ total
      → beside (first_of seen (param_fault ns (read_param p)))
      (body_typing gang hs answer (param_names ns vars (read_param p)) (vars ++ param_variable (read_param p) ∷ []) (map read_param more) b).verdict ≡ total
  params_step answer ns vars rest more b total seen p split h =
      three_beside seen (twice p.word 0 ns) (fault_unless (param_fits (read_param p)) (fault Mismatch p.word.span)) (value_said (read_param p).ty)
      (body_typing gang hs answer (param_names ns vars (read_param p)) (vars ++ param_variable (read_param p) ∷ []) (map read_param more) b).verdict
      ∙ subst (λ (z : List rust_param.Param). beside seen (body_typing gang hs answer ns vars (map read_param z) b).verdict ≡ total) split h

  pub functions_step : (taken : List (List ℕ)) (rest more : List rust_function.Function) (total : Result (List TFunction) Fault) (a : Result (List TFunction) Fault) (f : rust_function.Function)
      → rest ≡ f ∷ more
      → joined a (functions_typing gang hs taken (map read_function rest)).verdict ≡ total
      → joined (made and_one (both a (function_verdict gang hs (fault_unless (is_free taken f.word.name) (fault NameTwice f.word.span)) (read_function f))))
      (functions_typing gang hs (taken ++ f.word.name ∷ []) (map read_function more)).verdict ≡ total
  functions_step taken rest more total a f split h =
      joined_step a (function_verdict gang hs (fault_unless (is_free taken f.word.name) (fault NameTwice f.word.span)) (read_function f)) (functions_typing gang hs (taken ++ f.word.name ∷ []) (map read_function more)).verdict
      ∙ subst (λ (z : List rust_function.Function). joined a (functions_typing gang hs taken (map read_function z)).verdict ≡ total) split h

-- the names after one more parameter
pub params_names_step : (ns : List Binding) (vars : List Variable) (rest more : List rust_param.Param) (total : List Binding) (p : rust_param.Param) → rest ≡ p ∷ more
    → params_names ns vars (map read_param rest) ≡ total → params_names (param_names ns vars (read_param p)) (vars ++ param_variable (read_param p) ∷ []) (map read_param more) ≡ total
params_names_step ns vars rest more total p split e = subst (λ (z : List rust_param.Param). params_names ns vars (map read_param z) ≡ total) split e

-- the names that are taken, with one more
pub taken_step : (names : List (List ℕ)) (n w : List ℕ) (before after : Bool) → before ≡ list_any (λ z. bytes_eq z w) names → after ≡ cond (bytes_eq n w) true before
    → after ≡ list_any (λ z. bytes_eq z w) (names ++ n ∷ [])
taken_step names n w before after e a = a ∙ (ap (cond (bytes_eq n w) true) e ∙ (go (bytes_eq n w) (list_any (λ z. bytes_eq z w) names) ∙ sym (list_any-append (λ z. bytes_eq z w) names (n ∷ []))))
  where
    go : (t u : Bool) → cond t true u ≡ (u || (t || false))
    go true true = refl
    go true false = refl
    go false true = refl
    go false false = refl

-- what is made of a result and a body, of which the body is seen by a view, with the fault of the name
module _ {A B D E : Type 0} (view : B → D) (make : A × D → E) (o : Option Fault) (v : Result A Fault) (w : Result B Fault) (j : Result D Fault) where
  pub parts_seen : made view w ≡ j → made make (beside o (both v j)) ≡ made make (made (λ (p : A × B). (p.0, view p.1)) (beside o (both v w)))
  parts_seen e = ap (made make) (ap (λ z. beside o (both v z)) (sym e) ∙ (ap (beside o) (kept_made view (λ (p : A × D). p) v w) ∙ sym (beside_made (λ (p : A × B). (p.0, view p.1)) o (both v w))))

  pub parts_found : (a : A) (b : B) → made view w ≡ j → beside o (both v w) ≡ Ok (a, b) → Ok (make (a, view b)) ≡ made make (beside o (both v j))
  parts_found a b e p = sym (parts_seen e ∙ ap (λ z. made make (made (λ (q : A × B). (q.0, view q.1)) z)) p)

  pub parts_fail : (f : Fault) → made view w ≡ j → beside o (both v w) ≡ Err f → Err f ≡ made make (beside o (both v j))
  parts_fail f e p = sym (parts_seen e ∙ ap (λ z. made make (made (λ (q : A × B). (q.0, view q.1)) z)) p)

-- a function of its parts, or the fault of them
module _ (gang : Gang) (hs : List Heading) (f : Function) (taken : Option Fault) where
  judged : (ans : Result (Option Ty) Fault) → ans ≡ answer_said f.answer → made (function_made gang hs f) (beside taken (both ans (body_typing gang hs ans [] [] f.params f.body).verdict)) ≡ function_verdict gang hs taken f
  judged ans e = ap (λ z. made (function_made gang hs f) (beside taken (both z (body_typing gang hs z [] [] f.params f.body).verdict))) e

  pub function_found : {B : Type 0} (view : B → TBlock) (ans : Result (Option Ty) Fault) (w : Result B Fault) (g : TFunction) (vars : List Variable) (a : Option Ty) (b : B)
      → g ≡ function_of_parts f a vars (view b) → vars ≡ variables_of gang hs f → ans ≡ answer_said f.answer
      → made view w ≡ (body_typing gang hs ans [] [] f.params f.body).verdict → beside taken (both ans w) ≡ Ok (a, b) → Ok g ≡ function_verdict gang hs taken f
  function_found view ans w g vars a b p q e m h =
      ap (λ z. Ok z) (p ∙ ap (λ z. function_of_parts f a z (view b)) q)
      ∙ (parts_found view (function_made gang hs f) taken ans w (body_typing gang hs ans [] [] f.params f.body).verdict a b m h ∙ judged ans e)

  pub function_fails : {B : Type 0} (view : B → TBlock) (ans : Result (Option Ty) Fault) (w : Result B Fault) (x : Fault) → ans ≡ answer_said f.answer
      → made view w ≡ (body_typing gang hs ans [] [] f.params f.body).verdict → beside taken (both ans w) ≡ Err x → Err x ≡ function_verdict gang hs taken f
  function_fails view ans w x e m h = parts_fail view (function_made gang hs f) taken ans w (body_typing gang hs ans [] [] f.params f.body).verdict x m h ∙ judged ans e

-- the body of a function, with the fault of its parameters
pub body_seen : {B : Type 0} (view : B → TBlock) (seen : Option Fault) (w : Result B Fault) (inner whole : Result TBlock Fault) → made view w ≡ inner → beside seen inner ≡ whole → made view (beside seen w) ≡ whole
body_seen view seen w inner whole e h = beside_made view seen w ∙ (ap (beside seen) e ∙ h)

-- ---- programs

pub ok_seen : {A B : Type 0} (view : A → B) (v : Result A Fault) (x : A) (j : Result B Fault) → v ≡ Ok x → made view v ≡ j → Ok (view x) ≡ j
ok_seen view v x j e p = sym (ap (made view) e) ∙ p

pub err_seen : {A B : Type 0} (view : A → B) (v : Result A Fault) (x : Fault) (j : Result B Fault) → v ≡ Err x → made view v ≡ j → Err x ≡ j
err_seen view v x j e p = sym (ap (made view) e) ∙ p

pub fault_is : (f g : Fault) → Refused f ≡ Refused g → f ≡ g
fault_is f g e = cc

module _ (gang : Gang) (fs : List Function) where
  verdict : (v : Result (List TFunction) Fault) → v ≡ (functions_typing gang (map heading fs) [] fs).verdict → Right (made (program_made gang) v) (IsProgram gang fs) (Breach gang fs)
  verdict v e = subst (λ (z : Result (List TFunction) Fault). Right (made (program_made gang) z) (IsProgram gang fs) (Breach gang fs)) (sym e) (program_right gang fs)

  pub accepted : (gs : List TFunction) → Ok gs ≡ (functions_typing gang (map heading fs) [] fs).verdict → Accepts (IsProgram gang fs) (Breach gang fs) (program_made gang gs)
  accepted gs e = (verdict (Ok gs) e).by

  pub refused : (f : Fault) → Err f ≡ (functions_typing gang (map heading fs) [] fs).verdict → Refuses (IsProgram gang fs) (Breach gang fs) f
  refused f e = (verdict (Err f) e).by
