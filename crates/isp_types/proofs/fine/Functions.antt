-- Every program that names and types accept is fine.
use Rattle.std.proofs.Common.{◌≡◌, ℕ, zero, suc, ◌++◌, Bool, true, false, refl, sym, ap, subst, ◌∙◌, arith, append_assoc, take, drop}
use Rattle.std.specs.Prelude.{Option, List, [], ◌∷◌, length, map, Result, Ok, Err}
use Rattle.std.specs.List.{All}
use Rattle.std.proofs.Math.Seq.{take-append_seam, drop-append_seam}
use Rattle.std.proofs.lemmas.List.{append-nil, length-map}
use Rattle.std.proofs.lemmas.List.Elements.{All-cons, All-head, All-tail}
use Rattle.isp_base.specs.declared.types.Gang.{Gang}
use Rattle.isp_base.specs.declared.types.Ty.{Ty}
use Rattle.isp_lex.specs.declared.fault.Fault.{Fault}
use Rattle.isp_tree.specs.Sound.{IsSoundBlock, IsSoundFunction, IsSound}
use Rattle.isp_tree.specs.Tree.{Param, Block, Function}
use Rattle.isp_typed.specs.declared.variable.Variable.{Variable}
use Rattle.isp_typed.specs.Typed.{TBlock, TFunction, Program}
use Rattle.isp_typed.specs.Fine.{FineBlock, FineFunction, IsFine, IsDeclared, IsParam, AreParams}
use Rattle.isp_exprs.specs.declared.scope.Binding.{Binding}
use Rattle.isp_exprs.specs.declared.words.ValueWords.{ValueWords}
use Rattle.isp_exprs.specs.Words.{value_said, answer_said, type_declared}
use Rattle.isp_exprs.specs.Scopes.{with_name}
use Rattle.isp_exprs.specs.Callees.{Heading}
use Rattle.isp_types.specs.Numbering.{declared, block_variables}
use Rattle.isp_types.specs.Functions.{param_variable, param_names, params_names, param_want, parameter_of, heading, variables_of, param_span, body_typing, function_typing, functions_typing, IsProgram}
use Rattle.isp_types.proofs.NamesKept.{Grown, same, then as and_then}
use Rattle.isp_types.proofs.fine.Names.{InScope, no_names, name_added}
use Rattle.isp_types.proofs.fine.Callees.{IsWant, AreWants, Headed}
use Rattle.isp_types.proofs.fine.Passed.{ok_is, no_ok, some_is, no_some}
use Rattle.isp_types.proofs.fine.Simples.{no_all}
use Rattle.isp_types.proofs.fine.Differ.{params_differ, functions_differ}
use Rattle.isp_types.proofs.fine.FewStmts.{functions_few}
use Rattle.isp_types.proofs.fine.Declared.{Declares, block_declares}
use Rattle.isp_types.proofs.fine.Stmts.{block_grows, block_fine}

-- ---- parameters

-- the words of each parameter's type say one
abbrev AreSaid : List Param → Type 0
AreSaid [] = Unit {0}
AreSaid (p ∷ ps) = ((w : ValueWords) × (value_said p.ty ≡ Ok w)) × AreSaid ps

abbrev pub params_after : List Variable → List Param → List Variable
params_after vars [] = vars
params_after vars (p ∷ ps) = params_after (vars ++ param_variable p ∷ []) ps

pub params_are : (vars : List Variable) (ps : List Param) → params_after vars ps ≡ vars ++ map param_variable ps
params_are vars [] = sym (append-nil vars)
params_are vars (p ∷ ps) = params_are (vars ++ param_variable p ∷ []) ps ∙ append_assoc vars (param_variable p ∷ []) (map param_variable ps)

params_grow : (vars : List Variable) (ps : List Param) → Grown vars (params_after vars ps)
params_grow vars ps = record { more = map param_variable ps; is = params_are vars ps }

pub declared_is : (r : Result ValueWords Fault) (w : ValueWords) (v : Variable) → r ≡ Ok w → declared r v ≡ Ok v
declared_is (Ok u) w v e = refl
declared_is (Err f) w v e = absurd (no_ok e)

wanted : (p : Param) (w : ValueWords) → value_said p.ty ≡ Ok w → IsWant (param_want p) (param_variable p)
wanted p w e = go p.is_array refl
  where
    go : (b : Bool) → p.is_array ≡ b → IsWant (param_want p) (param_variable p)
    go true q = rw (e, q) (refl, refl)
    go false q = rw (e, q) (type_declared w, refl, refl)

all_wanted : (ps : List Param) → AreSaid ps → AreWants (map param_want ps) (map param_variable ps)
all_wanted [] s = tt
all_wanted (p ∷ ps) s = (wanted p s.0.0 s.0.1, all_wanted ps s.1)

seen : (p : Param) → IsParam (parameter_of p) (param_variable p).holds
seen p = go p.is_array refl
  where
    go : (b : Bool) → p.is_array ≡ b → IsParam (parameter_of p) (param_variable p).holds
    go true q = rw q (refl, refl)
    go false q = rw q (refl, refl)

all_seen : (ps : List Param) → AreParams (map parameter_of ps) (map param_variable ps)
all_seen [] = tt
all_seen (p ∷ ps) = (seen p, all_seen ps)

module _ (gang : Gang) (hs : List Heading) where
  body_said : (answer : Result (Option Ty) Fault) (ns : List Binding) (vars : List Variable) (ps : List Param) (b : Block) (t : TBlock) → (body_typing gang hs answer ns vars ps b).is t → AreSaid ps
  body_said answer ns vars [] b t i = tt
  body_said answer ns vars (p ∷ ps) b t i = let q = i.1.1 in ((q.0.0, q.1.0), body_said answer (param_names ns vars p) (vars ++ param_variable p ∷ []) ps b q.0.1 q.1.1)

  body_declares : (answer : Result (Option Ty) Fault) (ns : List Binding) (vars : List Variable) (ps : List Param) (b : Block) (t : TBlock) → (body_typing gang hs answer ns vars ps b).is t
      → Declares (params_after vars ps) (block_variables gang hs (params_names ns vars ps) (params_after vars ps) b)
  body_declares answer ns vars [] b t i = block_declares gang hs answer ns 0 vars b t i
  body_declares answer ns vars (p ∷ ps) b t i = let q = i.1.1 in body_declares answer (param_names ns vars p) (vars ++ param_variable p ∷ []) ps b q.0.1 q.1.1

  module _ (gs : List TFunction) (all : List Variable) (headed : Headed hs gs) (answer : Option Ty) where
    body_fine : (ns : List Binding) (vars : List Variable) (ps : List Param) (b : Block) → IsSoundBlock b → InScope all ns → Grown (block_variables gang hs (params_names ns vars ps) (params_after vars ps) b) all
        → (t : TBlock) → (body_typing gang hs (Ok answer) ns vars ps b).is t → FineBlock gs all answer t
    body_fine ns vars [] b h scope g t i = block_fine gang hs gs all headed answer ns 0 vars b h scope g t i
    body_fine ns vars (p ∷ ps) b h scope g t i =
        let q = i.1.1 in
        let g1 : Grown (vars ++ param_variable p ∷ []) all = and_then _ _ _ (params_grow (vars ++ param_variable p ∷ []) ps)
        (and_then _ _ _ (block_grows gang hs (params_names (param_names ns vars p) (vars ++ param_variable p ∷ []) ps)
        (params_after (vars ++ param_variable p ∷ []) ps) b) g) in
        let scope1 : InScope all (param_names ns vars p) = subst (λ r. InScope all (with_name ns vars p.word.name r))
        (sym (declared_is (value_said p.ty) q.0.0 (param_variable p) q.1.0)) (name_added all ns vars p.word.name (param_variable p) scope g1)
        in
        subst (FineBlock gs all answer) (sym q.2) (body_fine (param_names ns vars p) (vars ++ param_variable p ∷ []) ps b h scope1 g q.0.1 q.1.1)

-- ---- functions

-- the variables of a function are its parameters and what its body declares
variables_split : (gang : Gang) (hs : List Heading) (f : Function) (t : TBlock) → (body_typing gang hs (answer_said f.answer) [] [] f.params f.body).is t
    → (take (length (map param_span f.params)) (variables_of gang hs f) ≡ map param_variable f.params) × All IsDeclared (drop (length (map param_span f.params)) (variables_of gang hs f))
variables_split gang hs f t i =
    let d = body_declares gang hs (answer_said f.answer) [] [] f.params f.body t i in
    let is : variables_of gang hs f ≡ map param_variable f.params ++ d.more = rw (params_are [] f.params) at d.is in
    let n : length (map param_span f.params) ≡ length (map param_variable f.params) = length-map f.params param_span ∙ sym (length-map f.params param_variable) in
    (rw (n, is) (take-append_seam (map param_variable f.params) d.more), rw (n, is) (subst (All IsDeclared) (sym (drop-append_seam (map param_variable f.params) d.more)) d.each))

module _ (gang : Gang) (hs : List Heading) (gs : List TFunction) (headed : Headed hs gs) where
  function_fine : (earlier : List (List ℕ)) (f : Function) → IsSoundFunction f → (g : TFunction) → (function_typing gang hs earlier f).is g → FineFunction gs g
  function_fine earlier f h g i =
      let split = variables_split gang hs f i.0.1 i.1.1.1 in
      subst (FineFunction gs) (sym i.2) (record {
        params = subst (AreParams (map parameter_of f.params)) (sym split.0) (all_seen f.params);
        declared = split.1;
        gives = refl;
        names = params_differ gang hs (answer_said f.answer) [] [] f.params f.body i.0.1 i.1.1.1;
        body = body_fine gang hs gs (variables_of gang hs f) headed i.0.0 [] [] f.params f.body h.body (no_names (variables_of gang hs f)) (rw (params_are [] f.params) (same (variables_of gang hs f))) i.0.1
            (subst (λ r. (body_typing gang hs r [] [] f.params f.body).is i.0.1) i.1.1.0 i.1.1.1);
      })

  functions_fine : (earlier : List (List ℕ)) (fs : List Function) → All IsSoundFunction fs → (ts : List TFunction) → (functions_typing gang hs earlier fs).is ts → All (FineFunction gs) ts
  functions_fine earlier [] h ts i = subst (All (FineFunction gs)) (sym i) (no_all (FineFunction gs))
  functions_fine earlier (f ∷ fs) h ts i = subst (All (FineFunction gs)) (sym i.2)
      (All-cons (FineFunction gs) i.0.0 i.0.1 (function_fine earlier f (All-head IsSoundFunction f fs h) i.0.0 i.1.0) (functions_fine (earlier ++ f.word.name ∷ []) fs (All-tail IsSoundFunction f fs h) i.0.1 i.1.1))

-- each function, as callers see it, is the one of its number
headings_right : (gang : Gang) (hs : List Heading) (earlier : List (List ℕ)) (fs : List Function) (gs : List TFunction) → (functions_typing gang hs earlier fs).is gs → Headed (map heading fs) gs
headings_right gang hs earlier [] gs i k h t e a = absurd (no_some e)
headings_right gang hs earlier (f ∷ fs) gs i zero h t e a =
    let one = i.1.0 in
    let split = variables_split gang hs f one.0.1 one.1.1.1 in
    let is : heading f ≡ h = some_is (heading f) h e in
    let answer : Ok one.0.0 ≡ Ok t = sym one.1.1.0 ∙ (ap (λ (z : Heading). z.answer) is ∙ a) in
    rw (i.2, ← is) (i.0.0, refl, rw one.2 (ok_is one.0.0 t answer), rw (one.2, split.0) (all_wanted f.params (body_said gang hs (answer_said f.answer) [] [] f.params f.body one.0.1 one.1.1.1)))
headings_right gang hs earlier (f ∷ fs) gs i (suc k) h t e a =
    rw i.2 (headings_right gang hs (earlier ++ f.word.name ∷ []) fs i.0.1 i.1.1 k h t e a)

pub program_fine : (gang : Gang) (fs : List Function) (p : Program) → IsSound fs → IsProgram gang fs p → IsFine p
program_fine gang fs p h i = subst IsFine (sym i.2)
    (record {
      each = functions_fine gang (map heading fs) i.0 (headings_right gang (map heading fs) [] fs i.0 i.1) [] fs h.each i.0 i.1;
      names =
          functions_differ gang (map heading fs) [] fs i.0 i.1;
      few = omega (arith, h.few, functions_few gang (map heading fs) [] fs i.0 i.1);
    })
